pub mod Ends
pub mod Linked
pub mod Receptions
pub mod Walks
