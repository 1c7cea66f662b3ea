pub mod Lengths
pub mod Marks
pub mod Selection
pub mod inside
