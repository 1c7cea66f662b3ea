pub mod Lane
pub mod Words
