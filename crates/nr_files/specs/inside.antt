pub mod Furthest
pub mod Words
