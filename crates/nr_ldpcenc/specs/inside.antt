pub mod Solving
pub mod Doubled
pub mod Words
