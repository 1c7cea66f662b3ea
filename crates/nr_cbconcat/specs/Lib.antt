pub mod Concatenation
