pub mod Parity
pub mod Rows
pub mod CoreRows
pub mod Codeword
pub mod inside
