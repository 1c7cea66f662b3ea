pub mod Interleaving
pub mod inside
