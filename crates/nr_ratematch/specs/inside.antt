pub mod Places
pub mod Cycles
