pub mod Octets
pub mod Spreading
pub mod Unspreading
