pub mod Simulating
pub mod Batches
pub mod Words
pub mod Placings
pub mod Joinings
pub mod Keepings
