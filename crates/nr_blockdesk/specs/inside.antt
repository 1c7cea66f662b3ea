pub mod Receiving
pub mod PartMasks
pub mod Words
pub mod Cursors
