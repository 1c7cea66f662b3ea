pub mod Bit
pub mod BitList
pub mod Marks
pub mod Packed
pub mod inside
