pub mod CheckLines
pub mod CheckText
pub mod Command
pub mod CutLines
pub mod CutText
pub mod Faults
pub mod Hex
pub mod inside
