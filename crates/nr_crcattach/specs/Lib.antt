pub mod Attachment
pub mod Crc
pub mod inside
