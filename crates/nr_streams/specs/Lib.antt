pub mod Source
pub mod Sink
pub mod Records
pub mod Fields
pub mod inside
