pub mod Drawing
pub mod inside
