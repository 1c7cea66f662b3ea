pub mod Closure
pub mod Certificates
pub mod Touches
pub mod Peeling
pub mod Laws
pub mod Slices
pub mod State
pub mod inside
