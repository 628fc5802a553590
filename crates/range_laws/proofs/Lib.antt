pub mod Ranges
pub mod Spelled
