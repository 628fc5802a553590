pub mod Imaging
pub mod Stored
