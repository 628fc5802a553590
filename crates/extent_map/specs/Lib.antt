pub mod Blocks
pub mod Extents
pub mod Fault
pub mod FirstFit
pub mod Taken
