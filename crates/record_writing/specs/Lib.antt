pub mod Putting
pub mod Stored
pub mod Tiles
