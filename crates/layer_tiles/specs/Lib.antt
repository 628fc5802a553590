pub mod Tiles
pub mod TileCode
pub mod Table
pub mod Filling
