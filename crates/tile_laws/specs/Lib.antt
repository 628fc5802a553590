pub mod SameTile
pub mod TileExists
pub mod LayerTile
pub mod Rays
pub mod JustRight
