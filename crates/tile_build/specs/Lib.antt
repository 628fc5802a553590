pub mod Piece
pub mod Tile
pub mod Counted
pub mod StripTiles
