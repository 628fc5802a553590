pub mod Clamping
pub mod Sides
pub mod Steps
pub mod Moves
pub mod Lines
pub mod ListLemmas
pub mod Frames
pub mod Maps
