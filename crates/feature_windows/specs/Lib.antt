pub mod Shown
pub mod Parts
pub mod Layers
pub mod Boundary
pub mod Sums
pub mod Windows
pub mod Laws
