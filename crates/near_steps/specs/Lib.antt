pub mod Cores
pub mod Thinned
pub mod Drawn
