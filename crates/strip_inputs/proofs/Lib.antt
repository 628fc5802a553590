pub mod Parts
pub mod Few
pub mod Gathered
pub mod Valid
pub mod Own
