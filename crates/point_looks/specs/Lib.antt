pub mod Floor
pub mod Outside
pub mod Spot
