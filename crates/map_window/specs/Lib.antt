pub mod Window
pub mod Drawn
pub mod Fault
