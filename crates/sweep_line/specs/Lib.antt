pub mod Label
pub mod RightEnds
pub mod Status
pub mod Sweep
