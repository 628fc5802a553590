pub mod Terms
pub mod Reading
pub mod Jobs
pub mod Block
pub mod Fault
pub mod Answers
