pub mod Among
pub mod Since
pub mod Storing
pub mod ReportedFaults
pub mod Unstored
pub mod Failing
pub mod Beginning
