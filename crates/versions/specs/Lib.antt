pub mod Fault
pub mod VersionCode
pub mod Laid
pub mod Version
pub mod Content
pub mod Finish
pub mod Pending
pub mod Building
