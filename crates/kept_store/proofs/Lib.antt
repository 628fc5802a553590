pub mod Following
pub mod Histories
pub mod Remembered
pub mod SinceLemmas
pub mod Storage
pub mod FailLemmas
pub mod ReportsLemmas
