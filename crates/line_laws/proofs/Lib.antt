pub mod Asking
pub mod Entries
pub mod Views
pub mod Runs
