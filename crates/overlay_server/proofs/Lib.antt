pub mod Alone
mod Asked
pub mod Counts
mod Disks
pub mod Durable
pub mod Held
pub mod Lists
pub mod Parts
mod Refusals
mod Reporting
pub mod Runs
pub mod Sent
pub mod ServedParts
pub mod StoppedParts
pub mod Stopping
pub mod StoreParts
pub mod Strangers
