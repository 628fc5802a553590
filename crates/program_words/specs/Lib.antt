pub mod CommandLine
pub mod Fault
pub mod LiveLine
pub mod Plans
pub mod Synopsis
