mod Exclusive
mod Gaps
pub mod Plans
mod Rows
