pub mod Supports
pub mod RowLemmas
pub mod Oversize
