pub mod Edges
pub mod Verdict
