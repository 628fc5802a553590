pub mod Loops
pub mod HeadLemmas
