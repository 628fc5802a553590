pub mod CoreLemmas
pub mod ThinLemmas
pub mod LineLemmas
pub mod DrawnLemmas
pub mod LoopLemmas
