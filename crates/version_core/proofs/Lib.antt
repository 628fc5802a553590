pub mod EdgeLemmas
pub mod LineLemmas
pub mod VerdictLemmas
