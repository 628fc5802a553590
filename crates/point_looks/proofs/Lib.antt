mod FloorLemmas
pub mod LookLemmas
mod BoundLemmas
mod BlockLemmas
