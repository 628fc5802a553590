pub mod NextVersion
pub mod BuiltLemmas
pub mod NextBatch
pub mod PendingLemmas
pub mod WaitRefusals
