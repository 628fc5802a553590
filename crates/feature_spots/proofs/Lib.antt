pub mod StepLemmas
pub mod LoopLemmas
pub mod ReachLemmas
pub mod RingLemmas
