pub mod Steps
pub mod Healed
pub mod Blank
mod FindingLemmas
mod TakenLemmas
mod HealingLemmas
mod LaidLemmas
mod WritingLemmas
pub mod Reasons
mod OpeningLemmas
mod CreatingLemmas
mod Stable
pub mod Known
mod Arms
