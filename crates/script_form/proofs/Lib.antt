pub mod Pieces
pub mod LongLines
pub mod ReadLemmas
pub mod TranscriptLemmas
pub mod TurnLemmas
pub mod OpenBatchLemmas
pub mod Fronts
pub mod ArgumentLemmas
pub mod LineLaws
pub mod JoinLaws
mod Rows
