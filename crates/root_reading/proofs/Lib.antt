pub mod Rooms
mod LayerReadingLemmas
pub mod Looked
pub mod RootRunsLemmas
pub mod NearLemmas
mod Fronts
pub mod RecordLengths
mod StoredLemmas
