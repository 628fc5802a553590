pub mod Reading
pub mod Kept
pub mod Plan
pub mod Filed
pub mod Drafts
pub mod Placed
pub mod EqualityTests
pub mod HeldApart
pub mod Sitting
pub mod Apart
pub mod Stays
pub mod Entries
pub mod Counted
pub mod Completed
pub mod Walked
mod Rows
pub mod Imaged
pub mod Sized
mod CatalogSize
mod Short
mod Roomed
mod HeldLemmas
