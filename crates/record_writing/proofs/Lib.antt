pub mod PieceLemmas
mod PutLemmas
pub mod StoredLemmas
mod TileLemmas
