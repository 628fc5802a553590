pub mod SortLemmas
pub mod BoundaryLemmas
