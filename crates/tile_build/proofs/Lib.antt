pub mod PieceLemmas
pub mod SameLemmas
pub mod CountedLemmas
pub mod EndLemmas
pub mod StripSplit
pub mod StripLemmas
