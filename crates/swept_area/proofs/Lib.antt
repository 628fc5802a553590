pub mod Floors
pub mod Farther
pub mod LineLemmas
pub mod OneLine
pub mod NearLemmas
pub mod LawLemmas
pub mod AreaLemmas
