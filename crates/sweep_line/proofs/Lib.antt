pub mod ParityLemmas
pub mod InputLemmas
pub mod ListLemmas
pub mod Passing
pub mod SideTests
pub mod Sweeping
pub mod PassLemmas
pub mod EndLemmas
