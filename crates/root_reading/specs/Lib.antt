pub mod Looking
pub mod LayerReading
pub mod Contents
pub mod RootRuns
pub mod Stored
