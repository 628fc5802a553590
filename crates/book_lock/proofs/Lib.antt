pub mod Beginning
pub mod Finishing
pub mod Growing
pub mod Hearing
pub mod Reportings
pub mod SentLog
pub mod Turning
