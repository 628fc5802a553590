pub mod Results
pub mod Sent
pub mod SentBook
pub mod Answered
pub mod Marking
pub mod HandingOut
pub mod StripLemmas
mod RowLooks
pub mod Failures
