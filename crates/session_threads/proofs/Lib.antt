pub mod Lists
pub mod NotBegun
pub mod Sent
