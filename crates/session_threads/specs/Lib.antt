pub mod Counting
pub mod Fuse
pub mod Rooms
pub mod Running
pub mod Seats
