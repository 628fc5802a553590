pub mod Fault
pub mod Rising
pub mod Turning
pub mod Column
pub mod Grid
pub mod Rows
