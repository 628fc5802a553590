mod Asked
mod Asking
mod Line
mod Live
mod LiveLemmas
mod Overlayd
mod RequestLemmas
mod Rows
