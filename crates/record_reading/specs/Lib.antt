pub mod Fault
pub mod Answers
pub mod Added
pub mod PieceOrder
