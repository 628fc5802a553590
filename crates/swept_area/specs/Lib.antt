pub mod Swept
pub mod SweptLaws
pub mod Pieces
