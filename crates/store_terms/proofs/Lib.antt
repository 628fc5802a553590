pub mod FieldLemmas
pub mod LayoutLemmas
pub mod FrameLemmas
pub mod Loops
pub mod Accepting
pub mod SpelledLemmas
pub mod HeldLemmas
pub mod OrderlyHeld
pub mod OldHeld
pub mod RecordLemmas
pub mod BaseLemmas
pub mod NameTests
mod Rows
pub mod BodyLemmas
