pub mod ListLemmas
pub mod ExpressionLemmas
pub mod SpelledLemmas
pub mod RowLemmas
pub mod KnownLemmas
pub mod PairLemmas
