mod DefinitionLemmas
mod Failing
mod NameBytes
mod NamedPieceLemmas
mod PointLemmas
mod PieceOrderLemmas
mod Tails
