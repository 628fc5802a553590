-- Pieces that are read one after another, as those of a tile of a column.
use Rattle.std.specs.Prelude.{ℕ, Bool, ◌&&◌, List, map}
use Rattle.std.specs.List.{list_all}
use Rattle.overlay_terms.specs.Column.{is_in_column}
use Rattle.overlay_terms.specs.Histories.{is_rising}
use Rattle.exact_point.specs.NamedPiece.{NamedPiece, ends_of}

-- whether pieces begin in a column and rise
abbrev pub are_in_order : ℕ → List NamedPiece → Bool
are_in_order k pieces = list_all (λ p. is_in_column k (ends_of p).0) pieces && is_rising (map ends_of pieces)
