-- What the parity law is put together from.
use Rattle.std.specs.Prelude.{◌≡◌, ℕ, pos, ◌<ℤ◌, IsTrue, List, map, Contains}
use Rattle.overlay_terms.specs.Plane.{Point, Segment, same_place}
use Rattle.overlay_terms.specs.Column.{is_in_column}
use Rattle.overlay_terms.specs.Tiles.{Input, IsPiece, midpoint, below_bits, over_bits}
use Rattle.overlay_terms.specs.TileLaws.{IsInput, ParityLaw}
use Rattle.tile_laws.proofs.JustRight.{is_over_x, is_level, under_bits, up_to_bits, is_stretch_over}

-- the segments of an input, without their layers
abbrev pub segments_in : Input → List Segment
segments_in input = map (λ m. m.segment) input.marked

-- the sides of a piece that begins in the column are, over any x of the column that it passes over, what lies under its line
-- just right of that x, and that with what lies on its line
abbrev pub SidesAreKept : Type 0
SidesAreKept =
    (input : Input) (p r q : Point) (piece : IsPiece (segments_in input) p r) → IsInput input → pos 0 <ℤ q.w →
    IsTrue (is_in_column input.column p) → IsTrue (is_in_column input.column q) → IsTrue (is_stretch_over (p, r) q) → (k : ℕ) →
    (below_bits input.marked (midpoint p r) k ≡ under_bits input.marked piece.support q k)
    × (over_bits input.marked (midpoint p r) k ≡ up_to_bits input.marked piece.support q k)

-- a piece over the x of q, on a segment
pub record PieceOver (input : Input) (s : Segment) (q : Point) : Type 0 where
  pub from : Point
  pub to : Point
  pub piece : IsPiece (segments_in input) from to
  pub on_it : piece.support ≡ s
  pub begins : IsTrue (is_in_column input.column from)
  pub over : IsTrue (is_stretch_over (from, to) q)

-- each segment of the input over an x of the column has a piece there that begins in the column
abbrev pub EachHasAPiece : Type 0
EachHasAPiece =
    (input : Input) (s : Segment) (q : Point) → IsInput input → pos 0 <ℤ q.w → IsTrue (is_in_column input.column q) →
    Contains (segments_in input) s → IsTrue (is_over_x s q) → PieceOver input s q

-- two pieces on one line over one x are one
abbrev pub OnePieceOver : Type 0
OnePieceOver =
    (input : Input) (p r u v q : Point) (a : IsPiece (segments_in input) p r) (b : IsPiece (segments_in input) u v) → IsInput input →
    pos 0 <ℤ q.w → IsTrue (is_stretch_over (p, r) q) → IsTrue (is_stretch_over (u, v) q) → IsTrue (is_level a.support b.support q) →
    IsTrue (same_place p u) × IsTrue (same_place r v)

-- the parity law from these
abbrev pub ParityFromPieces : Type 0
ParityFromPieces = SidesAreKept → EachHasAPiece → OnePieceOver → ParityLaw
