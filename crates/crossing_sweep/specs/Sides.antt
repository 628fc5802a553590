-- The sides of a piece, by what lies under its line in the leaned plane.
use Rattle.std.specs.Prelude.{◌≡◌, ℕ, ℤ, pos, ◌≤ℤ◌, IsTrue, List, map}
use Rattle.std.specs.declared.cmp.Ordering.TheVariants.{Less}
use Rattle.overlay_terms.specs.Plane.{Point, point_cmp, denominator_max}
use Rattle.overlay_terms.specs.Layers.{Marked}
use Rattle.overlay_terms.specs.Tiles.{IsPiece, midpoint, below_bits, over_bits}
use Rattle.tile_laws.specs.JustRight.{under_bits, up_to_bits}
use Rattle.crossing_sweep.specs.StripInput.{StripInput, IsStripInput, is_in_strip, Span}
use Rattle.crossing_sweep.specs.Leaning.{lean, lean_segment, IsSteep, IsSmall}

-- marked segments, leaned
abbrev pub lean_marked : ℤ → List Marked → List Marked
lean_marked n marked = map (λ m. record { layer = m.layer; segment = lean_segment n m.segment }) marked

-- an end of a piece: a small place whose denominator is not too great
pub record IsNodal (p : Point) : Type 0 where
  pub small : IsSmall p
  pub few : p.w ≤ℤ pos denominator_max

-- a place from p on and before r, in the strip
pub record IsPassed (strip : Span) (p r q : Point) : Type 0 where
  pub small : IsSmall q
  pub from : point_cmp q p ≡ Less → ⊥
  pub to : point_cmp q r ≡ Less
  pub within : IsTrue (is_in_strip strip q)

-- the sides of a piece that begins in the strip, upright or not, are what lies under its line and up to it just after
-- each place of the strip that it passes
abbrev pub SidesAreCarried : Type 0
SidesAreCarried =
    (n : ℤ) (input : StripInput) (p r q : Point) (piece : IsPiece (map (λ m. m.segment) input.marked) p r) (k : ℕ)
    → IsSteep n → IsStripInput input → IsNodal p → IsNodal r →
    IsTrue (is_in_strip input.strip p) → IsPassed input.strip p r q →
    (below_bits input.marked (midpoint p r) k
    ≡ under_bits (lean_marked n input.marked) (lean_segment n piece.support) (lean n q) k)
    × (over_bits input.marked (midpoint p r) k
    ≡ up_to_bits (lean_marked n input.marked) (lean_segment n piece.support) (lean n q) k)
