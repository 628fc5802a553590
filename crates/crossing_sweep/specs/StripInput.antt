-- What a pass over a strip of neighbouring columns is made of, and the pieces of the boundary that begin there. A
-- column is a strip, too.
use Rattle.std.specs.Prelude.{◌≡◌, ◌≢◌, ℕ, ◌+◌, ◌%◌, ◌<◌, ◌≤◌, ◌*ℤ◌, ◌&&◌}
use Rattle.std.specs.Prelude.{int_le, int_lt, Bool, IsTrue, refl, List, map, filter, All, AllPairs, Any}
use Rattle.std.specs.Coded.{Coded, code_by, coded_list, coded×, coded_ℕ}
use Rattle.std.specs.declared.cmp.Ordering.TheVariants.{Less}
use Rattle.overlay_terms.specs.Plane.{WholePoint, Point, Segment, whole, same_place}
use Rattle.overlay_terms.specs.Column.{column_count, border, touches}
use Rattle.overlay_terms.specs.Trees.{Steps}
use Rattle.overlay_terms.specs.TreeCode.{steps_code}
use Rattle.overlay_terms.specs.Layers.{layers_max, Marked}
use Rattle.overlay_terms.specs.InputCode.{marked_code}
use Rattle.overlay_terms.specs.Tiles.{Input, IsPiece, under_of, over_of, pair_cmp}
use Rattle.overlay_terms.specs.TileLaws.{IsProper, ends_at}

-- neighbouring columns, from the first to the last one, both included
pub record Span : Type 0 where
  pub first : ℕ
  pub last : ℕ

-- from the left border of a strip on, and before its right border
abbrev pub is_in_strip : Span → Point → Bool
is_in_strip strip p = int_le (border strip.first *ℤ p.w) p.x && int_lt p.x (border (strip.last + 1) *ℤ p.w)

-- the same with its right border
abbrev pub is_in_closed_strip : Span → Point → Bool
is_in_closed_strip strip p = int_le (border strip.first *ℤ p.w) p.x && int_le p.x (border (strip.last + 1) *ℤ p.w)

-- what a pass is made of: a strip, marked segments, whichever they are, and the definitions in reach
pub record StripInput : Type 0 where
  pub strip : Span
  pub marked : List Marked
  pub steps : Steps

-- as data that a model's value may hold
abbrev pub strip_input_code : Coded StripInput
strip_input_code =
    code_by ((ℕ × ℕ) × (List Marked × Steps)) (coded× (coded× coded_ℕ coded_ℕ) (coded× (coded_list marked_code) steps_code)) (λ i. ((i.strip.first, i.strip.last), (i.marked, i.steps)))
    (λ t. record { strip = record { first = t.0.0; last = t.0.1 }; marked = t.1.0; steps = t.1.1 }) (λ _. refl)

-- the input of a tile, whose strip is one column
abbrev pub strip_of : Input → StripInput
strip_of input =
    record { strip = record { first = input.column; last = input.column }; marked = input.marked; steps = input.steps }

-- the input of the tile of one of its columns
abbrev pub part : StripInput → ℕ → Input
part input k = record { column = k; marked = filter (λ m. touches k m.segment) input.marked; steps = input.steps }

-- the segments
abbrev pub segments_in : StripInput → List Segment
segments_in input = map (λ (m : Marked). m.segment) input.marked

-- proper segments of the base layers that the steps know; each whole point in the strip is an end of an even
-- number of each layer's segments
pub record IsStripInput (input : StripInput) : Type 0 where
  pub in_order : input.strip.first ≤ input.strip.last
  pub known : input.strip.last < column_count
  pub few : input.steps.bases ≤ layers_max
  pub known_layers : All (λ m. m.layer < input.steps.bases) input.marked
  pub proper : All (λ m. IsProper m.segment) input.marked
  pub even : (k : ℕ) (v : WholePoint) → IsTrue (is_in_strip input.strip (whole v)) → ends_at input.marked k v % 2 ≡ 0

-- a piece of the boundary, its left end in the strip
pub record IsStripBoundary (marked : List Marked) (steps : Steps) (strip : Span) (p r : Point) : Type 0 where
  pub piece : IsPiece (map (λ m. m.segment) marked) p r
  pub begins : IsTrue (is_in_strip strip p)
  pub sides : under_of marked steps p r ≢ over_of marked steps p r

-- some pieces of the boundary in the strip, in order and each once
pub record AreStripSome (input : StripInput) (some : List (Point × Point)) : Type 0 where
  pub ordered : AllPairs (λ a b. pair_cmp a b ≡ Less) some
  pub sound : All (λ a. IsStripBoundary input.marked input.steps input.strip a.0 a.1) some

-- all of them
pub record IsStripTile (input : StripInput) (tile : List (Point × Point)) : Type 0 where
  pub are_some : AreStripSome input tile
  pub complete : (p r : Point) → IsStripBoundary input.marked input.steps input.strip p r
      → Any (λ a. IsTrue (same_place p a.0 && same_place r a.1)) tile
