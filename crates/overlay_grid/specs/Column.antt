-- The answers at points one above the other, from the segments and steps in reach.
use Rattle.std.specs.Prelude.{◌≡◌, ℕ, ◌+◌, ◌<◌, Bool, List, map, length, if◌then◌else◌}
use Rattle.std.specs.List.{list_any, range_with_len}
use Rattle.overlay_terms.specs.Layers.{Marked}
use Rattle.overlay_terms.specs.Plane.{Point, is_on}
use Rattle.overlay_terms.specs.Tiles.{below_bits}
use Rattle.overlay_terms.specs.Trees.{Steps, steps_value}
use Rattle.overlay_grid.specs.declared.rising.Rise.{Rise}
use Rattle.overlay_grid.specs.Rising.{point_at}
use Rattle.overlay_grid.specs.Turning.{turned, flipped_if}

-- the character of an answer: + on an edge, else # inside and . outside
abbrev pub mark_by : Bool → Bool → ℕ
mark_by edge inside = if edge then 43 else (if inside then 35 else 46)

-- whether a segment holds a point
abbrev pub is_on_marked : List Marked → Point → Bool
is_on_marked marked p = list_any (λ m. is_on m.segment p) marked

-- the character of a point: on an edge where a segment holds it, else by the steps at the
-- parities of the segments below
abbrev pub mark_at : List Marked → Steps → Point → ℕ
mark_at marked steps p = mark_by (is_on_marked marked p) (steps_value steps (below_bits marked p))

-- the characters of so many points, from below
abbrev pub column_text : List Marked → Steps → Rise → ℕ → List ℕ
column_text marked steps rise count = map (λ j. mark_at marked steps (point_at rise j)) (range_with_len 0 count)

-- at each point the bits have changed once more by the parities of the segments below it
abbrev pub AreTurnedBy : List Marked → Rise → List ℕ → List ℕ → Type 0
AreTurnedBy marked rise before after =
    (j k : ℕ) → j < length before
    → turned after (j + 1) k ≡ flipped_if (below_bits marked (point_at rise j) k) (turned before (j + 1) k)
