-- Masks of what changes from one point to the next, and marks of single points.
use Rattle.std.specs.Prelude.{◌≡◌, ℕ, ◌+◌, ◌<◌, ◌%◌, ◌==◌, ◌&&◌, ◌||◌, if◌then◌else◌}
use Rattle.std.specs.Prelude.{not, false, Bool, List, take, length, count_by, slice_index_or}
use Rattle.overlay_terms.specs.Plane.{Point}
use Rattle.overlay_terms.specs.Trees.{mask_bits}
use Rattle.overlay_grid.specs.declared.rising.Rise.{Rise}
use Rattle.overlay_grid.specs.Rising.{point_at}

-- whether a bit has changed an odd number of times among the first so many
abbrev pub turned : List ℕ → ℕ → ℕ → Bool
turned masks n k = count_by (λ m. mask_bits m k) (take n masks) % 2 == 1

-- a layer's bit, changed or not
abbrev pub flipped_if : Bool → Bool → Bool
flipped_if change b = if change then not b else b

-- at each point where a test holds the bit of a layer has changed once more
abbrev pub AreTurned : (Point → Bool) → ℕ → Rise → List ℕ → List ℕ → Type 0
AreTurned test layer rise before after =
    (j k : ℕ) → j < length before
    → turned after (j + 1) k ≡ flipped_if ((layer == k) && test (point_at rise j)) (turned before (j + 1) k)

-- whether the point at a place is marked
abbrev pub is_marked : List Bool → ℕ → Bool
is_marked edges j = slice_index_or edges j false

-- each point where a test holds is marked, and those that were
abbrev pub AreMarked : (Point → Bool) → Rise → List Bool → List Bool → Type 0
AreMarked test rise before after =
    (j : ℕ) → j < length before → is_marked after j ≡ (is_marked before j || test (point_at rise j))
