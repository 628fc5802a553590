-- The columns of the plane: vertical bands, each without its right border. Their number and width are given here alone.
use Rattle.std.specs.Prelude.{ℕ, ℤ, ◌+◌, ◌*◌, ◌-ℤ◌, ◌*ℤ◌, ◌<ℤ◌, ◌≤ℤ◌, ◌&&◌, if◌then◌else◌}
use Rattle.std.specs.Prelude.{pos, neg_ℤ, int_le, int_lt, Bool, List, nat_lt, Option, Some, None}
use Rattle.std.specs.List.{range_with_len}
use Rattle.overlay_terms.specs.Plane.{Point, Segment, coordinate_max}

-- how many columns there are; of the last only its left border, x = 2^20, can have points
abbrev pub column_count : ℕ
column_count = 33

-- how wide a column is, 2^16
abbrev pub column_width : ℕ
column_width = 65536

-- the numbers of the columns
abbrev pub columns : List ℕ
columns = range_with_len 0 column_count

-- the column with a number, if there is one
abbrev pub column_numbered : ℕ → Option ℕ
column_numbered number = if nat_lt number column_count then Some number else None

-- the left border of a column
abbrev pub border : ℕ → ℤ
border k = pos (k * column_width) -ℤ pos coordinate_max

-- x / w lies within the coordinates
abbrev pub IsInPlane : ℤ → ℤ → Type 0
IsInPlane x w = (neg_ℤ (pos coordinate_max *ℤ w) ≤ℤ x) × (x ≤ℤ (pos coordinate_max *ℤ w))

-- border k <= x / w < border (k + 1)
abbrev pub IsInColumn : ℕ → ℤ → ℤ → Type 0
IsInColumn k x w = ((border k *ℤ w) ≤ℤ x) × (x <ℤ (border (k + 1) *ℤ w))

-- whether a point lies in a column: not left of its left border, and left of its right border
abbrev pub is_in_column : ℕ → Point → Bool
is_in_column k p = int_le (border k *ℤ p.w) p.x && int_lt p.x (border (k + 1) *ℤ p.w)

-- the segment has a point in the column
abbrev pub touches : ℕ → Segment → Bool
touches k s = int_le (border k) s.right.x && int_lt s.left.x (border (k + 1))
