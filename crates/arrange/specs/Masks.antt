-- Which base layers have an odd number of segments over two places.
use Rattle.std.specs.Prelude.{ℕ, ◌%◌, ◌==◌, ◌&&◌, Bool, List, count_by}
use Rattle.overlay_terms.specs.Plane.{Point, is_on}
use Rattle.arrange.specs.declared.marked_seg.MarkedSeg.{MarkedSeg}

-- how many segments of a base layer hold both of two points
abbrev pub holding_count : List MarkedSeg → Point → Point → ℕ → ℕ
holding_count marked p r k = count_by (λ m. (m.layer == k) && (is_on m.seg p && is_on m.seg r)) marked

-- which base layers have an odd number of segments that hold both
abbrev pub holding_bits : List MarkedSeg → Point → Point → ℕ → Bool
holding_bits marked p r k = holding_count marked p r k % 2 == 1
