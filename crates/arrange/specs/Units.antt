-- Units: the stretches between the ends of collinear segments.
use Rattle.std.specs.Prelude.{◌≡◌, ℕ, pos, ◌<◌, ◌%◌, ◌==◌, ◌&&◌, ◌||◌, Bool, IsTrue, List, map, count_by, All, Contains}
use Rattle.std.specs.List.{AllPairs, list_any}
use Rattle.std.specs.Ordering.{int_eq}
use Rattle.std.specs.declared.cmp.Ordering.TheVariants.{Less}
use Rattle.overlay_terms.specs.Plane.{WholePoint, Segment, whole, whole_cmp, same_whole, height_over, is_on}
use Rattle.overlay_terms.specs.Trees.{mask_bits}
use Rattle.overlay_terms.specs.Layers.{layers_max, Marked}
use Rattle.arrange.specs.declared.unit.Unit.{Unit}

-- both ends of a segment lie on the line of another
abbrev pub is_collinear : Segment → Segment → Bool
is_collinear s t = int_eq (height_over s (whole t.left)) (pos 0) && int_eq (height_over s (whole t.right)) (pos 0)

-- a segment holds both ends of a stretch
abbrev pub covers : Segment → Segment → Bool
covers t s = is_on t (whole s.left) && is_on t (whole s.right)

-- an end of a segment that lies on the line of s
abbrev pub is_end_along : List Marked → Segment → WholePoint → Bool
is_end_along marked s v =
    list_any (λ m. is_collinear s m.segment && (same_whole v m.segment.left || same_whole v m.segment.right)) marked

-- a stretch between two ends on its line that a segment covers, with no end strictly between
pub record IsUnit (marked : List Marked) (s : Segment) : Type 0 where
  pub forward : whole_cmp s.left s.right ≡ Less
  pub from_end : IsTrue (is_end_along marked s s.left)
  pub to_end : IsTrue (is_end_along marked s s.right)
  pub covered : IsTrue (list_any (λ m. covers m.segment s) marked)
  pub none_between : (v : WholePoint) → IsTrue (is_end_along marked s v) → whole_cmp s.left v ≡ Less
      → whole_cmp v s.right ≡ Less → ⊥

-- which base layers have an odd number of segments over a stretch
abbrev pub cover_bits : List Marked → Segment → ℕ → Bool
cover_bits marked s k = count_by (λ m. (m.layer == k) && covers m.segment s) marked % 2 == 1

-- the units of some segments, each once, with the layers that have an odd number there
pub record AreUnits (marked : List Marked) (units : List Unit) : Type 0 where
  pub sound : All (λ u. IsUnit marked u.seg) units
  pub masks : All (λ u. (k : ℕ) → k < layers_max → mask_bits u.mask k ≡ cover_bits marked u.seg k) units
  pub once : AllPairs (λ u v. ¬ (u.seg ≡ v.seg)) units
  pub complete : (s : Segment) → IsUnit marked s → Contains (map (λ (u : Unit). u.seg) units) s
