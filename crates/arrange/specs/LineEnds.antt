-- The ends of segments on one line, and what a pass along the line counts of them.
use Rattle.std.specs.Prelude.{◌≡◌, ℕ, ◌<◌, ◌%◌, ◌==◌, if◌then◌else◌, [], ◌∷◌}
use Rattle.std.specs.Prelude.{not, true, false, nat_le, List, flat_map, count_by, Contains, Option, None}
use Rattle.std.specs.Option.{option_map}
use Rattle.std.specs.List.Sorted.{IsSortedByKey}
use Rattle.std.specs.declared.cmp.Ordering.TheVariants.{Equal}
use Rattle.overlay_terms.specs.Plane.{WholePoint, whole_cmp, segment_between}
use Rattle.overlay_terms.specs.Trees.{mask_bits}
use Rattle.overlay_terms.specs.Layers.{layers_max, Marked}
use Rattle.arrange.specs.Lines.{line_cmp}
use Rattle.arrange.specs.declared.line_end.LineEnd.{LineEnd}
use Rattle.arrange.specs.declared.line_seg.LineSeg.{LineSeg}
use Rattle.arrange.specs.declared.passed_ends.PassedEnds.{PassedEnds}
use Rattle.arrange.specs.declared.unit.Unit.{Unit}

-- any two of the segments are on one line
abbrev pub AreOnOneLine : List LineSeg → Type 0
AreOnOneLine run = (a b : LineSeg) → Contains run a → Contains run b → line_cmp a b ≡ Equal

-- the end where a segment opens
abbrev pub left_end : Marked → LineEnd
left_end m = record { at = m.segment.left; layer = m.layer; opens = true }

-- the end where it closes
abbrev pub right_end : Marked → LineEnd
right_end m = record { at = m.segment.right; layer = m.layer; opens = false }

-- both ends of each segment
abbrev pub both_ends : List Marked → List LineEnd
both_ends marked = flat_map (λ m. left_end m ∷ right_end m ∷ []) marked

-- from left to right along their line
abbrev pub AreInOrder : List LineEnd → Type 0
AreInOrder ends = IsSortedByKey (λ (e : LineEnd). e.at) whole_cmp ends

-- what is counted of some ends: those that open, those that close, and whether a layer has an odd number
pub record IsCounted (ends : List LineEnd) (passed : PassedEnds) : Type 0 where
  pub begun : passed.begun ≡ count_by (λ e. e.opens) ends
  pub ended : passed.ended ≡ count_by (λ e. not e.opens) ends
  pub mask : (k : ℕ) → k < layers_max → mask_bits passed.mask k ≡ (count_by (λ e. e.layer == k) ends % 2 == 1)

-- the stretch from one place to another, if they are apart and more segments have begun than have ended
abbrev pub open_unit : PassedEnds → WholePoint → WholePoint → Option Unit
open_unit passed from to =
    if nat_le passed.begun passed.ended then None
    else option_map (λ seg. record { seg = seg; mask = passed.mask }) (segment_between (from, to))
