-- What touches a column has all the ends in it: closed segments leave closed inputs.
use Rattle.std.specs.Prelude.{◌≡◌, ℕ, pos, ◌%◌, ◌==◌, ◌<◌, ◌*ℤ◌, ◌≤ℤ◌, true, ◌&&◌, List, filter, count_by, All}
use Rattle.std.specs.Ordering.{int_eq}
use Rattle.std.proofs.Common.{ap, ◌∙◌, arith}
use Rattle.std.proofs.lemmas.Bool.{and_parts}
use Rattle.std.proofs.lemmas.Bool.Decides.{Decides-int_eq}
use Rattle.std.proofs.lemmas.Int.{ints}
use Rattle.std.proofs.lemmas.List.Elements.{All-filter, filter_passes}
use Rattle.overlay_terms.specs.Plane.{WholePoint, Segment, whole, same_whole}
use Rattle.overlay_terms.specs.Column.{touches}
use Rattle.overlay_terms.specs.Layers.{Marked}
use Rattle.overlay_terms.specs.TileLaws.{ends_at, IsProper}
use Rattle.overlay_terms.specs.InputLaws.{ClosedIsInput}
use Rattle.overlay_terms.proofs.InputNumbers.{times_one, left_most, touches_at}
use Rattle.overlay_terms.proofs.InputLists.{count_kept_all}
use Rattle.overlay_terms.proofs.InputNodes.{IsIn, is_in}

-- a whole point that is another has its x
x_alike : (a v : WholePoint) → same_whole a v ≡ true → a.x ≡ v.x
x_alike a v h = (Decides-int_eq a.x v.x).0 (and_parts (int_eq a.x v.x) (int_eq a.y v.y) h).0

module _ (k : ℕ) (v : WholePoint) (within : IsIn k (whole v)) (s : Segment) (proper : IsProper s) where
  -- a segment with its left end at a point of the column touches it
  left_touches : same_whole s.left v ≡ true → touches k s ≡ true
  left_touches h =
      let e : s.left.x ≡ v.x = x_alike s.left v h in
      let wide : s.left.x ≤ℤ s.right.x = left_most s proper.first in
      let l : s.left.x *ℤ pos 1 ≡ s.left.x = times_one s.left.x in
      let r : s.right.x *ℤ pos 1 ≡ s.right.x = times_one s.right.x in
      touches_at k s v.x (pos 1) within.positive (omega (arith, ints)) (omega (arith, ints)) within.low within.high

  -- a segment with its right end there too
  right_touches : same_whole s.right v ≡ true → touches k s ≡ true
  right_touches h =
      let e : s.right.x ≡ v.x = x_alike s.right v h in
      let wide : s.left.x ≤ℤ s.right.x = left_most s proper.first in
      let l : s.left.x *ℤ pos 1 ≡ s.left.x = times_one s.left.x in
      let r : s.right.x *ℤ pos 1 ≡ s.right.x = times_one s.right.x in
      touches_at k s v.x (pos 1) within.positive (omega (arith, ints)) (omega (arith, ints)) within.low within.high

-- the ends at a whole point of the column are those of the segments that touch it
ends_kept : (marked : List Marked) (k j : ℕ) (v : WholePoint) → IsIn k (whole v) → All (λ m. IsProper m.segment) marked → ends_at (filter (λ m. touches k m.segment) marked) j v ≡ ends_at marked j v
ends_kept marked k j v within proper =
    let l : count_by (λ (m : Marked). (m.layer == j) && same_whole m.segment.left v) (filter (λ m. touches k m.segment) marked) ≡ count_by (λ m. (m.layer == j) && same_whole m.segment.left v) marked =
    count_kept_all (λ (m : Marked). (m.layer == j) && same_whole m.segment.left v) (λ m. touches k m.segment) (λ m. IsProper m.segment) marked (λ m is_proper h. left_touches k v within m.segment is_proper (and_parts (m.layer == j) (same_whole m.segment.left v) h).1) proper in
    let r : count_by (λ (m : Marked). (m.layer == j) && same_whole m.segment.right v) (filter (λ m. touches k m.segment) marked) ≡ count_by (λ m. (m.layer == j) && same_whole m.segment.right v) marked =
    count_kept_all (λ (m : Marked). (m.layer == j) && same_whole m.segment.right v) (λ m. touches k m.segment) (λ m. IsProper m.segment) marked (λ m is_proper h. right_touches k v within m.segment is_proper (and_parts (m.layer == j) (same_whole m.segment.right v) h).1) proper in
    omega arith

-- of closed segments, those that touch a column are the input of a tile
pub closed_is_input : ClosedIsInput
closed_is_input marked steps k column few known closed =
    record {
      column = column;
      few = few;
      touch = filter_passes (λ m. touches k m.segment) marked;
      known_layers = All-filter (λ m. touches k m.segment) (λ m. m.layer < steps.bases) marked known;
      proper = All-filter (λ m. touches k m.segment) (λ m. IsProper m.segment) marked closed.proper;
      even = λ j v h. ap (λ n. n % 2) (ends_kept marked k j v (is_in k (whole v) (omega (arith, ints)) h) closed.proper) ∙ closed.even j v;
    }
