-- Where each segment has an even number of the four signs, the segments under a line are even or odd in number alike at both
-- borders of a strip of the column.
use Rattle.std.specs.Prelude.{◌≡◌, ℕ, ◌%◌, ◌==◌, Bool, true, false, ◌&&◌, List, All}
use Rattle.std.specs.Ordering.{int_eq}
use Rattle.std.proofs.Common.{refl, ap, sym, ◌∙◌, arith}
use Rattle.std.proofs.lemmas.Bool.{and_parts, and_from}
use Rattle.std.proofs.lemmas.Bool.Decides.{Decides-int_eq}
use Rattle.std.proofs.lemmas.List.Elements.{All-weaker}
use Rattle.overlay_terms.specs.Plane.{WholePoint, Point, Segment, same_whole}
use Rattle.overlay_terms.specs.Layers.{Marked}
use Rattle.overlay_terms.specs.TileLaws.{ends_at}
use Rattle.tile_laws.proofs.JustRight.{is_over_x, is_under, under_bits}
use Rattle.tile_laws.proofs.EvenRegion.{differ, odd, Respects, even_within}
use Rattle.tile_laws.proofs.SideStrip.{is_in_strip, strip_parity}
use Rattle.tile_laws.proofs.SideCount.{odd_count, odd_differ, odd_never, layer_ends, odd_ends, is_one, even_there}

-- it holds of both where two whole points are one
alike : (f : WholePoint → Bool) (a b : WholePoint) → same_whole a b ≡ true → f a ≡ f b
alike f a b h =
    let parts = and_parts (int_eq a.x b.x) (int_eq a.y b.y) h in
    ap (λ z. f (record { x = z; y = a.y })) ((Decides-int_eq a.x b.x).0 parts.0)
    ∙ ap (λ z. f (record { x = b.x; y = z })) ((Decides-int_eq a.y b.y).0 parts.1)

-- a whole point is one with itself
one_itself : (e : WholePoint) → is_one e e ≡ true
one_itself e = and_from (int_eq e.x e.x) (int_eq e.y e.y) ((Decides-int_eq e.x e.x).1 refl) ((Decides-int_eq e.y e.y).1 refl)

-- no test on whole points separates two that are one
respects : (f : WholePoint → Bool) → Respects is_one f
respects f a b h = alike f b a h

-- a test that holds only of whole points that are an even number of ends holds of an even number of ends
pub region_even : (f : WholePoint → Bool) (k : ℕ) (marked : List Marked) → ((e : WholePoint) → f e ≡ true → ends_at marked k e % 2 ≡ 0) → odd f (layer_ends k marked) ≡ false
region_even f k marked h =
    even_within is_one f (layer_ends k marked) one_itself (λ u. respects (is_one u)) (respects f) (λ e holds. even_there k e marked (h e holds))

-- ---- the four signs of all segments of a layer
pub layered : (b a c d e : Bool) → differ a (differ c (differ d e)) ≡ false → differ (b && a) (differ (b && c) (differ (b && d) (b && e))) ≡ false
layered true a c d e h = h
layered false a c d e h = refl

-- an even number of four, the last two of them even together, leaves the first two alike
pub alike_from : (a c d : Bool) → differ a (differ c d) ≡ false → d ≡ false → a ≡ c
alike_from a c d h e = grind (arith, h, e)

module _ (s : Segment) (u v : Point) (marked : List Marked) (k : ℕ) where
  -- the four tests of a marked segment
  abbrev first : Marked → Bool
  first m = (m.layer == k) && (is_over_x m.segment u && is_under m.segment s u)

  abbrev second : Marked → Bool
  second m = (m.layer == k) && (is_over_x m.segment v && is_under m.segment s v)

  abbrev left_end : Marked → Bool
  left_end m = (m.layer == k) && is_in_strip s u v m.segment.left

  abbrev right_end : Marked → Bool
  right_end m = (m.layer == k) && is_in_strip s u v m.segment.right

  -- all four together
  all_four : All (λ m. strip_parity s m.segment u v ≡ false) marked → differ (odd first marked) (differ (odd second marked) (differ (odd left_end marked) (odd right_end marked))) ≡ false
  all_four signs =
      sym (odd_differ first (λ m. differ (second m) (differ (left_end m) (right_end m))) marked
      ∙ ap (differ (odd first marked)) (odd_differ second (λ m. differ (left_end m) (right_end m)) marked)
      ∙ ap (λ b. differ (odd first marked) (differ (odd second marked) b)) (odd_differ left_end right_end marked))
      ∙ odd_never (λ m. differ (first m) (differ (second m) (differ (left_end m) (right_end m)))) marked
      (All-weaker (λ m. strip_parity s m.segment u v ≡ false) (λ m. differ (first m) (differ (second m) (differ (left_end m) (right_end m))) ≡ false)
      (λ m h. layered (m.layer == k) (is_over_x m.segment u && is_under m.segment s u) (is_over_x m.segment v && is_under m.segment s v) (is_in_strip s u v m.segment.left) (is_in_strip s u v m.segment.right) h) marked signs)

  -- the bits under the line are the same at both borders
  pub under_alike : All (λ m. strip_parity s m.segment u v ≡ false) marked → ((e : WholePoint) → is_in_strip s u v e ≡ true → ends_at marked k e % 2 ≡ 0) → under_bits marked s u k ≡ under_bits marked s v k
  under_alike signs even =
      odd_count first marked
      ∙ alike_from (odd first marked) (odd second marked) (differ (odd left_end marked) (odd right_end marked)) (all_four signs)
      (sym (odd_ends (is_in_strip s u v) k marked) ∙ region_even (is_in_strip s u v) k marked even)
      ∙ sym (odd_count second marked)
