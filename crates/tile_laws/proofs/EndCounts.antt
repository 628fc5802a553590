-- Two tests of a layer's segments, each time differing by the ends in a region: they count alike where the region has an even number of ends.
use Rattle.std.specs.Prelude.{◌≡◌, ℕ, ◌%◌, ◌==◌, Bool, true, false, ◌&&◌, List, count_by, All}
use Rattle.std.proofs.Common.{ap, sym, ◌∙◌}
use Rattle.std.proofs.lemmas.List.Elements.{All-weaker}
use Rattle.overlay_terms.specs.Plane.{WholePoint, Segment}
use Rattle.overlay_terms.specs.Layers.{Marked}
use Rattle.overlay_terms.specs.TileLaws.{ends_at}
use Rattle.tile_laws.proofs.EvenRegion.{differ, odd}
use Rattle.tile_laws.proofs.SideCount.{odd_count, odd_differ, odd_never, odd_ends}
use Rattle.tile_laws.proofs.SideRegion.{region_even, layered, alike_from}

module _ (first second : Segment → Bool) (region : WholePoint → Bool) where
  -- an even number of the two tests and the ends in the region
  abbrev pub IsEven : Segment → Type 0
  IsEven t = differ (first t) (differ (second t) (differ (region t.left) (region t.right))) ≡ false

  module _ (marked : List Marked) (k : ℕ) where
    abbrev one : Marked → Bool
    one m = (m.layer == k) && first m.segment

    abbrev two : Marked → Bool
    two m = (m.layer == k) && second m.segment

    abbrev left_end : Marked → Bool
    left_end m = (m.layer == k) && region m.segment.left

    abbrev right_end : Marked → Bool
    right_end m = (m.layer == k) && region m.segment.right

    -- all together
    all_four : All (λ m. IsEven m.segment) marked → differ (odd one marked) (differ (odd two marked) (differ (odd left_end marked) (odd right_end marked))) ≡ false
    all_four signs =
        sym (odd_differ one (λ m. differ (two m) (differ (left_end m) (right_end m))) marked
        ∙ ap (differ (odd one marked)) (odd_differ two (λ m. differ (left_end m) (right_end m)) marked)
        ∙ ap (λ b. differ (odd one marked) (differ (odd two marked) b)) (odd_differ left_end right_end marked))
        ∙ odd_never (λ m. differ (one m) (differ (two m) (differ (left_end m) (right_end m)))) marked
        (All-weaker (λ m. IsEven m.segment) (λ m. differ (one m) (differ (two m) (differ (left_end m) (right_end m))) ≡ false)
        (λ m h. layered (m.layer == k) (first m.segment) (second m.segment) (region m.segment.left) (region m.segment.right) h) marked signs)

    -- so both tests count alike
    pub count_alike_by_ends : All (λ m. IsEven m.segment) marked → ((v : WholePoint) → region v ≡ true → ends_at marked k v % 2 ≡ 0)
        → (count_by (λ m. (m.layer == k) && first m.segment) marked % 2 == 1) ≡ (count_by (λ m. (m.layer == k) && second m.segment) marked % 2 == 1)
    count_alike_by_ends signs even =
        odd_count one marked
        ∙ alike_from (odd one marked) (odd two marked) (differ (odd left_end marked) (odd right_end marked)) (all_four signs)
        (sym (odd_ends region k marked) ∙ region_even region k marked even)
        ∙ sym (odd_count two marked)
