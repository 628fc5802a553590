-- The column of a place, and the middle of two places with its sides, are the same whatever the denominators.
use Rattle.std.specs.Prelude.{◌≡◌, ℕ, ℤ, pos, ◌+◌, ◌%◌, ◌==◌, ◌+ℤ◌, ◌*ℤ◌, ◌≤ℤ◌, ◌<ℤ◌, int_le, int_lt, Bool, not, ◌&&◌, ◌||◌, IsTrue, List, count_by}
use Rattle.std.specs.Cmp.{both_ways}
use Rattle.std.proofs.Common.{ap, sym, ◌∙◌, arith}
use Rattle.std.proofs.lemmas.Int.{ints}
use Rattle.std.proofs.lemmas.Bool.{and_from}
use Rattle.overlay_terms.specs.Plane.{Point, Segment, same_place, is_below, is_on}
use Rattle.overlay_terms.specs.Column.{border, is_in_column}
use Rattle.overlay_terms.specs.Trees.{Steps, steps_value}
use Rattle.overlay_terms.specs.Layers.{Marked}
use Rattle.overlay_terms.specs.Tiles.{midpoint, below_bits, over_bits, under_of, over_of}
use Rattle.overlay_terms.proofs.Difference.{split, whole_is, differences, same}
use Rattle.overlay_terms.proofs.Functions.{fun_ext}
use Rattle.overlay_terms.proofs.InputNumbers.{turned, le_true, true_le, least_through, middle_positive}
use Rattle.overlay_terms.proofs.PlaceLemmas.{IsSamePlace, places_alike, below_alike, on_alike}
use Rattle.exact_point.proofs.PlaceOrder.{level_test, same_turned}

-- ---- the column
-- an equation as at most
most_from : (a b : ℤ) → a ≡ b → a ≤ℤ b
most_from a b e = omega (arith, ints)

-- before is not at most, turned round
lt_not : (a b : ℤ) → int_lt a b ≡ not (int_le b a)
lt_not a b = grind (arith, ints)

module _ (p q : Point) (hp : pos 0 <ℤ p.w) (hq : pos 0 <ℤ q.w) (e : IsTrue (same_place p q)) (b : ℤ) where
  -- what is not left of a line is not at the other denominator
  not_left : (b *ℤ p.w) ≤ℤ p.x → (b *ℤ q.w) ≤ℤ q.x
  not_left h = least_through p q b hp hq (most_from (p.x *ℤ q.w) (q.x *ℤ p.w) (places_alike p q hp hq e).x_level) h

module _ (p q : Point) (hp : pos 0 <ℤ p.w) (hq : pos 0 <ℤ q.w) (e : IsTrue (same_place p q)) where
  -- a line is at most at both, or at neither
  from_alike : (b : ℤ) → int_le (b *ℤ p.w) p.x ≡ int_le (b *ℤ q.w) q.x
  from_alike b =
      both_ways (int_le (b *ℤ p.w) p.x) (int_le (b *ℤ q.w) q.x)
      (λ h. true_le (b *ℤ q.w) q.x (not_left p q hp hq e b (le_true (b *ℤ p.w) p.x h)))
      (λ h. true_le (b *ℤ p.w) p.x (not_left q p hq hp (same_turned p q e) b (le_true (b *ℤ q.w) q.x h)))

  -- both are left of a line, or neither
  to_alike : (b : ℤ) → int_lt p.x (b *ℤ p.w) ≡ int_lt q.x (b *ℤ q.w)
  to_alike b = lt_not p.x (b *ℤ p.w) ∙ ap not (from_alike b) ∙ sym (lt_not q.x (b *ℤ q.w))

  -- both are in a column, or neither
  pub in_column_alike : (k : ℕ) → is_in_column k p ≡ is_in_column k q
  in_column_alike k =
      ap (λ t. t && int_lt p.x (border (k + 1) *ℤ p.w)) (from_alike (border k))
      ∙ ap (λ t. int_le (border k *ℤ q.w) q.x && t) (to_alike (border (k + 1)))

-- ---- the middle
-- the mean of a / w and b / v over other denominators
mean_form : (a b w v y z : ℤ) → ((a *ℤ v) +ℤ (b *ℤ w)) *ℤ (pos 2 *ℤ (y *ℤ z)) ≡ (pos 2 *ℤ ((a *ℤ y) *ℤ (v *ℤ z))) +ℤ (pos 2 *ℤ ((b *ℤ z) *ℤ (w *ℤ y)))
mean_form a b w v y z = rw (split a, split b, split w, split v, split y, split z, whole_is 2) (simp differences (same _ _ _ _ (omega arith)))

-- it is the mean of the same fractions there
mean_level : (a b w v c d y z : ℤ) → a *ℤ y ≡ c *ℤ w → b *ℤ z ≡ d *ℤ v → ((a *ℤ v) +ℤ (b *ℤ w)) *ℤ (pos 2 *ℤ (y *ℤ z)) ≡ ((c *ℤ z) +ℤ (d *ℤ y)) *ℤ (pos 2 *ℤ (w *ℤ v))
mean_level a b w v c d y z e f =
    mean_form a b w v y z
    ∙ ap (λ n. (pos 2 *ℤ (n *ℤ (v *ℤ z))) +ℤ (pos 2 *ℤ ((b *ℤ z) *ℤ (w *ℤ y)))) e
    ∙ ap (λ n. (pos 2 *ℤ ((c *ℤ w) *ℤ (v *ℤ z))) +ℤ (pos 2 *ℤ (n *ℤ (w *ℤ y)))) f
    ∙ ap (λ n. (pos 2 *ℤ ((c *ℤ w) *ℤ n)) +ℤ (pos 2 *ℤ ((d *ℤ v) *ℤ (w *ℤ y)))) (turned v z)
    ∙ ap (λ n. (pos 2 *ℤ ((c *ℤ w) *ℤ (z *ℤ v))) +ℤ (pos 2 *ℤ ((d *ℤ v) *ℤ n))) (turned w y)
    ∙ sym (mean_form c d y z w v)

module _ (p r u v : Point) (first : IsSamePlace p u) (second : IsSamePlace r v) where
  -- the middles are one place
  middles : IsSamePlace (midpoint p r) (midpoint u v)
  middles = record {
    p_positive = middle_positive p r first.p_positive second.p_positive;
    q_positive = middle_positive u v first.q_positive second.q_positive;
    x_level = mean_level p.x r.x p.w r.w u.x v.x u.w v.w first.x_level second.x_level;
    y_level = mean_level p.y r.y p.w r.w u.y v.y u.w v.w first.y_level second.y_level;
  }

  -- as the test says it
  middles_test : IsTrue (same_place (midpoint p r) (midpoint u v))
  middles_test =
      and_from _ _ (level_test ((midpoint p r).x *ℤ (midpoint u v).w) ((midpoint u v).x *ℤ (midpoint p r).w) middles.x_level)
      (level_test ((midpoint p r).y *ℤ (midpoint u v).w) ((midpoint u v).y *ℤ (midpoint p r).w) middles.y_level)

  module _ (marked : List Marked) (steps : Steps) where
    -- the segments below the middles
    below_level : below_bits marked (midpoint p r) ≡ below_bits marked (midpoint u v)
    below_level =
        ap (λ (below : Segment → Bool). λ (k : ℕ). count_by (λ m. (m.layer == k) && below m.segment) marked % 2 == 1)
        (fun_ext (λ s. below_alike (midpoint p r) (midpoint u v) middles s))

    -- a segment is below or on both middles, or neither
    near_level : (s : Segment) → (is_below s (midpoint p r) || is_on s (midpoint p r)) ≡ (is_below s (midpoint u v) || is_on s (midpoint u v))
    near_level s =
        ap (λ b. b || is_on s (midpoint p r)) (below_alike (midpoint p r) (midpoint u v) middles s)
        ∙ ap (λ b. is_below s (midpoint u v) || b) (on_alike (midpoint p r) (midpoint u v) middles s middles_test)

    -- the segments below the middles or on them
    over_level : over_bits marked (midpoint p r) ≡ over_bits marked (midpoint u v)
    over_level =
        ap (λ (near : Segment → Bool). λ (k : ℕ). count_by (λ m. (m.layer == k) && near m.segment) marked % 2 == 1) (fun_ext near_level)

    -- the sides under the two pairs
    pub under_level : under_of marked steps p r ≡ under_of marked steps u v
    under_level = ap (steps_value steps) below_level

    -- the sides over them
    pub over_side_level : over_of marked steps p r ≡ over_of marked steps u v
    over_side_level = ap (steps_value steps) over_level
