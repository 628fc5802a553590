-- At the right border of a strip all nodes are known: each is an end or a border place.
use Rattle.std.proofs.Common.{◌≡◌, ℕ, ℤ, pos, ◌+◌, ◌-◌, ◌<◌, ◌*ℤ◌, ◌<ℤ◌, ◌≤ℤ◌, inl, inr, ◌⊎◌, false, subst, arith}
use Rattle.std.specs.Prelude.{int_le, int_lt, ◌≢◌}
use Rattle.std.proofs.lemmas.Int.{ints, by_lt_z}
use Rattle.std.proofs.lemmas.Bool.{both_ways, and_from, cases_eq}
use Rattle.overlay_terms.specs.Plane.{Point, point_cmp}
use Rattle.overlay_terms.specs.Column.{column_count, border}
use Rattle.overlay_terms.proofs.InputNumbers.{x_in_order, most_back, most_times, last_turned, true_le, true_lt}
use Rattle.overlay_terms.proofs.Whole.{same_most}
use Rattle.std.specs.declared.cmp.Ordering.TheVariants.{Less}
use Rattle.exact_point.specs.declared.point.HPoint.{HPoint}
use Rattle.crossing_sweep.specs.StripInput.{is_in_strip, Span}
use Rattle.crossing_sweep.specs.Queue.{IsUpTo}

-- a place not left of a strip, but not in it, is not left of its right border
pub not_left : (strip : Span) (p : Point) → (border strip.first *ℤ p.w) ≤ℤ p.x → is_in_strip strip p ≡ false → (border (strip.last + 1) *ℤ p.w) ≤ℤ p.x
not_left strip p from out =
    by_lt_z p.x (border (strip.last + 1) *ℤ p.w)
    (λ h. absurd (both_ways (is_in_strip strip p) out (and_from (int_le (border strip.first *ℤ p.w) p.x) (int_lt p.x (border (strip.last + 1) *ℤ p.w)) (true_le (border strip.first *ℤ p.w) p.x from) (true_lt p.x (border (strip.last + 1) *ℤ p.w) h)))) (λ h. h)

-- there its last column is not the last one: no coordinate lies beyond it
pub not_last : (k : ℕ) (at : HPoint) → k < column_count → (border (k + 1) *ℤ at.w) ≤ℤ at.x → k + 1 < column_count
not_last k at few over = by (cases_eq k (column_count - 1))
  where
    beyond : (x w : ℤ) → pos 1 ≤ℤ w → x ≤ℤ (pos 1048576 *ℤ w) → (border column_count *ℤ w) ≤ℤ x → ⊥
    beyond x w hw h l = omega (arith, ints, hw, h, l)

    by : (k ≡ column_count - 1) ⊎ (k ≢ column_count - 1) → k + 1 < column_count
    by (inl e) = absurd (beyond at.x at.w at.w_low at.x_high (subst (λ j. (border (j + 1) *ℤ at.w) ≤ℤ at.x) e over))
    by (inr ne) = few_more k ne few
      where
        few_more : (k : ℕ) → k ≢ column_count - 1 → k < column_count → k + 1 < column_count
        few_more k ne l = omega (arith, ne, l)

-- a later place of the closed strip is on the right border, too
pub on_border : (strip : Span) (r p : Point) → pos 0 <ℤ r.w → pos 0 <ℤ p.w → (border (strip.last + 1) *ℤ r.w) ≤ℤ r.x → point_cmp r p ≡ Less → IsUpTo strip p → p.x ≡ border (strip.last + 1) *ℤ p.w
on_border strip r p hr hp over less up_to = same_most p.x (border (strip.last + 1) *ℤ p.w) up_to (from_later (border (strip.last + 1)) r.x r.w p.x p.w hr hp over (x_in_order r p less))
  where
    from_later : (b x w y v : ℤ) → pos 0 <ℤ w → pos 0 <ℤ v → (b *ℤ w) ≤ℤ x → (x *ℤ v) ≤ℤ (y *ℤ w) → (b *ℤ v) ≤ℤ y
    from_later b x w y v hw hv h k = most_back (b *ℤ v) y w hw (omega (arith, ints, k, most_times (b *ℤ w) x v hv h, last_turned b w v))
