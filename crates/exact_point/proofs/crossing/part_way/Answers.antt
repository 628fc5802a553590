use Rattle.std.proofs.Common.{◌≡◌, ℤ, pos, neg_ℤ, ◌+ℤ◌, ◌-ℤ◌, ◌*ℤ◌, ◌≤ℤ◌, ◌^◌, ap, sym, subst, ◌∙◌, arith, lit<, to_z, of_z}
use Rattle.std.specs.Int.{w128}
use Rattle.std.proofs.lemmas.Int.{ints}
use Rattle.overlay_terms.specs.Plane.{coordinate_max, denominator_max}
use Rattle.overlay_terms.specs.Within.{IsWithin}
use Rattle.overlay_terms.proofs.Bounds.{read}
use Rattle.exact_point.proofs.NarrowBounds.{narrow_read, widened}
use Rattle.exact_point.proofs.Readings.{differ, multiply, part_high, part_low, part_small, way_high, way_small, whole_is, whole_read}
use Rattle.exact_point.proofs.crossing.part_way.Goals as goal

way_within : (r w : ℤ) → pos 1 ≤ℤ w → w ≤ℤ pos denominator_max → neg_ℤ (pos coordinate_max *ℤ w) ≤ℤ r → r ≤ℤ (pos coordinate_max *ℤ w) → IsWithin (2 ^ 63) r
way_within r w l h lo hi = record { low = omega (arith, ints); high = omega (arith, ints) }

-- what lies within a way's room is read as it is
reads_as : (r w e : ℤ) → pos 1 ≤ℤ w → w ≤ℤ pos denominator_max → e ≡ w → neg_ℤ (pos coordinate_max *ℤ e) ≤ℤ r → r ≤ℤ (pos coordinate_max *ℤ e) → to_z w128 (of_z w128 r) ≡ r
reads_as r w e l h ew lo hi =
    read (2 ^ 63) r (way_within r w l h (subst (λ (z : ℤ). neg_ℤ (pos coordinate_max *ℤ z) ≤ℤ r) ew lo) (subst (λ (z : ℤ). r ≤ℤ (pos coordinate_max *ℤ z)) ew hi)) (lit< tt)

in_plane : {r w e f : ℤ} → pos 1 ≤ℤ w → w ≤ℤ pos denominator_max → e ≡ w → f ≡ w → neg_ℤ (pos coordinate_max *ℤ e) ≤ℤ r → r ≤ℤ (pos coordinate_max *ℤ e) →
    (neg_ℤ (pos coordinate_max *ℤ f) ≤ℤ to_z w128 (of_z w128 r)) × (to_z w128 (of_z w128 r) ≤ℤ (pos coordinate_max *ℤ f))
in_plane {r} {w} {e} {f} l h ew fw lo hi =
    let is = reads_as r w e l h ew lo hi in
    let over : e ≡ f = ew ∙ sym fw in (
      subst (λ (z : ℤ). neg_ℤ (pos coordinate_max *ℤ f) ≤ℤ z) (sym is) (subst (λ (z : ℤ). neg_ℤ (pos coordinate_max *ℤ z) ≤ℤ r) over lo),
      subst (λ (z : ℤ). z ≤ℤ (pos coordinate_max *ℤ f)) (sym is) (subst (λ (z : ℤ). r ≤ℤ (pos coordinate_max *ℤ z)) over hi),
    )

between_is : (r e f g h a b t w : ℤ) → pos 1 ≤ℤ w → w ≤ℤ pos denominator_max → neg_ℤ (pos coordinate_max *ℤ h) ≤ℤ r → r ≤ℤ (pos coordinate_max *ℤ h) →
    r ≡ (e *ℤ h) +ℤ ((f -ℤ e) *ℤ g) → e ≡ a → f ≡ b → g ≡ t → h ≡ w → to_z w128 (of_z w128 r) ≡ (a *ℤ w) +ℤ ((b -ℤ a) *ℤ t)
between_is r e f g h a b t w l k lo hi v ea fb gt hw =
    reads_as r w h l k hw lo hi ∙ v ∙ ap (λ z. z +ℤ ((f -ℤ e) *ℤ g)) (multiply e h a w ea hw)
    ∙ ap (λ z. (a *ℤ w) +ℤ z) (multiply (f -ℤ e) g (b -ℤ a) t (differ f e b a fb ea) gt)

pub between-requires-clause-from_small : goal.between-requires-clause-from_small
between-requires-clause-from_small c = whole_read _ c.x.ensures.in_range

pub between-requires-clause-to_small : goal.between-requires-clause-to_small
between-requires-clause-to_small c = whole_read _ c.x-2.ensures.in_range

pub between-requires-clause-t_low : goal.between-requires-clause-t_low
between-requires-clause-t_low c = part_low _ _ c.requires.t_low c.requires.t_high c.requires.w_high

pub between-requires-clause-t_high : goal.between-requires-clause-t_high
between-requires-clause-t_high c = part_high _ _ c.requires.t_low c.requires.t_high c.requires.w_high

pub between-requires-clause-w_high : goal.between-requires-clause-w_high
between-requires-clause-w_high c = way_high _ _ c.requires.t_low c.requires.t_high c.requires.w_high

pub between-requires-2-clause-from_small : goal.between-requires-2-clause-from_small
between-requires-2-clause-from_small c = whole_read _ c.y.ensures.in_range

pub between-requires-2-clause-to_small : goal.between-requires-2-clause-to_small
between-requires-2-clause-to_small c = whole_read _ c.y-2.ensures.in_range

pub between-requires-2-clause-t_low : goal.between-requires-2-clause-t_low
between-requires-2-clause-t_low c = part_low _ _ c.requires.t_low c.requires.t_high c.requires.w_high

pub between-requires-2-clause-t_high : goal.between-requires-2-clause-t_high
between-requires-2-clause-t_high c = part_high _ _ c.requires.t_low c.requires.t_high c.requires.w_high

pub between-requires-2-clause-w_high : goal.between-requires-2-clause-w_high
between-requires-2-clause-w_high c = way_high _ _ c.requires.t_low c.requires.t_high c.requires.w_high

pub invariant_of-result : goal.invariant_of-result
invariant_of-result c =
    let over = (widened (way_small _ _ c.requires.t_low c.requires.t_high c.requires.w_high) (lit< tt) c.from.ensures).is in
    let x = in_plane c.requires.w_low c.requires.w_high (narrow_read _ _ (way_small _ _ c.requires.t_low c.requires.t_high c.requires.w_high) (lit< tt)) over c.between.ensures.low c.between.ensures.high in
    let y = in_plane c.requires.w_low c.requires.w_high (narrow_read _ _ (way_small _ _ c.requires.t_low c.requires.t_high c.requires.w_high) (lit< tt)) over c.between-2.ensures.low c.between-2.ensures.high in
    record {
      w_low = subst (λ (z : ℤ). pos 1 ≤ℤ z) (sym over) c.requires.w_low;
      w_high = subst (λ (z : ℤ). z ≤ℤ pos denominator_max) (sym over) c.requires.w_high;
      x_low = x.0;
      x_high = x.1;
      y_low = y.0;
      y_high = y.1;
    }

pub returns : goal.returns
returns c = record {
  over = (widened (way_small _ _ c.requires.t_low c.requires.t_high c.requires.w_high) (lit< tt) c.from.ensures).is;
  across = between_is c.between.result _ _ _ _ _ _ _ _ c.requires.w_low c.requires.w_high c.between.ensures.low c.between.ensures.high c.between.ensures.value (whole_is c.x.ensures.in_range (c.x.ensures.value ∙ ap (λ p. p.x) c.left-left.ensures.value)) (whole_is c.x-2.ensures.in_range (c.x-2.ensures.value ∙ ap (λ p. p.x) c.right-right.ensures.value)) (narrow_read _ _ (part_small _ _ c.requires.t_low c.requires.t_high c.requires.w_high) (lit< tt)) (narrow_read _ _ (way_small _ _ c.requires.t_low c.requires.t_high c.requires.w_high) (lit< tt));
  along = between_is c.between-2.result _ _ _ _ _ _ _ _ c.requires.w_low c.requires.w_high c.between-2.ensures.low c.between-2.ensures.high c.between-2.ensures.value (whole_is c.y.ensures.in_range (c.y.ensures.value ∙ ap (λ p. p.y) c.left-left.ensures.value)) (whole_is c.y-2.ensures.in_range (c.y-2.ensures.value ∙ ap (λ p. p.y) c.right-right.ensures.value)) (narrow_read _ _ (part_small _ _ c.requires.t_low c.requires.t_high c.requires.w_high) (lit< tt)) (narrow_read _ _ (way_small _ _ c.requires.t_low c.requires.t_high c.requires.w_high) (lit< tt));
}
