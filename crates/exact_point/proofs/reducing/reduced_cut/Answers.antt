use Rattle.std.proofs.Common.{rules, ◌≡◌, ℕ, ℤ, pos, ◌*ℤ◌, ◌<◌, ◌^◌, refl, ap, subst, ◌∙◌, arith, lit<, to_z, of_z, to_z-of_z}
use Rattle.std.specs.Int.{w64}
use Rattle.std.proofs.lemmas.Int.{ints}
use Rattle.overlay_terms.specs.Plane.{InRange, Segment}
use Rattle.overlay_terms.specs.Within.{IsWithin}
use Rattle.exact_point.specs.CutOver.{IsCutOver, cut_over}
use Rattle.exact_point.proofs.NarrowBounds.{narrow_read}
use Rattle.exact_point.proofs.Readings.{whole_is}
use Rattle.exact_point.proofs.ReducedLemmas.{IsDividedBy, divided_w_low, divided_w_high, lowest, still_there}
use Rattle.exact_point.proofs.CutLemmas.{cut_inside, cut_divided, cut_divisor, cut_w_small, cut_y_small, divided_inside}
use Rattle.exact_point.proofs.reducing.reduced_cut.Goals as goal

-- the code reads the numbers as they are
w_is : (s : Segment) (x w : ℤ) → IsCutOver s x → w ≡ (cut_over s x).w → to_z w64 (of_z w64 w) ≡ (cut_over s x).w
w_is s x w h e = narrow_read (2 ^ 21) w (rw e (cut_w_small s x h)) (lit< tt) ∙ e

y_is : (s : Segment) (x y : ℤ) → IsCutOver s x → y ≡ (cut_over s x).y → to_z w64 (of_z w64 y) ≡ (cut_over s x).y
y_is s x y h e = narrow_read (2 ^ 41) y (rw e (cut_y_small s x h)) (lit< tt) ∙ e

known_at : (s : Segment) (x : ℤ) → InRange x → IsCutOver s (to_z w64 (of_z w64 x)) → IsCutOver s x
known_at s x i h = subst (λ (z : ℤ). IsCutOver s z) (whole_is i refl) h

along_at : (s : Segment) (x y : ℤ) → InRange x → y ≡ (cut_over s (to_z w64 (of_z w64 x))).y → y ≡ (cut_over s x).y
along_at s x y i e = e ∙ ap (λ z. (cut_over s z).y) (whole_is i refl)

-- the denominator divided is within the bounds of the whole one
low_within : (s : Segment) (x v : ℤ) (g : ℕ) → IsCutOver s x → 0 < g → v *ℤ pos g ≡ (cut_over s x).w → IsWithin (2 ^ 21) v
low_within s x v g h k e =
    let inside = cut_inside s x h in
    let low = divided_w_low v (cut_over s x).w g k e inside.w_low in
    record {
      low = omega (arith, ints, low);
      high = divided_w_high v (cut_over s x).w (pos 2097152) g k e inside.w_low (cut_w_small s x h).high;
    }

pub common_divisor-common-requires-clause-w_low : goal.common_divisor-common-requires-clause-w_low
common_divisor-common-requires-clause-w_low c =
    let cut = c.near_cut-w.ensures in
    let known = known_at c.args.seg.now c.args.x c.requires.in_range cut.known in
    rw (w_is _ _ _ known cut.over) (cut_inside c.args.seg.now c.args.x known).w_low

pub near_scaled-requires-clause-w_small : goal.near_scaled-requires-clause-w_small
near_scaled-requires-clause-w_small c =
    let cut = c.near_cut-w.ensures in
    let known = known_at c.args.seg.now c.args.x c.requires.in_range cut.known in
    let g : ℕ = c.common_divisor-common.result in
    let low : to_z w64 (of_z w64 c.near_divided-low.result) *ℤ pos g ≡ to_z w64 (of_z w64 c.near_cut-w.result.0) = search (rules, to_z-of_z, c.near_divided-low.ensures) in
    low_within c.args.seg.now c.args.x _ g known c.common_divisor-common.ensures.positive (low ∙ w_is _ _ _ known cut.over)

divided_cut : (c : goal.After-near_divided) → IsDividedBy (cut_over c.args.seg.now c.args.x) (record { x = to_z w64 (of_z w64 c.near_scaled.result); y = to_z w64 (of_z w64 c.near_divided.result); w = to_z w64 (of_z w64 c.near_divided-low.result) }) c.common_divisor-common.result
divided_cut c =
    let cut = c.near_cut-w.ensures in
    let known = known_at c.args.seg.now c.args.x c.requires.in_range cut.known in
    let along = along_at c.args.seg.now c.args.x c.near_cut-w.result.1 c.requires.in_range cut.along in
    let g : ℕ = c.common_divisor-common.result in
    let low : to_z w64 (of_z w64 c.near_divided-low.result) *ℤ pos g ≡ to_z w64 (of_z w64 c.near_cut-w.result.0) = search (rules, to_z-of_z, c.near_divided-low.ensures) in
    let y : to_z w64 (of_z w64 c.near_divided.result) *ℤ pos g ≡ to_z w64 (of_z w64 c.near_cut-w.result.1) = search (rules, to_z-of_z, c.near_divided.ensures) in
    let x : to_z w64 (of_z w64 c.near_scaled.result) ≡ c.args.x *ℤ to_z w64 (of_z w64 c.near_divided-low.result) = search (rules, to_z-of_z, c.near_scaled.ensures) in
    cut_divided c.args.seg.now c.args.x _ _ _ g x (low ∙ w_is _ _ _ known cut.over) (y ∙ y_is _ _ _ known along)

pub invariant_of-result : goal.invariant_of-result
invariant_of-result c =
    let i = divided_inside _ _ c.common_divisor-common.result c.common_divisor-common.ensures.positive (divided_cut c) (cut_inside c.args.seg.now c.args.x (known_at c.args.seg.now c.args.x c.requires.in_range c.near_cut-w.ensures.known)) in
    search (rules, i.w_low, i.w_high, i.x_low, i.x_high, i.y_low, i.y_high)

divided_now : (c : goal.After-result-1) → IsDividedBy (cut_over c.args.seg.now c.args.x) (record { x = to_z w64 (of_z w64 c.near_scaled.result); y = to_z w64 (of_z w64 c.near_divided.result); w = to_z w64 (of_z w64 c.near_divided-low.result) }) c.common_divisor-common.result
divided_now c =
    let cut = c.near_cut-w.ensures in
    let known = known_at c.args.seg.now c.args.x c.requires.in_range cut.known in
    let along = along_at c.args.seg.now c.args.x c.near_cut-w.result.1 c.requires.in_range cut.along in
    let g : ℕ = c.common_divisor-common.result in
    let low : to_z w64 (of_z w64 c.near_divided-low.result) *ℤ pos g ≡ to_z w64 (of_z w64 c.near_cut-w.result.0) = search (rules, to_z-of_z, c.near_divided-low.ensures) in
    let y : to_z w64 (of_z w64 c.near_divided.result) *ℤ pos g ≡ to_z w64 (of_z w64 c.near_cut-w.result.1) = search (rules, to_z-of_z, c.near_divided.ensures) in
    let x : to_z w64 (of_z w64 c.near_scaled.result) ≡ c.args.x *ℤ to_z w64 (of_z w64 c.near_divided-low.result) = search (rules, to_z-of_z, c.near_scaled.ensures) in
    cut_divided c.args.seg.now c.args.x _ _ _ g x (low ∙ w_is _ _ _ known cut.over) (y ∙ y_is _ _ _ known along)

pub returns-clause-same : goal.returns-clause-same
returns-clause-same c = still_there (cut_over c.args.seg.now c.args.x) _ c.common_divisor-common.result (divided_now c)

pub returns-clause-lowest : goal.returns-clause-lowest
returns-clause-lowest c =
    let cut = c.near_cut-w.ensures in
    let known = known_at c.args.seg.now c.args.x c.requires.in_range cut.known in
    let along = along_at c.args.seg.now c.args.x c.near_cut-w.result.1 c.requires.in_range cut.along in
    let g : ℕ = c.common_divisor-common.result in
    let positive = divided_w_low _ _ g c.common_divisor-common.ensures.positive (divided_now c).w (cut_inside c.args.seg.now c.args.x known).w_low in
    lowest (cut_over c.args.seg.now c.args.x) _ g (cut_divisor c.args.seg.now c.args.x _ _ g (w_is _ _ _ known cut.over) (y_is _ _ _ known along) c.common_divisor-common.ensures.value)
    c.common_divisor-common.ensures.positive (omega (arith, ints, positive)) (divided_now c)
