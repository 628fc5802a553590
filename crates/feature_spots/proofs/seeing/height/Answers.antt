use Rattle.std.proofs.Common.{rules, ◌≡◌, ◌+◌, ◌*◌, ◌-ℤ◌, ◌*ℤ◌, ◌∙◌, sym, subst, arith, to_z, of_z}
use Rattle.std.specs.Int.{w128}
use Rattle.std.proofs.lemmas.Int.{to_z-of_z}
use Rattle.overlay_terms.specs.Plane.{Segment, height_over}
use Rattle.overlay_terms.specs.Within.{IsWithin}
use Rattle.overlay_terms.proofs.Bounds.{Reads, within_mul, within_sub, mul_fits, sub_fits}
use Rattle.block_reading.specs.Jobs.{far_max}
use Rattle.feature_spots.specs.Spots.{past_max}
use Rattle.feature_spots.proofs.StepLemmas.{never, some_is}
use Rattle.feature_spots.proofs.seeing.height.Goals as goal

pub returns-clause-value : goal.returns-clause-value
returns-clause-value c =
    let s : Segment = record { left = c.args.a; right = c.args.b } in
    let u : to_z w128 (of_z w128 c.in_ok-up.up) ≡ c.in_ok-up.up = search (rules, to_z-of_z) in
    let l : to_z w128 (of_z w128 c.in_ok-side.side) ≡ c.in_ok-side.side = search (rules, to_z-of_z) in
    let wide : to_z w128 (of_z w128 c.width.result) ≡ c.args.b.x -ℤ c.args.a.x = search (rules, to_z-of_z) ∙ c.width.ensures in
    let high : to_z w128 (of_z w128 c.rise.result) ≡ c.args.b.y -ℤ c.args.a.y = search (rules, to_z-of_z) ∙ c.rise.ensures in
    let above : to_z w128 (of_z w128 c.over.result) ≡ c.args.p.now.y -ℤ (c.args.a.y *ℤ c.args.p.now.w) = search (rules, to_z-of_z) ∙ c.over.ensures.value in
    let past : to_z w128 (of_z w128 c.along.result) ≡ c.args.p.now.x -ℤ (c.args.a.x *ℤ c.args.p.now.w) = search (rules, to_z-of_z) ∙ c.along.ensures.value in
    some_is c.minus.result (to_z w128 (of_z w128 c.in_ok-up.up) -ℤ to_z w128 (of_z w128 c.in_ok-side.side)) (height_over s c.args.p.now)
    (λ i. (u ∙ c.in_ok-up.ensures.value ∙ (λ k. wide k *ℤ above k)) i -ℤ (l ∙ c.in_ok-side.ensures.value ∙ (λ k. high k *ℤ past k)) i) c.minus.ensures.value

pub returns-in_err-up-clause-some : goal.returns-in_err-up-clause-some
returns-in_err-up-clause-some c near_a near_b fine =
    let wide : Reads (far_max + far_max) (to_z w128 (of_z w128 c.width.result)) c.width.result = record {
      is = search (rules, to_z-of_z);
      within = subst (IsWithin (far_max + far_max)) (sym c.width.ensures) (within_sub far_max far_max c.args.b.x c.args.a.x near_b.across near_a.across);
    } in
    let above : Reads past_max (to_z w128 (of_z w128 c.over.result)) c.over.result = record { is = search (rules, to_z-of_z); within = c.over.ensures.bound near_a fine } in
    never (c.in_err-up.ensures.some (mul_fits wide above (omega arith)))

pub returns-in_err-side-clause-some : goal.returns-in_err-side-clause-some
returns-in_err-side-clause-some c near_a near_b fine =
    let high : Reads (far_max + far_max) (to_z w128 (of_z w128 c.rise.result)) c.rise.result = record {
      is = search (rules, to_z-of_z);
      within = subst (IsWithin (far_max + far_max)) (sym c.rise.ensures) (within_sub far_max far_max c.args.b.y c.args.a.y near_b.along near_a.along);
    } in
    let past : Reads past_max (to_z w128 (of_z w128 c.along.result)) c.along.result = record { is = search (rules, to_z-of_z); within = c.along.ensures.bound near_a fine } in
    never (c.in_err-side.ensures.some (mul_fits high past (omega arith)))

pub returns-clause-some : goal.returns-clause-some
returns-clause-some c near_a near_b fine =
    let wide : to_z w128 (of_z w128 c.width.result) ≡ c.width.result = search (rules, to_z-of_z) in
    let high : to_z w128 (of_z w128 c.rise.result) ≡ c.rise.result = search (rules, to_z-of_z) in
    let above : to_z w128 (of_z w128 c.over.result) ≡ c.over.result = search (rules, to_z-of_z) in
    let past : to_z w128 (of_z w128 c.along.result) ≡ c.along.result = search (rules, to_z-of_z) in
    let u : to_z w128 (of_z w128 c.in_ok-up.up) ≡ c.in_ok-up.up = search (rules, to_z-of_z) in
    let l : to_z w128 (of_z w128 c.in_ok-side.side) ≡ c.in_ok-side.side = search (rules, to_z-of_z) in
    let width : IsWithin (far_max + far_max) c.width.result = subst (IsWithin (far_max + far_max)) (sym c.width.ensures) (within_sub far_max far_max c.args.b.x c.args.a.x near_b.across near_a.across) in
    let rise : IsWithin (far_max + far_max) c.rise.result = subst (IsWithin (far_max + far_max)) (sym c.rise.ensures) (within_sub far_max far_max c.args.b.y c.args.a.y near_b.along near_a.along) in
    let up : Reads ((far_max + far_max) * past_max) (to_z w128 (of_z w128 c.in_ok-up.up)) (c.width.result *ℤ c.over.result) = record {
      is = u ∙ c.in_ok-up.ensures.value ∙ (λ k. wide k *ℤ above k);
      within = within_mul (far_max + far_max) past_max c.width.result c.over.result width (c.over.ensures.bound near_a fine);
    } in
    let side : Reads ((far_max + far_max) * past_max) (to_z w128 (of_z w128 c.in_ok-side.side)) (c.rise.result *ℤ c.along.result) = record {
      is = l ∙ c.in_ok-side.ensures.value ∙ (λ k. high k *ℤ past k);
      within = within_mul (far_max + far_max) past_max c.rise.result c.along.result rise (c.along.ensures.bound near_a fine);
    } in
    c.minus.ensures.some (sub_fits up side (omega arith))
