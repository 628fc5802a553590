use Rattle.std.proofs.Common.{rules, arith, lit<, ◌≡◌, ℕ, ℤ, pos, ◌*ℤ◌, ◌<ℤ◌, to_z, of_z, unsigned_abs, sym, ap, ◌∙◌}
use Rattle.std.specs.Int.{w128}
use Rattle.std.proofs.lemmas.Int.{ints, to_z-of_z}
use Rattle.overlay_terms.proofs.Bounds.{read}
use Rattle.exact_point.specs.declared.point.HPoint.{HPoint}
use Rattle.exact_point.specs.Place.{place}
use Rattle.exact_point.proofs.ReducedLemmas.{IsDividedBy, lowest, whole_lowest, still_there, divided_low, divided_high, divided_w_low, divided_w_high}
use Rattle.exact_point.proofs.PointBounds.{w_small}
use Rattle.exact_point.proofs.reducing.reduced.Goals as goal

pub returns-then-p-eq1-clause-lowest : goal.returns-then-p-eq1-clause-lowest
returns-then-p-eq1-clause-lowest c =
    let p = c.args.p.now in
    let one : p.w ≡ pos 1 = sym (read _ _ (w_small p) (lit< tt)) ∙ ap (λ n. to_z w128 n) c.if-p-eq1.true in
    whole_lowest (place p) (ap unsigned_abs one)

pub divided-requires-clause-divides : goal.divided-requires-clause-divides
divided-requires-clause-divides c = search (rules, to_z-of_z, c.divisor-common.ensures.value.of_x)

pub divided-requires-2-clause-divides : goal.divided-requires-2-clause-divides
divided-requires-2-clause-divides c = search (rules, to_z-of_z, c.divisor-common.ensures.value.of_y)

pub divided-requires-3-clause-divides : goal.divided-requires-3-clause-divides
divided-requires-3-clause-divides c = search (rules, to_z-of_z, c.divisor-common.ensures.value.of_w)

-- the three quotients, as they are read
divided_by : (p : HPoint) (x y w : ℤ) (g : ℕ) → x *ℤ pos g ≡ p.x → y *ℤ pos g ≡ p.y → w *ℤ pos g ≡ p.w → IsDividedBy (place p) (record { x = x; y = y; w = w }) g
divided_by p x y w g ex ey ew = record { x = ex; y = ey; w = ew }

pub invariant_of-result : goal.invariant_of-result
invariant_of-result c =
    let p = c.args.p.now in
    let g : ℕ = c.divisor-common.result in
    let common = c.divisor-common.ensures.positive in
    let x : to_z w128 (of_z w128 c.divided.result) *ℤ pos g ≡ p.x = search (rules, to_z-of_z, c.divided.ensures) in
    let y : to_z w128 (of_z w128 c.divided-2.result) *ℤ pos g ≡ p.y = search (rules, to_z-of_z, c.divided-2.ensures) in
    let w : to_z w128 (of_z w128 c.divided-3.result) *ℤ pos g ≡ p.w = search (rules, to_z-of_z, c.divided-3.ensures) in
    record {
      w_low = divided_w_low _ p.w g common w p.w_low;
      w_high = divided_w_high _ p.w (pos 8796093022208) g common w p.w_low p.w_high;
      x_low = divided_low (pos 1048576) _ p.x _ p.w g common x w p.x_low;
      x_high = divided_high (pos 1048576) _ p.x _ p.w g common x w p.x_high;
      y_low = divided_low (pos 1048576) _ p.y _ p.w g common y w p.y_low;
      y_high = divided_high (pos 1048576) _ p.y _ p.w g common y w p.y_high;
    }

pub returns-clause-same : goal.returns-clause-same
returns-clause-same c =
    let p = c.args.p.now in
    let g : ℕ = c.divisor-common.result in
    let x : to_z w128 (of_z w128 c.divided.result) *ℤ pos g ≡ p.x = search (rules, to_z-of_z, c.divided.ensures) in
    let y : to_z w128 (of_z w128 c.divided-2.result) *ℤ pos g ≡ p.y = search (rules, to_z-of_z, c.divided-2.ensures) in
    let w : to_z w128 (of_z w128 c.divided-3.result) *ℤ pos g ≡ p.w = search (rules, to_z-of_z, c.divided-3.ensures) in
    still_there (place p) _ g (divided_by p _ _ _ g x y w)

pub returns-clause-lowest : goal.returns-clause-lowest
returns-clause-lowest c =
    let p = c.args.p.now in
    let g : ℕ = c.divisor-common.result in
    let common = c.divisor-common.ensures.positive in
    let x : to_z w128 (of_z w128 c.divided.result) *ℤ pos g ≡ p.x = search (rules, to_z-of_z, c.divided.ensures) in
    let y : to_z w128 (of_z w128 c.divided-2.result) *ℤ pos g ≡ p.y = search (rules, to_z-of_z, c.divided-2.ensures) in
    let w : to_z w128 (of_z w128 c.divided-3.result) *ℤ pos g ≡ p.w = search (rules, to_z-of_z, c.divided-3.ensures) in
    let right : pos 0 <ℤ to_z w128 (of_z w128 c.divided-3.result) = omega (arith, ints, divided_w_low _ p.w g common w p.w_low) in
    lowest (place p) _ g c.divisor-common.ensures.value common right (divided_by p _ _ _ g x y w)
