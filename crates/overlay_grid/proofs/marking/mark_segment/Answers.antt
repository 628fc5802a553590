use Rattle.std.proofs.Common.{◌≡◌, ℤ, ◌+◌, ◌∙◌, ap, sym, refl, arith, lit<, pos, false, to_z, of_z, ◌<ℤ◌, ◌≤ℤ◌, ◌+ℤ◌, ◌*ℤ◌}
use Rattle.std.specs.Prelude.{int_lt}
use Rattle.std.specs.Int.{w64}
use Rattle.std.proofs.lemmas.Int.{ints, to_z-of_z, by_lt_z}
use Rattle.overlay_terms.specs.Plane.{InRange, is_below, is_on}
use Rattle.exact_point.proofs.NarrowBounds.{narrow_read}
use Rattle.overlay_grid.specs.Rising.{point_at}
use Rattle.overlay_grid.specs.Turning.{turned, is_marked}
use Rattle.overlay_grid.proofs.Below.{right_of, left_of, unchanged}
use Rattle.overlay_grid.proofs.Marked.{or_nothing}
use Rattle.overlay_grid.proofs.OnRise.{off_left}
use Rattle.overlay_grid.proofs.marking.mark_segment.Goals as goal

-- ---- what the code's comparisons say of the numbers
same : (x : ℤ) → InRange x → to_z w64 (of_z w64 x) ≡ x
same x h = narrow_read 1048576 x (record { low = h.0; high = h.1 }) (lit< tt)

not_less : (x y : ℤ) → int_lt x y ≡ false → y ≤ℤ x
not_less x y told = grind (arith, ints, told)

no_less : (a b x y : ℤ) → InRange a → InRange b → a ≡ x → b ≡ y → int_lt (to_z w64 (of_z w64 a)) (to_z w64 (of_z w64 b)) ≡ false → y ≤ℤ x
no_less a b x y ha hb e f told = omega (arith, ints, same a ha, same b hb, e, f, not_less (to_z w64 (of_z w64 a)) (to_z w64 (of_z w64 b)) told)

level : (a b x y : ℤ) → InRange a → InRange b → a ≡ x → b ≡ y → of_z w64 a ≡ of_z w64 b → x ≡ y
level a b x y ha hb e f told = sym e ∙ sym (same a ha) ∙ ap (λ n. to_z w64 n) told ∙ same b hb ∙ f

apart : (a b x y : ℤ) → a ≡ x → b ≡ y → (of_z w64 a ≡ of_z w64 b → ⊥) → x ≤ℤ y → x <ℤ y
apart a b x y e f differ most = by_lt_z x y (λ less. less) (λ least. absurd (differ (ap (of_z w64) (e ∙ between x y most least ∙ sym f))))
  where
    between : (x y : ℤ) → x ≤ℤ y → y ≤ℤ x → x ≡ y
    between x y h k = omega (arith, ints, h, k)

pub returns-then-rise-left-clause-turns : goal.returns-then-rise-left-clause-turns
returns-then-rise-left-clause-turns c j k h =
    let x : c.x-left.result ≡ c.args.seg.now.left.x = c.x-left.ensures.value ∙ ap (λ p. p.x) c.left.ensures.value in
    let before : c.args.rise.x <ℤ c.args.seg.now.left.x = grind (arith, ints, to_z-of_z, x, c.if-rise-left.true) in
    unchanged _ (is_below c.args.seg.now (point_at c.args.rise j)) (turned c.args.turns.now (j + 1) k) (right_of c.args.seg.now c.args.rise j before)

pub returns-then-right-rise-clause-turns : goal.returns-then-right-rise-clause-turns
returns-then-right-rise-clause-turns c j k h =
    let x : c.x-right.result ≡ c.args.seg.now.right.x = c.x-right.ensures.value ∙ ap (λ p. p.x) c.right.ensures.value in
    let behind : c.args.seg.now.right.x ≤ℤ c.args.rise.x = grind (arith, ints, to_z-of_z, x, c.if-right-rise.true) in
    unchanged _ (is_below c.args.seg.now (point_at c.args.rise j)) (turned c.args.turns.now (j + 1) k) (left_of c.args.seg.now c.args.rise j behind)

pub returns-then-right-rise-clause-edges : goal.returns-then-right-rise-clause-edges
returns-then-right-rise-clause-edges c j h =
    let r = c.args.rise in
    let x : c.x-right.result ≡ c.args.seg.now.right.x = c.x-right.ensures.value ∙ ap (λ p. p.x) c.right.ensures.value in
    let behind : c.args.seg.now.right.x <ℤ r.x = grind (arith, ints, to_z-of_z, x, c.if-right-rise.true) in
    or_nothing (is_marked c.args.edges.now j) (is_on c.args.seg.now (point_at r j)) (off_left c.args.seg.now r.x (r.y +ℤ (r.step *ℤ pos j)) behind)

pub mark_upright-requires-clause-upright : goal.mark_upright-requires-clause-upright
mark_upright-requires-clause-upright c =
    let left : c.x-left.result ≡ c.args.seg.now.left.x = c.x-left.ensures.value ∙ ap (λ p. p.x) c.left.ensures.value in
    let right : c.x-right.result ≡ c.args.seg.now.right.x = c.x-right.ensures.value ∙ ap (λ p. p.x) c.right.ensures.value in
    level c.x-left.result c.x-right.result _ _ c.x-left.ensures.in_range c.x-right.ensures.in_range left right c.if-left-right.true

pub mark_upright-requires-clause-over : goal.mark_upright-requires-clause-over
mark_upright-requires-clause-over c =
    let left : c.x-left.result ≡ c.args.seg.now.left.x = c.x-left.ensures.value ∙ ap (λ p. p.x) c.left.ensures.value in
    let right : c.x-right.result ≡ c.args.seg.now.right.x = c.x-right.ensures.value ∙ ap (λ p. p.x) c.right.ensures.value in
    let low : c.args.seg.now.left.x ≤ℤ c.args.rise.x = no_less c.args.rise.x c.x-left.result _ _ c.args.rise.x_small c.x-left.ensures.in_range refl left c.if-rise-left.false in
    let high : c.args.rise.x ≤ℤ c.args.seg.now.right.x = no_less c.x-right.result c.args.rise.x _ _ c.x-right.ensures.in_range c.args.rise.x_small right refl c.if-right-rise.false in
    let upright : c.args.seg.now.left.x ≡ c.args.seg.now.right.x = level c.x-left.result c.x-right.result _ _ c.x-left.ensures.in_range c.x-right.ensures.in_range left right c.if-left-right.true in
    omega (arith, ints, low, high, upright)

pub returns-then-left-right-clause-turns : goal.returns-then-left-right-clause-turns
returns-then-left-right-clause-turns c j k h =
    let left : c.x-left.result ≡ c.args.seg.now.left.x = c.x-left.ensures.value ∙ ap (λ p. p.x) c.left.ensures.value in
    let right : c.x-right.result ≡ c.args.seg.now.right.x = c.x-right.ensures.value ∙ ap (λ p. p.x) c.right.ensures.value in
    let low : c.args.seg.now.left.x ≤ℤ c.args.rise.x = no_less c.args.rise.x c.x-left.result _ _ c.args.rise.x_small c.x-left.ensures.in_range refl left c.if-rise-left.false in
    let upright : c.args.seg.now.left.x ≡ c.args.seg.now.right.x = level c.x-left.result c.x-right.result _ _ c.x-left.ensures.in_range c.x-right.ensures.in_range left right c.if-left-right.true in
    unchanged _ (is_below c.args.seg.now (point_at c.args.rise j)) (turned c.args.turns.now (j + 1) k) (left_of c.args.seg.now c.args.rise j (omega (arith, ints, low, upright)))

pub first_above-passing-requires : goal.first_above-passing-requires
first_above-passing-requires c =
    let left : c.x-left.result ≡ c.args.seg.now.left.x = c.x-left.ensures.value ∙ ap (λ p. p.x) c.left.ensures.value in
    let right : c.x-right.result ≡ c.args.seg.now.right.x = c.x-right.ensures.value ∙ ap (λ p. p.x) c.right.ensures.value in
    let low : c.args.seg.now.left.x ≤ℤ c.args.rise.x = no_less c.args.rise.x c.x-left.result _ _ c.args.rise.x_small c.x-left.ensures.in_range refl left c.if-rise-left.false in
    let high : c.args.rise.x ≤ℤ c.args.seg.now.right.x = no_less c.x-right.result c.args.rise.x _ _ c.x-right.ensures.in_range c.args.rise.x_small right refl c.if-right-rise.false in
    apart c.x-left.result c.x-right.result _ _ left right c.if-left-right.false (omega (arith, ints, low, high))

pub mark_turn-requires-clause-from_left : goal.mark_turn-requires-clause-from_left
mark_turn-requires-clause-from_left c =
    let left : c.x-left.result ≡ c.args.seg.now.left.x = c.x-left.ensures.value ∙ ap (λ p. p.x) c.left.ensures.value in
    no_less c.args.rise.x c.x-left.result _ _ c.args.rise.x_small c.x-left.ensures.in_range refl left c.if-rise-left.false

pub mark_edge-requires-clause-slanted : goal.mark_edge-requires-clause-slanted
mark_edge-requires-clause-slanted c =
    let left : c.x-left.result ≡ c.args.seg.now.left.x = c.x-left.ensures.value ∙ ap (λ p. p.x) c.left.ensures.value in
    let right : c.x-right.result ≡ c.args.seg.now.right.x = c.x-right.ensures.value ∙ ap (λ p. p.x) c.right.ensures.value in
    let low : c.args.seg.now.left.x ≤ℤ c.args.rise.x = no_less c.args.rise.x c.x-left.result _ _ c.args.rise.x_small c.x-left.ensures.in_range refl left c.if-rise-left.false in
    let high : c.args.rise.x ≤ℤ c.args.seg.now.right.x = no_less c.x-right.result c.args.rise.x _ _ c.x-right.ensures.in_range c.args.rise.x_small right refl c.if-right-rise.false in
    apart c.x-left.result c.x-right.result _ _ left right c.if-left-right.false (omega (arith, ints, low, high))

pub mark_edge-requires-clause-from_left : goal.mark_edge-requires-clause-from_left
mark_edge-requires-clause-from_left c =
    let left : c.x-left.result ≡ c.args.seg.now.left.x = c.x-left.ensures.value ∙ ap (λ p. p.x) c.left.ensures.value in
    no_less c.args.rise.x c.x-left.result _ _ c.args.rise.x_small c.x-left.ensures.in_range refl left c.if-rise-left.false

pub mark_edge-requires-clause-to_right : goal.mark_edge-requires-clause-to_right
mark_edge-requires-clause-to_right c =
    let right : c.x-right.result ≡ c.args.seg.now.right.x = c.x-right.ensures.value ∙ ap (λ p. p.x) c.right.ensures.value in
    no_less c.x-right.result c.args.rise.x _ _ c.x-right.ensures.in_range c.args.rise.x_small right refl c.if-right-rise.false
