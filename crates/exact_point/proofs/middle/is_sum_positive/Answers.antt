use Rattle.std.proofs.Common.{rules, lit<, lit≤, ap, ◌∙◌, ◌≡◌, ◌^◌, ◌+ℤ◌, ◌*ℤ◌, pos, int_lt, to_z, of_z}
use Rattle.std.specs.Int.{w128}
use Rattle.std.proofs.lemmas.Int.{to_z-of_z}
use Rattle.overlay_terms.proofs.Bounds.{within_read}
use Rattle.exact_point.proofs.MiddleLemmas.{within_more, by_halves}
use Rattle.exact_point.proofs.middle.is_sum_positive.Goals as goal

pub sum_of_products-low-requires-clause-a_small : goal.sum_of_products-low-requires-clause-a_small
sum_of_products-low-requires-clause-a_small c = within_read _ _ (within_more 255 (2 ^ 78) _ (lit≤ tt) c.by_256-first.ensures.rest) (lit< tt)

pub sum_of_products-low-requires-clause-b_small : goal.sum_of_products-low-requires-clause-b_small
sum_of_products-low-requires-clause-b_small c = within_read _ _ (within_more 255 (2 ^ 78) _ (lit≤ tt) c.by_256-second.ensures.rest) (lit< tt)

pub returns : goal.returns
returns c =
    let q = c.by_256-first.result in
    let p = c.by_256-second.result in
    let high : to_z w128 (of_z w128 c.sum_of_products-high.result) ≡ (q.0 *ℤ c.args.v) +ℤ (p.0 *ℤ c.args.w) = search (rules, to_z-of_z, c.sum_of_products-high.ensures.value) in
    let low : to_z w128 (of_z w128 c.sum_of_products-low.result) ≡ (q.1 *ℤ c.args.v) +ℤ (p.1 *ℤ c.args.w) = search (rules, to_z-of_z, c.sum_of_products-low.ensures.value) in
    let first : (pos 256 *ℤ q.0) +ℤ q.1 ≡ c.args.a = search (rules, to_z-of_z, c.by_256-first.ensures.value) in
    let second : (pos 256 *ℤ p.0) +ℤ p.1 ≡ c.args.b = search (rules, to_z-of_z, c.by_256-second.ensures.value) in
    c.is_positive.ensures
    ∙ ap (λ z. int_lt (pos 0) z) (by_halves c.args.a c.args.b c.args.v c.args.w q.0 q.1 p.0 p.1 _ _ first second high low)
