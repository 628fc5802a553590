use Rattle.std.proofs.Common.{◌≡◌, pos, ◌<ℤ◌, arith, to_z, sym, ap, ◌∙◌}
use Rattle.std.specs.Int.{w128}
use Rattle.std.specs.Ordering.{int_cmp, ordering_then}
use Rattle.std.proofs.lemmas.Int.{ints}
use Rattle.exact_point.specs.declared.point.HPoint.{HPoint}
use Rattle.exact_point.proofs.Comparing.{by_products, first_decides, second_decides, same_denominator}
use Rattle.exact_point.proofs.PointBounds.{w_is, w_read, w_read_low, x_over, x_read, y_over, y_read}
use Rattle.exact_point.proofs.point.HPointOrd.cmp.Goals as goal

over_zero : (p : HPoint) → pos 0 <ℤ p.w
over_zero p = omega (arith, ints)

pub product-requires-clause-a_small : goal.product-requires-clause-a_small
product-requires-clause-a_small c = x_read c.args.self.now

pub product-requires-clause-w_low : goal.product-requires-clause-w_low
product-requires-clause-w_low c = w_read_low c.args.other.now

pub product-requires-clause-w_small : goal.product-requires-clause-w_small
product-requires-clause-w_small c = w_read c.args.other.now

pub product-requires-2-clause-a_small : goal.product-requires-2-clause-a_small
product-requires-2-clause-a_small c = x_read c.args.other.now

pub product-requires-2-clause-w_low : goal.product-requires-2-clause-w_low
product-requires-2-clause-w_low c = w_read_low c.args.self.now

pub product-requires-2-clause-w_small : goal.product-requires-2-clause-w_small
product-requires-2-clause-w_small c = w_read c.args.self.now

pub product-requires-3-clause-a_small : goal.product-requires-3-clause-a_small
product-requires-3-clause-a_small c = y_read c.args.self.now

pub product-requires-3-clause-w_low : goal.product-requires-3-clause-w_low
product-requires-3-clause-w_low c = w_read_low c.args.other.now

pub product-requires-3-clause-w_small : goal.product-requires-3-clause-w_small
product-requires-3-clause-w_small c = w_read c.args.other.now

pub product-requires-4-clause-a_small : goal.product-requires-4-clause-a_small
product-requires-4-clause-a_small c = y_read c.args.other.now

pub product-requires-4-clause-w_low : goal.product-requires-4-clause-w_low
product-requires-4-clause-w_low c = w_read_low c.args.self.now

pub product-requires-4-clause-w_small : goal.product-requires-4-clause-w_small
product-requires-4-clause-w_small c = w_read c.args.self.now

pub returns-then-self-other : goal.returns-then-self-other
returns-then-self-other c =
    let p = c.args.self.now in
    let q = c.args.other.now in
    let then : c.then.result ≡ ordering_then (int_cmp p.x q.x) (int_cmp p.y q.y) =
    c.then.ensures ∙ ap (λ o. ordering_then o c.cmp-then-self-other.result) c.cmp.ensures ∙ ap (λ o. ordering_then (int_cmp p.x q.x) o) c.cmp-then-self-other.ensures in
    let same : p.w ≡ q.w = sym (w_is p) ∙ ap (λ n. to_z w128 n) c.if-self-other.true ∙ w_is q in
    then ∙ same_denominator p.x q.x p.y q.y p.w q.w (over_zero p) same

pub returns-then-is_ne : goal.returns-then-is_ne
returns-then-is_ne c =
    let p = c.args.self.now in
    let q = c.args.other.now in
    let x = by_products _ _ _ _ _ c.cmp-x.ensures (x_over _ p q c.product.ensures.small c.product.ensures.value) (x_over _ q p c.product-2.ensures.small c.product-2.ensures.value) in
    first_decides c.cmp-x.result _ _ c.is_ne.result x c.is_ne.ensures c.if-is_ne.true

pub returns : goal.returns
returns c =
    let p = c.args.self.now in
    let q = c.args.other.now in
    let x = by_products _ _ _ _ _ c.cmp-x.ensures (x_over _ p q c.product.ensures.small c.product.ensures.value) (x_over _ q p c.product-2.ensures.small c.product-2.ensures.value) in
    let y = by_products _ _ _ _ _ c.cmp-2.ensures (y_over _ p q c.product-3.ensures.small c.product-3.ensures.value) (y_over _ q p c.product-4.ensures.small c.product-4.ensures.value) in
    second_decides c.cmp-x.result _ _ c.cmp-2.result c.is_ne.result x c.is_ne.ensures c.if-is_ne.false y
