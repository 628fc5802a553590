use Rattle.std.proofs.Common.{◌≡◌, ◌*ℤ◌, rules, ap, sym, ◌∙◌, arith}
use Rattle.std.specs.Ordering.{int_eq}
use Rattle.overlay_terms.specs.Column.{border}
use Rattle.arrange.proofs.NodeTests.{column_found, none_more}
use Rattle.arrange.proofs.node_test.is_at_border.Goals as goal

pub returns-then-has_border_at : goal.returns-then-has_border_at
returns-then-has_border_at c =
    let same : c.unwrap-column.result ≡ c.loop-number.number = search rules in
    let here = ap (λ k. int_eq c.args.p.now.x (border k *ℤ c.args.p.now.w)) (sym same) in
    sym (column_found (λ k. int_eq c.args.p.now.x (border k *ℤ c.args.p.now.w)) c.loop-number.number (omega (arith, c.loop-number-test.true)) (here ∙ sym c.has_border_at.ensures ∙ c.if-has_border_at.true))

pub loop-number-preserved : goal.loop-number-preserved
loop-number-preserved c =
    let same : c.unwrap-column.result ≡ c.loop-number.number = search rules in
    let here = ap (λ k. int_eq c.args.p.now.x (border k *ℤ c.args.p.now.w)) (sym same) in
    none_more (λ k. int_eq c.args.p.now.x (border k *ℤ c.args.p.now.w)) c.loop-number.number (omega (arith, c.loop-number-test.true)) (here ∙ sym c.has_border_at.ensures ∙ c.if-has_border_at.false) c.loop-number.invariant
