use Rattle.std.proofs.Common.{pos, ◌≤ℤ◌, [], ◌++◌, sym, ap, ◌∙◌, subst}
use Rattle.std.proofs.lemmas.List.Elements.{All-get_or}
use Rattle.overlay_terms.specs.Plane.{Point}
use Rattle.feature_jobs.specs.Rows.{point_row}
use Rattle.feature_jobs.proofs.ListLemmas.{one_more}
use Rattle.feature_jobs.proofs.points.rows_against.Goals as goal

pub loop-point-preserved : goal.loop-point-preserved
loop-point-preserved c near positive =
    let p : Point = c.point-item.result in
    let above : pos 1 ≤ℤ p.w = subst (λ (q : Point). pos 1 ≤ℤ q.w) (sym c.point-item.is) (All-get_or (λ (q : Point). pos 1 ≤ℤ q.w) c.args.points.now c.loop-point.point-index p c.loop-point-test.true positive) in
    one_more (point_row c.args.rings.now) [] c.loop-point.rows.items c.add_point.new.to.items c.args.points.now c.loop-point.point-index p c.loop-point-test.true (c.loop-point.invariant near positive)
    (c.in_ok-add_point.ensures near above ∙ ap (λ (q : Point). c.loop-point.rows.items ++ point_row c.args.rings.now q) c.point-item.is)
