use Rattle.std.proofs.Common.{◌≡◌, ◌<◌, true, false, length, sym, ◌∙◌, arith}
use Rattle.std.specs.Cmp.Lexicographic.{pointwise}
use Rattle.std.proofs.lemmas.Bool.{not-true, not-false}
use Rattle.overlay_terms.specs.Plane.{same_whole}
use Rattle.tile_build.proofs.SameLemmas.{pointwise_more, not_alike}
use Rattle.commit_plan.proofs.equality.same_rings.Goals as goal

pub returns-then-ne : goal.returns-then-ne
returns-then-ne c =
    let differ : pointwise same_whole c.index-held-i.result c.index-new-i.result ≡ false =
    sym (λ i. pointwise same_whole (c.points.ensures i) (c.points-in-loop-i.ensures i)) ∙ not-true _ (sym c.if-ne.ensures) in
    not_alike (pointwise same_whole) c.args.held.now c.args.new.now c.loop-i.i c.index-held-i.result c.index-new-i.result
    (omega arith) c.index-held-i.is c.index-new-i.is differ

pub loop-i-preserved : goal.loop-i-preserved
loop-i-preserved c =
    let i = c.loop-i.i in
    let within : i < length c.args.held.now = omega arith in
    let there : i < length c.args.new.now = omega (arith, c.loop-i.invariant.as_long) in
    let alike : pointwise same_whole c.index-held-i.result c.index-new-i.result ≡ true =
    sym (λ i. pointwise same_whole (c.points.ensures i) (c.points-in-loop-i.ensures i)) ∙ not-false _ (sym c.if-ne.ensures) in
    record {
      as_long = c.loop-i.invariant.as_long;
      same = pointwise_more (pointwise same_whole) c.args.held.now c.args.new.now i c.index-held-i.result c.index-new-i.result
          within there c.index-held-i.is c.index-new-i.is c.loop-i.invariant.same alike;
    }
