use Rattle.std.proofs.Common.{◌≡◌, not, rules, sym, ◌∙◌}
use Rattle.std.proofs.lemmas.Bool.{not-false}
use Rattle.overlay_terms.specs.Plane.{same_whole}
use Rattle.record_reading.proofs.NamedPieceLemmas.{own_ends}
use Rattle.record_reading.proofs.pieces.are_own_ends.Goals as goal

pub returns : goal.returns
returns c last =
    let from : c.ne.result ≡ not (same_whole c.args.from c.left.result) = search rules in
    let to : c.eq.result ≡ same_whole c.args.to c.right.result = search rules in
    own_ends c.args.support.now c.args.from c.left.result c.args.to c.right.result c.left.ensures.first c.left.ensures.value
    c.right.ensures.value (not-false (same_whole c.args.from c.left.result) (sym from ∙ c.if-ne.false)) (sym to ∙ last)
