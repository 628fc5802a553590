use Rattle.version_core.proofs.EdgeLemmas.{end_before}
use Rattle.version_core.proofs.edges_reply.put_crossing.Goals as goal

pub returns-in-Some : goal.returns-in-Some
returns-in-Some c =
    let kept = c.in-Some.kept.now in
    end_before kept.name c.args.name.now kept.low c.args.line.now _ kept.text c.in-Some.ensures kept.same kept.lowest kept.is_text c.put_text.ensures.text c.put_text.ensures.short
