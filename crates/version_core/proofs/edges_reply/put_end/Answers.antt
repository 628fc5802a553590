use Rattle.std.proofs.Common.{sym, subst}
use Rattle.exact_point.specs.PlaceOf.{place_of}
use Rattle.version_core.specs.Edges.{HasEndBefore}
use Rattle.version_core.proofs.EdgeLemmas.{whole_before}
use Rattle.version_core.proofs.edges_reply.put_end.Goals as goal

pub returns-in-Vertex : goal.returns-in-Vertex
returns-in-Vertex c =
    subst (λ n. HasEndBefore c.args.line.now c.put_whole.new.self (place_of n)) (sym c.in-Vertex.is)
    (whole_before c.in-Vertex.point c.args.line.now c.put_whole.new.self c.put_whole.ensures.text c.put_whole.ensures.short)
