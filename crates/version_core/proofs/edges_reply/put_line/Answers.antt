use Rattle.std.proofs.Common.{subst, ap, ◌∷◌, ◌∙◌}
use Rattle.exact_point.specs.NamedPiece.{ends_of}
use Rattle.exact_point.specs.PlaceOf.{place_of}
use Rattle.version_core.specs.Edges.{HasEndBefore}
use Rattle.version_core.proofs.EdgeLemmas.{line_of_ends}
use Rattle.version_core.proofs.edges_reply.put_line.Goals as goal

pub returns : goal.returns
returns c =
    line_of_ends (ends_of c.args.piece.now) c.put_byte.new.self c.put_end.new.line c.put_byte-2.new.self c.put_left.new.line
    (c.put_byte.ensures ∙ ap (λ t. 10 ∷ t) c.clear.ensures)
    (subst (λ n. HasEndBefore c.put_byte.new.self c.put_end.new.line (place_of n)) c.names.ensures.right c.put_end.ensures) c.put_byte-2.ensures
    (subst (λ n. HasEndBefore c.put_byte-2.new.self c.put_left.new.line (place_of n)) c.names.ensures.left c.put_left.ensures)
