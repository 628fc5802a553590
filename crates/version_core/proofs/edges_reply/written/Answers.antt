use Rattle.std.proofs.Common.{◌++◌, length, map, take_all, subst, sym, ap, ◌∙◌, arith}
use Rattle.std.proofs.lemmas.List.{length-map}
use Rattle.overlay_terms.specs.Plane.{Point}
use Rattle.exact_point.specs.NamedPiece.{ends_of}
use Rattle.tile_build.proofs.SameLemmas.{mapped_at}
use Rattle.version_core.proofs.EdgeLemmas.{IsBegun, begun, begun_step, text_of_all}
use Rattle.version_core.proofs.edges_reply.written.Goals as goal

pub loop-piece-init : goal.loop-piece-init
loop-piece-init c = begun (length c.args.pieces.now) _ c.in_ok-text.ensures

pub loop-piece-preserved : goal.loop-piece-preserved
loop-piece-preserved c =
    let pieces = c.args.pieces.now in
    let a : Point × Point = ends_of c.piece-item.result in
    begun_step (length pieces) (map ends_of pieces) c.loop-piece.piece-index a c.loop-piece.text.items c.extend_from_slice.new.self.items c.put_line.new.line
    (omega (arith, length-map pieces ends_of, c.loop-piece-test.true)) (mapped_at ends_of pieces c.loop-piece.piece-index c.piece-item.result c.piece-item.is) c.loop-piece.invariant
    c.put_line.ensures (c.in_ok-extend_from_slice.ensures.items ∙ ap (λ t. c.loop-piece.text.items ++ t) c.as_bytes.ensures)

pub returns : goal.returns
returns c =
    let pieces = c.args.pieces.now in
    text_of_all (length pieces) (map ends_of pieces) c.loop-piece.text.items (sym (length-map pieces ends_of))
    (subst (λ ends. IsBegun (length pieces) ends c.loop-piece.text.items)
    (take_all c.loop-piece.piece-index (map ends_of pieces) (omega (arith, length-map pieces ends_of))) c.loop-piece.invariant)
