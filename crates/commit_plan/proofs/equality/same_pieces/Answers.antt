use Rattle.std.proofs.Common.{◌<◌, length, map, sym, arith}
use Rattle.std.proofs.lemmas.List.{length-map}
use Rattle.exact_point.specs.NamedPiece.{ends_of}
use Rattle.tile_build.proofs.SameLemmas.{pointwise_more, not_alike, mapped_at}
use Rattle.commit_plan.specs.Same.{same_ends}
use Rattle.commit_plan.proofs.equality.same_pieces.Goals as goal

pub returns-then-not-same_piece : goal.returns-then-not-same_piece
returns-then-not-same_piece c =
    let held = c.args.held.now in
    let new = c.args.new.now in
    not_alike same_ends (map ends_of held) (map ends_of new) c.loop-i.i (ends_of c.index-held-i.result)
    (ends_of c.index-new-i.result) (omega (arith, length-map held ends_of))
    (mapped_at ends_of held c.loop-i.i c.index-held-i.result c.index-held-i.is)
    (mapped_at ends_of new c.loop-i.i c.index-new-i.result c.index-new-i.is) (sym c.if-not-same_piece.ensures)

pub loop-i-preserved : goal.loop-i-preserved
loop-i-preserved c =
    let held = c.args.held.now in
    let new = c.args.new.now in
    let i = c.loop-i.i in
    let within : i < length (map ends_of held) = omega (arith, length-map held ends_of) in
    let there : i < length (map ends_of new) = omega (arith, length-map new ends_of, c.loop-i.invariant.as_long) in
    record {
      as_long = c.loop-i.invariant.as_long;
      same = pointwise_more same_ends (map ends_of held) (map ends_of new) i (ends_of c.index-held-i.result)
          (ends_of c.index-new-i.result) within there
          (mapped_at ends_of held i c.index-held-i.result c.index-held-i.is)
          (mapped_at ends_of new i c.index-new-i.result c.index-new-i.is) c.loop-i.invariant.same
          (sym c.if-not-same_piece.ensures);
    }
