use Rattle.store_terms.specs.TileRecord.{piece}
use Rattle.record_writing.proofs.PutLemmas.{put_more, put_all, put_counted}
use Rattle.record_writing.proofs.piece_writing.put_pieces.Goals as goal

pub loop-piece-preserved : goal.loop-piece-preserved
loop-piece-preserved c =
    put_more piece c.args.pieces.now c.loop-piece.piece-index c.piece-item.result c.put_four_bytes.new.out.items c.loop-piece.out.items c.put_piece.new.out.items c.loop-piece-test.true c.piece-item.is c.loop-piece.invariant c.in_ok-put_piece.ensures

pub returns : goal.returns
returns c =
    put_counted piece 4 c.args.pieces.now c.args.out.now.items c.put_four_bytes.new.out.items c.loop-piece.out.items c.in_ok-put_four_bytes.ensures
    (put_all piece c.args.pieces.now c.loop-piece.piece-index c.put_four_bytes.new.out.items c.loop-piece.out.items c.loop-piece-test.false c.loop-piece.invariant)
