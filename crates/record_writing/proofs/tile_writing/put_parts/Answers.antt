use Rattle.std.proofs.Common.{arith}
use Rattle.store_terms.specs.Fields.{number, both, counted}
use Rattle.store_terms.specs.TileRecord.{piece}
use Rattle.record_writing.proofs.PutLemmas.{put_byte, put_both, put_first}
use Rattle.record_writing.proofs.tile_writing.put_parts.Goals as goal

pub returns-in_ok-put_pieces-in-Pieces : goal.returns-in_ok-put_pieces-in-Pieces
returns-in_ok-put_pieces-in-Pieces c =
    let list = c.in-Pieces.pieces in
    rw c.in-Pieces.is
    (put_first (both (number 1) (counted 4 piece)) (number 1) (c.args.column, list.items) c.args.out.now.items c.push.new.self.items c.put_pieces.new.out.items c.in_ok-push-in-Pieces.ensures.items
    (put_both (number 1) (counted 4 piece) c.args.column list.items c.push.new.self.items c.push-in-Pieces.new.self.items c.put_pieces.new.out.items
    (put_byte c.args.column c.push.new.self.items c.push-in-Pieces.new.self.items (omega arith) c.in_ok-push-in-Pieces-2.ensures.items)
    (rw c.deref.ensures.value at c.in_ok-put_pieces-in-Pieces.ensures)))
