use Rattle.record_writing.proofs.PieceLemmas.{passes, put_parts}
use Rattle.record_writing.proofs.piece_writing.put_piece.Goals as goal

pub returns : goal.returns
returns c =
    let p = c.args.piece.now in
    let holds =
    passes p.support p.from p.to (rw c.from-from.ensures at c.known_name.ensures)
    (rw c.to-to.ensures at c.known_name-2.ensures) c.ends.ensures.between in
    put_parts p c.args.out.now.items c.put_segment.new.out.items c.put_point_name.new.out.items c.put_point_name-2.new.out.items holds
    (rw c.support.ensures at c.in_ok-put_segment.ensures) (rw c.from-from.ensures at c.in_ok-put_point_name.ensures)
    (rw c.to-to.ensures at c.in_ok-put_point_name-2.ensures)
