use Rattle.std.proofs.Common.{arith}
use Rattle.record_writing.proofs.PieceLemmas.{put_crossing, put_cut}
use Rattle.record_writing.proofs.piece_writing.put_point_name.Goals as goal

pub returns-in_ok-put_segment-in-Cross-2 : goal.returns-in_ok-put_segment-in-Cross-2
returns-in_ok-put_segment-in-Cross-2 c =
    rw c.in-Cross.is
    (put_crossing c.in-Cross.first c.in-Cross.second c.args.out.now.items c.push-in-Cross.new.self.items c.put_segment.new.out.items c.put_segment-in-Cross.new.out.items c.in_ok-push-in-Cross.ensures.items c.in_ok-put_segment-in-Cross.ensures c.in_ok-put_segment-in-Cross-2.ensures)

pub returns-in_ok-push-in-Border-2 : goal.returns-in_ok-push-in-Border-2
returns-in_ok-push-in-Border-2 c =
    rw c.in-Border.is
    (put_cut c.in-Border.cut c.in-Border.border c.args.out.now.items c.push-in-Border.new.self.items c.put_segment-in-Border.new.out.items c.push-in-Border-2.new.self.items (omega arith) c.in_ok-push-in-Border.ensures.items c.in_ok-put_segment-in-Border.ensures c.in_ok-push-in-Border-2.ensures.items)
