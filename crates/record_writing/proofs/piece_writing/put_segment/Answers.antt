use Rattle.record_writing.proofs.PieceLemmas.{put_ends}
use Rattle.record_writing.proofs.piece_writing.put_segment.Goals as goal

pub returns : goal.returns
returns c =
    let left = c.in_ok-put_point.ensures in
    let right = c.in_ok-put_point-2.ensures in
    put_ends c.args.seg c.left.result c.right.result c.args.out.now.items c.put_point.new.out.items c.put_point-2.new.out.items c.left.ensures.value c.right.ensures.value c.left.ensures.first
    (record { fits = left.fits; spelled = left.spelled }) (record { fits = right.fits; spelled = right.spelled })
