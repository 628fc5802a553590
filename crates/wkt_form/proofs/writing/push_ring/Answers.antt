use Rattle.wkt_form.specs.Spelling.{wkt_point}
use Rattle.wkt_form.proofs.WritingLemmas.{listed_more, joined}
use Rattle.wkt_form.proofs.writing.push_ring.Goals as goal

pub loop-i-preserved : goal.loop-i-preserved
loop-i-preserved c =
    let more = listed_more wkt_point c.args.points.now c.loop-i.i c.index-points-i.result c.loop-i-test.true c.index-points-i.is in
    joined _ _ _ _ _ _ _ _ c.in_ok-push_point.ensures c.in_ok-push_separator.ensures c.loop-i.invariant more
