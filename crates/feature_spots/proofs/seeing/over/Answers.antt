use Rattle.std.proofs.Common.{ap, arith}
use Rattle.overlay_terms.specs.Plane.{WholePoint, Point}
use Rattle.overlay_terms.proofs.Bounds.{within_read}
use Rattle.block_reading.specs.Jobs.{far_max}
use Rattle.feature_spots.specs.Spots.{fine_max, past_max}
use Rattle.feature_spots.proofs.ReachLemmas.{read_within, fine_within}
use Rattle.feature_spots.proofs.seeing.over.Goals as goal

pub returns-clause-bound : goal.returns-clause-bound
returns-clause-bound c near fine =
    within_read past_max c.past.result
    (c.past.ensures.bound
    (read_within far_max c.a.inside.y c.args.a.y (ap (λ (a : WholePoint). a.y) c.a.view_is) near.along (omega arith))
    (read_within fine_max c.p.inside.w c.args.p.now.w (ap (λ (p : Point). p.w) c.p.view_is) (fine_within c.args.p.now.w fine.0 fine.1) (omega arith)))
    (omega arith)
