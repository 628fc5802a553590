use Rattle.std.proofs.Common.{arith}
use Rattle.crossing_sweep.specs.Member.{segs_of}
use Rattle.crossing_sweep.proofs.SeamLemmas.{two_seams, same_seam}
use Rattle.crossing_sweep.proofs.search.Search.test_new.Goals as goal

pub returns-in_ok-test_at-2 : goal.returns-in_ok-test_at-2
returns-in_ok-test_at-2 c = λ r.
    two_seams c.args.strip r (segs_of c.args.status.now) c.args.low c.args.high c.args.self.now c.test_at.new.self c.test_at-then-low-high.new.self (c.in_ok-test_at.ensures r) (c.in_ok-test_at-2.ensures r)

pub returns-else-low-high : goal.returns-else-low-high
returns-else-low-high c = λ r.
    same_seam c.args.strip r (segs_of c.args.status.now) c.args.low c.args.high c.args.self.now c.test_at.new.self (omega (arith, c.requires.in_order, c.if-low-high.false)) (c.in_ok-test_at.ensures r)
