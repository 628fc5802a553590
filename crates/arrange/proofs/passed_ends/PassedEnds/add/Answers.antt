use Rattle.std.proofs.Common.{refl, arith}
use Rattle.arrange.proofs.EndCounts.{counted_more}
use Rattle.arrange.proofs.MaskLemmas.{shifted}
use Rattle.arrange.proofs.passed_ends.PassedEnds.add.Goals as goal

pub returns-then-end : goal.returns-then-end
returns-then-end c = λ ends was.
    rw (shifted c.args.end.now.layer c.requires.few)
    (counted_more ends c.args.end.now c.args.self.now _ was (grind arith) (grind arith) refl)

pub returns-else-end : goal.returns-else-end
returns-else-end c = λ ends was.
    rw (shifted c.args.end.now.layer c.requires.few)
    (counted_more ends c.args.end.now c.args.self.now _ was (grind arith) (grind arith) refl)
