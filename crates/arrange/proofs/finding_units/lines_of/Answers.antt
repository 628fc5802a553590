use Rattle.std.proofs.Common.{arith}
use Rattle.arrange.proofs.LineLemmas.{proper_at}
use Rattle.arrange.proofs.finding_units.lines_of.Goals as goal

pub of-requires-clause-proper : goal.of-requires-clause-proper
of-requires-clause-proper c = proper_at c.args.marked.now c.loop-m.m-index c.m-item.result (omega arith) c.m-item.is c.requires.proper
