use Rattle.std.proofs.Common.{ap, arith, rules, []}
use Rattle.program_words.specs.Plans.{paths_of}
use Rattle.program_words.proofs.LiveLemmas.{paths_more}
use Rattle.program_words.proofs.live_reading.paired.Goals as goal

pub loop-i-init : goal.loop-i-init
loop-i-init c = (ap paths_of c.new-pairs.ensures.items, c.new-pairs.ensures.len)

pub loop-i-preserved : goal.loop-i-preserved
loop-i-preserved c = (
  paths_more (λ text. text.now) (record { ref_ptr = (0, 0); now = [] }) c.loop-i.pairs.items _ c.args.paths.now c.loop-i.i c.in_ok-from.from c.in_ok-to.to c.in_ok-push.ensures.items (search rules) c.in_ok-from.ensures.ok c.in_ok-to.ensures.ok c.loop-i.invariant.0,
  omega (arith, c.in_ok-push.ensures.len, c.loop-i.invariant.1),
)
