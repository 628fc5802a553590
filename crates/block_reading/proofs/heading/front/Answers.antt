use Rattle.std.proofs.Common.{subst, length}
use Rattle.block_reading.specs.Answers.{Gives}
use Rattle.block_reading.specs.Block.{head_held}
use Rattle.block_reading.specs.declared.head.Head.{Head}
use Rattle.block_reading.proofs.heading.front.Goals as goal

pub returns : goal.returns
returns c = subst (λ (h : Head). Gives (λ (x : Head). x) c.held_head.result (head_held h (length c.args.bytes.now))) c.first_bytes.ensures c.held_head.ensures
