use Rattle.std.proofs.Common.{[], ◌∷◌, ◌++◌}
use Rattle.script_form.proofs.OpenBatchLemmas.{all_came, more_to_come, counts_on}
use Rattle.script_form.proofs.open_batch.OpenBatch.join.Goals as goal

pub returns-then-came-self : goal.returns-then-came-self
returns-then-came-self c = λ waiting is. (
  all_came waiting _ c.args.self is c.if-came-self.true,
  c.as_batch.ensures (waiting.came ++ _ ∷ []) (c.read_next-read.ensures.reads waiting.came is.read),
)

pub returns : goal.returns
returns c = λ waiting is. (
  more_to_come waiting _ c.args.self is c.if-came-self.false,
  record { same_size = is.same_size; as_many = counts_on waiting _ c.args.self is; read = c.read_next-read.ensures.reads waiting.came is.read },
)
