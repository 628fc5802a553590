use Rattle.std.proofs.Common.{rules}
use Rattle.std.proofs.lemmas.List.Sorted.{answers_always}
use Rattle.arrange.specs.declared.line_end.LineEnd.{LineEnd}
use Rattle.arrange.proofs.finding_units.ends_in_order.Goals as goal

pub returns-clause-in_order : goal.returns-clause-in_order
returns-clause-in_order c = c.sort_unstable_by_key.ensures.sorted (λ (e : LineEnd). e.at) (answers_always _ _ _ (λ f a r g h. search rules))
