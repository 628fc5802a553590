use Rattle.std.proofs.Common.{sym, ◌∙◌}
use Rattle.crossing_sweep.proofs.TakeLemmas.{none_before, first_told}
use Rattle.crossing_sweep.proofs.ahead.is_first_before.Goals as goal

pub returns-in-Some-clause-first : goal.returns-in-Some-clause-first
returns-in-Some-clause-first c = c.lt.ensures ∙ first_told c.args.found.now.keys c.in-Some.first.now c.args.place.now c.in-Some.ensures.first

pub returns-in-Some-clause-none : goal.returns-in-Some-clause-none
returns-in-Some-clause-none c = λ no. none_before c.args.found.now.keys c.in-Some.first.now c.args.place.now c.in-Some.ensures.all_from (sym c.lt.ensures ∙ no)
