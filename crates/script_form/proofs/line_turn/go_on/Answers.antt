use Rattle.std.proofs.Common.{sym, ◌∙◌}
use Rattle.script_form.proofs.OpenBatchLemmas.{taken_whole}
use Rattle.script_form.proofs.line_turn.go_on.Goals as goal

pub returns-in-Whole : goal.returns-in-Whole
returns-in-Whole c = λ waiting there. taken_whole waiting _ _ _ (sym c.is_nothing.ensures ∙ c.if-is_nothing.false) there c.in-Whole.ensures
