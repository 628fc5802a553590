use Rattle.script_form.proofs.LineLaws.{lines_are_read}
use Rattle.script_form.proofs.laws.line_law.Goals as goal

pub returns : goal.returns
returns c = lines_are_read
