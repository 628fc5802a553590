use Rattle.script_form.specs.Transcript.{store_by}
use Rattle.line_laws.proofs.Runs.{lines_decide}
use Rattle.line_laws.proofs.laws.lines_decide.Goals as goal

pub returns : goal.returns
returns g c there other_there = lines_decide (store_by g.A.Reports.reported there) (store_by g.B.Reports.reported other_there)
