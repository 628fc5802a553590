use Rattle.script_form.specs.Transcript.{store_by}
use Rattle.line_laws.proofs.Runs.{transcripts_have_turns}
use Rattle.line_laws.proofs.laws.transcripts_have_turns.Goals as goal

pub returns : goal.returns
returns g c there = transcripts_have_turns (store_by g.A.Reports.reported there)
