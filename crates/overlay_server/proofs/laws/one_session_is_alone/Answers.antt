use Rattle.script_form.specs.Transcript.{store_by}
use Rattle.overlay_server.proofs.Alone.{one_session_is_alone}
use Rattle.overlay_server.proofs.laws.one_session_is_alone.Goals as goal

pub returns : goal.returns
returns g c there = one_session_is_alone (store_by g.A.Reports.reported there)
