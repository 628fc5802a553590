use Rattle.script_form.specs.Lines.{script_max}
use Rattle.server_session.proofs.session.session_run.Goals as goal

pub returns-clause-run : goal.returns-clause-run
unfolding script_max
returns-clause-run g c = c.session_run_within.ensures.run
