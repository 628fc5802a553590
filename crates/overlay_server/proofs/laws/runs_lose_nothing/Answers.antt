use Rattle.overlay_server.proofs.Runs.{runs_lose_nothing}
use Rattle.overlay_server.proofs.laws.runs_lose_nothing.Goals as goal

pub returns : goal.returns
returns g c start = runs_lose_nothing g.D.Disk start
