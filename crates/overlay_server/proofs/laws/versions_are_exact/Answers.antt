use Rattle.overlay_server.proofs.Durable.{versions_are_exact}
use Rattle.overlay_server.proofs.laws.versions_are_exact.Goals as goal

pub returns : goal.returns
returns c = versions_are_exact
