use Rattle.overlay_server.proofs.Durable.{files_are_covered}
use Rattle.overlay_server.proofs.laws.files_are_covered.Goals as goal

pub returns : goal.returns
returns c = files_are_covered
