use Rattle.std.proofs.Common.{rules}
use Rattle.crossing_sweep.proofs.known_places.border_between.Goals as goal

pub returns : goal.returns
returns c = search rules
