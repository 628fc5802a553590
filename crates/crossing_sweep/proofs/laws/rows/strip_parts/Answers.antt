use Rattle.crossing_sweep.proofs.StripParts.{strip_parts}
use Rattle.crossing_sweep.proofs.laws.rows.strip_parts.Goals as goal

pub returns : goal.returns
returns c = strip_parts
