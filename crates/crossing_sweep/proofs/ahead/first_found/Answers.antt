use Rattle.std.proofs.Common.{map, ap}
use Rattle.crossing_sweep.specs.RankedPlace.{ranked_entry}
use Rattle.crossing_sweep.proofs.TakeLemmas.{set_before}
use Rattle.crossing_sweep.proofs.ahead.first_found.Goals as goal

pub returns-clause-removal : goal.returns-clause-removal
returns-clause-removal c = ap (map ranked_entry) c.in-Some.ensures.removal

pub returns-clause-least : goal.returns-clause-least
returns-clause-least c = set_before c.in-Some.first c.pop_first.new.self.keys c.in-Some.ensures.all_above
