use Rattle.crossing_sweep.specs.StripInput.{segments_in}
use Rattle.crossing_sweep.proofs.WholeLemmas.{places_over}
use Rattle.crossing_sweep.proofs.known_places.known_places.Goals as goal

pub of-requires-clause-whole : goal.of-requires-clause-whole
of-requires-clause-whole c = places_over (segments_in c.args.input.now) _ c.in_ok-places.ensures.known.fixed
