use Rattle.feature_spots.proofs.RingLemmas.{spots_are_of_segments}
use Rattle.feature_spots.proofs.laws.spots_are_of_segments.Goals as goal

pub returns : goal.returns
returns c = spots_are_of_segments
