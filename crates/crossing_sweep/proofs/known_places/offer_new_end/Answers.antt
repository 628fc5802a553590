use Rattle.std.proofs.Common.{map}
use Rattle.exact_point.specs.declared.point_name.PointName.TheVariants.{Vertex}
use Rattle.crossing_sweep.specs.RankedPlace.{ranked_entry}
use Rattle.crossing_sweep.proofs.KnownLemmas.{offered_again}
use Rattle.crossing_sweep.proofs.known_places.offer_new_end.Goals as goal

pub returns-then-is_end_of : goal.returns-then-is_end_of
returns-then-is_end_of c = λ names ends h. offered_again c.args.strip names (Vertex c.args.vertex) (map ranked_entry c.args.places.now.items) h (c.is_end_of.ensures c.if-is_end_of.true names ends)

pub returns : goal.returns
returns c = λ names ends h. c.in_ok-offer_end.ensures names h
