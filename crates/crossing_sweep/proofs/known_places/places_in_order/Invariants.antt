use Rattle.std.proofs.Common.{take, map}
use Rattle.std.specs.Prelude.{flat_map}
use Rattle.crossing_sweep.specs.Ahead.{known_names, AreOffered, HasEnds}
use Rattle.crossing_sweep.specs.RankedPlace.{ranked_entry}
use Rattle.crossing_sweep.proofs.known_places.places_in_order.Given as goal

-- the names of the first segments have been offered, and the last of them has its ends among these
abbrev pub invariant-loop-m : goal.invariant-loop-m
invariant-loop-m l = record {
  offered : AreOffered l.fn.input.strip (flat_map (λ s. known_names s l.fn.input.strip) (map (λ m. m.seg) (take l.m-index l.m-items))) (map ranked_entry l.places.items);
  ends : HasEnds (flat_map (λ s. known_names s l.fn.input.strip) (map (λ m. m.seg) (take l.m-index l.m-items))) l.before;
}
