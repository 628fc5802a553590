use Rattle.std.proofs.Common.{ℕ, ◌+◌, ◌-◌, ◌≤◌, List, ◌++◌, map}
use Rattle.std.specs.List.{range_with_len}
use Rattle.exact_point.specs.declared.point_name.PointName.{PointName}
use Rattle.exact_point.specs.declared.point_name.PointName.TheVariants.{Border}
use Rattle.crossing_sweep.specs.Ahead.{AreOffered}
use Rattle.crossing_sweep.specs.RankedPlace.{ranked_entry}
use Rattle.crossing_sweep.proofs.known_places.offer_cuts.Given as goal

-- the cuts by the first borders have been offered
abbrev pub invariant-loop-number : goal.invariant-loop-number
invariant-loop-number l = record {
  offered : (names : List PointName) → AreOffered l.fn.strip names (map ranked_entry l.fn.places.items)
      → AreOffered l.fn.strip (names ++ map (λ (k : ℕ). Border l.fn.seg k) (range_with_len l.fn.strip.first (l.number - l.fn.strip.first))) (map ranked_entry l.places.items);
  from : l.fn.strip.first ≤ l.number;
  to : l.number ≤ l.fn.strip.last + 2;
}
