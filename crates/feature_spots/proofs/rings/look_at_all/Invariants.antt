use Rattle.std.proofs.Common.{◌≡◌, drop}
use Rattle.std.specs.Prelude.{All}
use Rattle.block_reading.specs.Block.{dealt}
use Rattle.feature_spots.specs.Spots.{steps_of, is_on_steps, is_within, IsNear}
use Rattle.feature_spots.proofs.LoopLemmas.{turn}
use Rattle.feature_spots.proofs.rings.look_at_all.Given as goal

-- no ring so far has the point; what is seen of those that are left, with the rings so far, is what is seen of all
abbrev pub invariant-loop-count : goal.invariant-loop-count
invariant-loop-count l = record {
  on : is_on_steps l.p (steps_of (dealt (drop l.count-index l.counts) l.rest)) ≡ is_on_steps l.p (steps_of (dealt l.counts l.points));
  below : turn l.odd (is_within l.p (steps_of (dealt (drop l.count-index l.counts) l.rest))) ≡ is_within l.p (steps_of (dealt l.counts l.points));
  near : All (All IsNear) (dealt l.counts l.points) → All (All IsNear) (dealt (drop l.count-index l.counts) l.rest);
}
