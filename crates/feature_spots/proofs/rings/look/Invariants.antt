use Rattle.std.proofs.Common.{◌≡◌, drop}
use Rattle.std.specs.Prelude.{All}
use Rattle.feature_spots.specs.Spots.{steps_from, loop_of, is_on_steps, is_within, IsNear}
use Rattle.feature_spots.proofs.LoopLemmas.{turn}
use Rattle.feature_spots.proofs.rings.look.Given as goal

-- no step so far has the point; what is seen of those that are left, with the steps so far, is what is seen of all
abbrev pub invariant-loop-to : goal.invariant-loop-to
invariant-loop-to l = record {
  on : is_on_steps l.p (steps_from l.from (drop l.to-index l.ring)) ≡ is_on_steps l.p (loop_of l.ring);
  below : turn l.odd (is_within l.p (steps_from l.from (drop l.to-index l.ring))) ≡ is_within l.p (loop_of l.ring);
  near : All IsNear l.ring → IsNear l.from;
}
