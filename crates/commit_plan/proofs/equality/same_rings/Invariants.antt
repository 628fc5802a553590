use Rattle.std.proofs.Common.{◌≡◌, length, take}
use Rattle.std.specs.Prelude.{IsTrue}
use Rattle.commit_plan.specs.Same.{same_rings}
use Rattle.commit_plan.proofs.equality.same_rings.Given as goal

-- the rings so far have the same points
abbrev pub invariant-loop-i : goal.invariant-loop-i
invariant-loop-i l = record {
  as_long : length l.held ≡ length l.new;
  same : IsTrue (same_rings (take l.i l.held) (take l.i l.new));
}
