use Rattle.std.proofs.Common.{◌≡◌, drop}
use Rattle.map_window.specs.Fault.{first_long_ring}
use Rattle.map_window.proofs.fitting.first_long_ring.Given as goal

-- the first ring with a long step is one of those that are left
abbrev pub invariant-loop-at : goal.invariant-loop-at
invariant-loop-at l = first_long_ring l.core l.frame 0 l.rings ≡ first_long_ring l.core l.frame l.at (drop l.at l.rings)
