use Rattle.std.proofs.Common.{◌≡◌, drop}
use Rattle.plane_base.specs.BaseLayer.{first_ring_fault}
use Rattle.map_window.proofs.fitting.first_fault.Given as goal

-- the first fault is one of the rings that are left
abbrev pub invariant-loop-at : goal.invariant-loop-at
invariant-loop-at l = first_ring_fault 0 l.rings ≡ first_ring_fault l.at (drop l.at l.rings)
