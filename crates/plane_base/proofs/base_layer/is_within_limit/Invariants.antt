use Rattle.std.proofs.Common.{◌≡◌, ◌≤◌, take}
use Rattle.overlay_terms.specs.Plane.{ring_step_count, steps_max}
use Rattle.plane_base.proofs.base_layer.is_within_limit.Given as goal

abbrev pub invariant-loop-ring : goal.invariant-loop-ring
invariant-loop-ring l = (l.steps ≡ ring_step_count (take l.ring-index l.rings)) × (l.steps ≤ steps_max)
