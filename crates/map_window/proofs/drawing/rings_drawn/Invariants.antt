use Rattle.std.proofs.Common.{◌≡◌, take}
use Rattle.std.specs.Prelude.{filter_map}
use Rattle.map_window.specs.Drawn.{ring_drawn}
use Rattle.map_window.proofs.drawing.rings_drawn.Given as goal

-- the rings so far are drawn
abbrev pub invariant-loop-ring : goal.invariant-loop-ring
invariant-loop-ring l = l.drawn.items ≡ filter_map (ring_drawn l.near l.frame l.origin) (take l.ring-index l.rings)
