use Rattle.std.proofs.Common.{◌≡◌, take}
use Rattle.std.specs.Prelude.{fold}
use Rattle.map_window.specs.Drawn.{extended}
use Rattle.map_window.proofs.drawing.ring_drawn.Given as goal

-- the line has the points so far
abbrev pub invariant-loop-a : goal.invariant-loop-a
invariant-loop-a l = l.line ≡ fold (extended l.near l.frame l.origin) l.initial.line (take l.a-index l.rest)
