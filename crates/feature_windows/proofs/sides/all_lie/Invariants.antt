use Rattle.std.proofs.Common.{take}
use Rattle.std.specs.Prelude.{All}
use Rattle.map_window.specs.Window.{Lies}
use Rattle.near_steps.specs.Cores.{box_of}
use Rattle.feature_windows.specs.Layers.{side_of}
use Rattle.feature_windows.proofs.sides.all_lie.Given as goal

-- the first points lie there
abbrev pub invariant-loop-p : goal.invariant-loop-p
invariant-loop-p l = All (Lies (box_of l.core) (side_of l.side)) (take l.p-index l.points)
