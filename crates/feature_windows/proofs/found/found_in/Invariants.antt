use Rattle.std.proofs.Common.{take}
use Rattle.feature_windows.specs.Sums.{AreFoundIn}
use Rattle.feature_windows.proofs.found.found_in.Given as goal

-- the first windows' areas are added
abbrev pub invariant-loop-window : goal.invariant-loop-window
invariant-loop-window l = AreFoundIn (take l.window-index l.windows) l.steps l.x l.y l.all
