use Rattle.std.proofs.Common.{◌≡◌, map, take}
use Rattle.arrange.specs.Marked.{marked_of}
use Rattle.feature_windows.specs.Shown.{AreShown}
use Rattle.feature_windows.proofs.layers.draw_layers.Given as goal

-- the first layers are drawn
abbrev pub invariant-loop-rings : goal.invariant-loop-rings
invariant-loop-rings l = (l.number ≡ l.rings-index) × AreShown l.core (take l.rings-index l.layers) (map marked_of l.marked.items)
