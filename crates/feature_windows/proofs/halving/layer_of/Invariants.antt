use Rattle.std.proofs.Common.{take}
use Rattle.near_steps.specs.Cores.{box_of}
use Rattle.feature_windows.specs.Layers.{layer_rings, LookLike}
use Rattle.feature_windows.proofs.halving.layer_of.Given as goal

-- the rings of the first members are there
abbrev pub invariant-loop-one : goal.invariant-loop-one
invariant-loop-one l = LookLike (box_of l.core) (layer_rings l.features (take l.one-index l.members) l.layer) l.rings
