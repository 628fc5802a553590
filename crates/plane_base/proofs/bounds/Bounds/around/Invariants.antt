use Rattle.std.proofs.Common.{take}
use Rattle.std.specs.List.{AllByRecursion}
use Rattle.plane_base.specs.Bounds.{Holds}
use Rattle.plane_base.proofs.bounds.Bounds.around.Given as goal

-- the segments so far are held
abbrev pub invariant-loop-seg : goal.invariant-loop-seg
invariant-loop-seg l = AllByRecursion (Holds l.bounds) (take l.seg-index l.segs)
