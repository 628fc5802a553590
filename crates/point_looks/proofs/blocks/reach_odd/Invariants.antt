use Rattle.std.proofs.Common.{◌≡◌, ◌%◌, ◌==◌, count_by, take}
use Rattle.point_looks.specs.Outside.{reaches}
use Rattle.point_looks.proofs.blocks.reach_odd.Given as goal

-- how many of the segments so far reach over the x
abbrev pub invariant-loop-seg : goal.invariant-loop-seg
invariant-loop-seg l = l.odd ≡ (count_by (reaches l.x) (take l.seg-index l.segs) % 2 == 1)
