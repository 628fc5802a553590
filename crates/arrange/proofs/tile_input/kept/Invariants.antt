use Rattle.std.proofs.Common.{◌≡◌, map, take}
use Rattle.arrange.specs.Marked.{marked_of, kept_in}
use Rattle.arrange.proofs.tile_input.kept.Given as goal

-- those of the first segments that touch the column are kept
abbrev pub invariant-loop-one : goal.invariant-loop-one
invariant-loop-one l = map marked_of l.list.items ≡ kept_in l.fn.column (map marked_of (take l.one-index l.fn.marked))
