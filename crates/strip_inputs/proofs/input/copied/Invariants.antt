use Rattle.std.proofs.Common.{◌≡◌, take}
use Rattle.strip_inputs.proofs.input.copied.Given as goal

-- the first ones are copied
abbrev pub invariant-loop-one : goal.invariant-loop-one
invariant-loop-one l = l.copy.items ≡ take l.one-index l.marked
