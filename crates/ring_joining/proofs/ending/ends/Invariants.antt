use Rattle.std.proofs.Common.{◌≡◌, ◌++◌, drop}
use Rattle.ring_joining.specs.Following.{ends_from, ends_of}
use Rattle.ring_joining.proofs.ending.ends.Given as goal

-- what is still to come makes it all
abbrev pub invariant-loop-number : goal.invariant-loop-number
invariant-loop-number l = l.ends.items ++ ends_from l.is_first l.number (drop l.number l.pieces) ≡ ends_of l.is_first l.pieces
