use Rattle.std.proofs.Common.{◌+◌, ◌*◌}
use Rattle.boundary_outlines.proofs.DoubleLemmas.{HasRoom}
use Rattle.boundary_outlines.proofs.doubles.widest.Given as goal

-- it has 33 bits, or as many doublings as it was asked for
abbrev pub invariant-loop : goal.invariant-loop
invariant-loop l = HasRoom (l.fn.whole * l.fn.w + l.fn.rest) l.fn.w l.counter l.own
