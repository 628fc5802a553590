use Rattle.std.proofs.Common.{◌≡◌, ◌*◌, take, drop, length}
use Rattle.plane_base.specs.Bounds.{Cover}
use Rattle.plane_base.proofs.blocks.bounds_of.Given as goal

-- the ranges of the blocks so far
abbrev pub invariant-loop : goal.invariant-loop
invariant-loop l = record {
  rest : l.rest ≡ drop (32 * l.counter) l.segs;
  count : length l.bounds.items ≡ l.counter;
  cover : Cover l.bounds.items (take (32 * l.counter) l.segs);
}
