use Rattle.std.proofs.Common.{All}
use Rattle.ring_joining.specs.Outline.{IsJoined}
use Rattle.ring_joining.specs.Following.{AreNexts, Follows, IsWhole}
use Rattle.ring_joining.proofs.joining.join.Given as goal

abbrev pub invariant-loop-start : goal.invariant-loop-start
invariant-loop-start l = record {
  joined : IsJoined l.pieces l.passed.items l.rings.items l.start;
  follow : All (Follows l.nexts) l.rings.items;
  whole : AreNexts l.pieces l.nexts → IsWhole l.pieces l.nexts l.passed.items;
}
