use Rattle.std.proofs.Common.{◌≡◌, Bool, false, get_or, length}
use Rattle.ring_joining.specs.Outline.{AreSet}
use Rattle.ring_joining.specs.Following.{AreNexts, IsWhole}
use Rattle.ring_joining.proofs.RingLemmas.{IsGoing}
use Rattle.ring_joining.proofs.FollowLemmas.{IsFollowing}
use Rattle.ring_joining.proofs.WalkLemmas.{IsWalking}
use Rattle.ring_joining.proofs.joining.ring_from.Given as goal

abbrev pub invariant-loop : goal.invariant-loop
invariant-loop l = record {
  going : IsGoing l.pieces l.start l.at l.ring.items;
  follows : IsFollowing l.nexts l.ring.items l.at;
  flags : length l.passed.items ≡ length l.pieces;
  passed : AreSet l.fn.passed.items l.passed.items l.ring.items;
  walk : AreNexts l.pieces l.nexts → IsWhole l.pieces l.nexts l.fn.passed.items → ((d : Bool) → get_or l.fn.passed.items l.start d ≡ false)
      → IsWalking l.pieces l.nexts l.start l.at l.counter l.passed.items;
}
