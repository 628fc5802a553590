use Rattle.std.proofs.Common.{◌<◌, ◌∙◌, arith, refl, sym, length}
use Rattle.std.proofs.lemmas.List.{get_or_default, length-set}
use Rattle.ring_joining.proofs.RingLemmas.{goes_on, closes, sets, starts, none_set}
use Rattle.ring_joining.proofs.FollowLemmas.{follow_starts, follow_goes, follow_closes}
use Rattle.ring_joining.proofs.WalkLemmas.{walk_starts, walk_goes, walk_closes, walk_ends, walk_unpassed}
use Rattle.ring_joining.proofs.joining.ring_from.Goals as goal
use Rattle.ring_joining.proofs.joining.ring_from.Goals.{then-next-pieces-via-then-next-pieces, then-next-pieces-via-else-next-pieces+then-pieces-at}

pub loop-init : goal.loop-init
loop-init c =
    record {
      going = starts c.args.pieces.now c.args.start c.new-ring.result.items c.requires.start c.new-ring.ensures.items;
      follows = follow_starts c.args.nexts.now c.new-ring.result.items c.args.start c.new-ring.ensures.items;
      flags = c.requires.flags;
      passed = none_set c.args.passed.now.items c.new-ring.result.items c.new-ring.ensures.items;
      walk = λ n w off. walk_starts c.args.pieces.now c.args.nexts.now c.args.start c.args.passed.now.items w off c.requires.flags;
    }

pub returns-then-index-clause-closed : goal.returns-then-index-clause-closed
returns-then-index-clause-closed c =
    λ n w off. absurd (walk_unpassed c.args.pieces.now c.args.nexts.now c.args.start c.loop.at c.loop.counter c.loop.passed.items (c.loop.invariant.walk n w off)
    c.index.result.now (sym c.index.ensures ∙ c.if-index.true))

pub returns-then-next-pieces-clause-closed : goal.returns-then-next-pieces-clause-closed
returns-then-next-pieces-clause-closed c = elim c.then-next-pieces.branch [
  | then-next-pieces-via-then-next-pieces v ↦ λ n w off. absurd (omega (arith, v.if-next-pieces.true, n.known c.loop.at c.loop.invariant.going.here))
  | then-next-pieces-via-else-next-pieces+then-pieces-at v ↦ λ n w off. absurd (v.if-pieces-at.true (n.meet c.loop.at c.loop.invariant.going.here))
]

pub returns-then-next-start-clause-ring : goal.returns-then-next-start-clause-ring
returns-then-next-start-clause-ring c =
    let items = c.in_ok-push.ensures.items in
    rw items (closes c.args.pieces.now c.args.start c.loop.at _ c.loop.ring.items c.loop.invariant.going c.if-next-start.true c.if-pieces-at.false)

pub returns-then-next-start-clause-follows : goal.returns-then-next-start-clause-follows
returns-then-next-start-clause-follows c =
    let items = c.in_ok-push.ensures.items in
    rw items (follow_closes c.args.pieces.now c.args.nexts.now c.loop.ring.items c.args.start c.loop.at _ c.loop.invariant.going c.loop.invariant.follows refl c.if-next-start.true)

pub returns-then-next-start-clause-passed : goal.returns-then-next-start-clause-passed
returns-then-next-start-clause-passed c =
    let items = c.in_ok-push.ensures.items in
    let here : c.loop.at < length c.loop.passed.items = omega (arith, c.loop.invariant.flags, c.loop.invariant.going.here) in
    rw items
    (sets c.args.passed.now.items c.loop.passed.items c.loop.ring.items c.loop.at c.loop.invariant.passed here
    (λ d. get_or_default c.loop.passed.items c.loop.at d c.index.result.now here ∙ sym c.index.ensures ∙ c.if-index.false))

pub returns-then-next-start-clause-whole : goal.returns-then-next-start-clause-whole
returns-then-next-start-clause-whole c =
    λ n w off. walk_closes c.args.pieces.now c.args.nexts.now c.args.start c.loop.at c.loop.counter _ c.loop.passed.items n (c.loop.invariant.walk n w off) c.loop.invariant.going.here
    (omega (arith, c.loop.invariant.flags, c.loop.invariant.going.here)) refl c.if-next-start.true

pub returns-clause-closed : goal.returns-clause-closed
returns-clause-closed c =
    λ n w off. absurd (walk_ends c.args.pieces.now c.args.nexts.now c.args.start c.loop.at c.loop.counter c.loop.passed.items (c.loop.invariant.walk n w off)
    (omega (arith, c.loop.invariant.flags, c.loop.invariant.going.here)) c.loop-test.false)

pub loop-preserved : goal.loop-preserved
loop-preserved c =
    let items = c.in_ok-push.ensures.items in
    let here : c.loop.at < length c.loop.passed.items = omega (arith, c.loop.invariant.flags, c.loop.invariant.going.here) in
    rw items
    (record {
      going = goes_on c.args.pieces.now c.args.start c.loop.at _ c.loop.ring.items c.loop.invariant.going c.if-next-pieces.false c.if-pieces-at.false;
      follows = follow_goes c.args.nexts.now c.loop.ring.items c.loop.at _ c.loop.invariant.follows refl;
      flags = length-set _ _ _ ∙ c.loop.invariant.flags;
      passed = sets c.args.passed.now.items c.loop.passed.items c.loop.ring.items c.loop.at c.loop.invariant.passed here
          (λ d. get_or_default c.loop.passed.items c.loop.at d c.index.result.now here ∙ sym c.index.ensures ∙ c.if-index.false);
      walk = λ n w off. walk_goes c.args.pieces.now c.args.nexts.now c.args.start c.loop.at c.loop.counter _ c.loop.passed.items n (c.loop.invariant.walk n w off)
          c.loop.invariant.going.here here refl c.if-next-start.false;
    })
