use Rattle.std.proofs.lemmas.Result.{err_from_is_err_and}
use Rattle.ring_joining.proofs.RingLemmas.{finished}
use Rattle.ring_joining.proofs.joining.join.Goals as goal

pub returns : goal.returns
returns c =
    record {
      outline = finished c.args.pieces.now c.loop-start.passed.items c.loop-start.rings.items c.loop-start.start c.loop-start-test.false c.loop-start.invariant.joined;
      follows = c.loop-start.invariant.follow;
      closed = λ n. tt;
    }

pub loop-start-preserved : goal.loop-start-preserved
loop-start-preserved c =
    record { joined = c.in_ok-join_from.ensures.joined; follow = c.in_ok-join_from.ensures.follow; whole = λ n. c.in_ok-join_from.ensures.whole n (c.loop-start.invariant.whole n) }

pub returns-in_err-join_from-clause-closed : goal.returns-in_err-join_from-clause-closed
returns-in_err-join_from-clause-closed c =
    let p = err_from_is_err_and c.from_residual-in_err-join_from.result c.from_residual-in_err-join_from.ensures.1 in
    rw (p.1, p.2) (λ n. c.in_err-join_from.ensures.closed n (c.loop-start.invariant.whole n))
