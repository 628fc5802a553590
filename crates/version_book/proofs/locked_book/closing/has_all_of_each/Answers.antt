use Rattle.std.proofs.Common.{◌≤◌, length, refl, subst, arith}
use Rattle.std.specs.List.{All}
use Rattle.std.proofs.lemmas.List.{take_all}
use Rattle.book_lock.specs.Steps.{HasAllOf}
use Rattle.book_history.proofs.Holding.{one_at}
use Rattle.version_book.proofs.locked_book.closing.has_all_of_each.Goals as goal

pub loop-session-preserved : goal.loop-session-preserved
loop-session-preserved g c =
    let e = c.if-not-is_level.ensures in
    one_at (HasAllOf c.args.log.now) c.args.sessions.now c.loop-session.session-index c.session-item.result c.loop-session-test.true c.session-item.is c.loop-session.invariant (record { longer = e.longer refl; own = e.own refl })

pub returns-clause-all : goal.returns-clause-all
returns-clause-all g c is =
    let whole : length c.args.sessions.now ≤ c.loop-session.session-index = omega (arith, c.loop-session-test.false) in
    subst (All (HasAllOf c.args.log.now)) (take_all c.loop-session.session-index c.args.sessions.now whole) c.loop-session.invariant
