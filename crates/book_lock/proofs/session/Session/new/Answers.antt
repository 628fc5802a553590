use Rattle.std.proofs.Common.{◌<◌, length, sym, arith}
use Rattle.book_history.proofs.BookLogLemmas.{begins_same}
use Rattle.book_lock.proofs.session.Session.new.Goals as goal

pub invariant_of-result : goal.invariant_of-result
invariant_of-result c =
    let long : 0 < length c.args.seen_log.log = omega (arith, c.at.ensures.length) in
    (omega arith, long, begins_same c.args.seen_log _ (sym c.requires.place) long, c.requires.newest)
