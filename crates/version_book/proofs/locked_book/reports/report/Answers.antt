use Rattle.std.proofs.Common.{refl}
use Rattle.version_book.proofs.Failures.{still_failed, reported_longer}
use Rattle.version_book.proofs.locked_book.reports.report.Goals as goal

pub invariant_of-locked : goal.invariant_of-locked
invariant_of-locked g c =
    let old = c.args.locked.now in
    let s = c.report-durable in
    let me = c.args.me.now in
    let after = s.new.self in
    let r = s.result in
    let e = s.ensures in
    record { failed = still_failed g.J.BookName.failed old.log after old.state.fault old.state.fault (reported_longer me s.new.me _ _ r old.log after c.args.receipt.now.number e.ok e.err) refl old.failed }
