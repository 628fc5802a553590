use Rattle.std.proofs.Common.{◌∙◌, ap, subst}
use Rattle.book_history.specs.Logs.{newest_in, IsLog}
use Rattle.book_history.specs.Reporting.{ReportsStored}
use Rattle.book_lock.proofs.locked_log.LockedLog.last.Goals as goal

pub returns : goal.returns
returns g c =
    let shown = c.published-last.ensures in
    let log = ap (λ p. p.seen_log.log) shown ∙ c.self.view_is in
    record {
      seen_log = ap (λ p. p.seen_log) shown ∙ (λ i. record { book = c.self.invariant.1 i; log = c.self.view_is i });
      version = c.published-last.result.now.last ∙ ap newest_in log;
      log = subst IsLog log c.at.ensures.chain;
      reported = subst (ReportsStored g.J.BookName.stored) c.self.view_is c.self.invariant.4;
    }
