use Rattle.std.proofs.Common.{ap, refl, sym, subst}
use Rattle.std.specs.List.{All}
use Rattle.book_lock.specs.Heard.{HasHeard}
use Rattle.book_history.specs.BookLogs.{BookLog}
use Rattle.book_lock.specs.Steps.{HasAllOf}
use Rattle.version_book.proofs.shared.Shared.into_closed.Goals as goal

pub returns : goal.returns
returns g c =
    let e = c.into_closed.ensures in
    let all = c.if-not-has_all_of.ensures in
    record {
      version = e.version;
      log = (ap (λ t. t.book) e.log.0, e.log.1);
      reporter = subst (λ (t : BookLog). HasHeard t.log c.args.reporter.now) (sym e.log.0) (all.reporter refl);
      sessions = subst (λ (t : BookLog). All (HasAllOf t.log) c.args.sessions.now) (sym e.log.0) (all.sessions refl);
      durable = e.durable;
    }
