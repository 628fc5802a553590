use Rattle.std.proofs.Common.{◌≡◌, ◌≤◌, IfOk, IfErr, sym, ◌∙◌, subst}
use mathlib.Core.Bool.{true≢false}
use Rattle.overlay_terms.specs.Histories.{newest}
use Rattle.book_history.specs.Known.{seen}
use Rattle.book_history.specs.Logs.{newest_in}
use Rattle.book_history.specs.Reporting.{ReportsStored}
use Rattle.version_book.specs.Failing.{IsReportedFault}
use Rattle.version_book.specs.Waits.{IsSyncRefused}
use Rattle.version_book.proofs.Failures.{none_failed}
use Rattle.version_book.proofs.Results.{looks_err, looks_failed, looks_goes, looks_history, looks_ok, looks_own, looks_refused, looks_same, looks_reported, never_ok, sync_refused, with_store, without_store}
use Rattle.version_book.proofs.shared.Shared.wait_durable.Goals as goal

pub returns-then-not-self : goal.returns-then-not-self
returns-then-not-self g c =
    let s = c.tell_no_store in
    let me = c.args.me.now in
    let now = s.new.me in
    let log = c.deref.result.now.log in
    let looks = s.ensures.seen in
    record {
      goes_on = looks_goes me now log s.result c.number.ensures.begun looks;
      history = looks_history me now log s.result c.number.ensures.valid looks;
      ok = never_ok s.result _ _ s.ensures.refused;
      reported = never_ok s.result _ _ s.ensures.refused;
      own = looks_own me now log s.result looks;
      err = looks_err me now log s.result looks;
      refused = without_store s.result (newest (seen now)) _ s.ensures.refused;
      failed = none_failed g.J.BookName.failed s.result now.log s.ensures.refused;
      only_without = λ _. c.if-not-self.true;
      without = λ _. s.ensures.refused;
      same = looks_same me now log s.result looks;
    }

pub returns : goal.returns
returns g c =
    let s = c.tell_durable in
    let me = c.args.me.now in
    let now = s.new.me in
    let locked = c.deref-2.result.now in
    let log = locked.log in
    let looks = s.ensures.seen in
    record {
      goes_on = looks_goes me now log s.result c.number.ensures.begun looks;
      history = looks_history me now log s.result c.number.ensures.valid looks;
      ok = looks_ok me now log s.result (λ v n. (v.durable ≡ n) × ((newest (seen me)).number ≤ n)) looks
          (subst (λ m. IfOk s.result (λ n. ((newest_in log).durable ≡ n) × (m ≤ n))) c.newest-number.ensures s.ensures.ok);
      reported = looks_reported me now log s.result (ReportsStored g.J.BookName.stored) looks s.ensures.reported;
      own = looks_own me now log s.result looks;
      err = looks_err me now log s.result looks;
      refused = subst (λ m. IfErr s.result (λ f. IsSyncRefused m (newest (seen now)) f)) c.newest-number.ensures
          (looks_refused me now log s.result (λ v f. IsSyncRefused c.newest-number.result v f) (λ v. tt) looks
          (sync_refused s.result locked.state (newest_in log) _ s.ensures.refused));
      failed = looks_failed me now log s.result (IsReportedFault g.J.BookName.failed) (λ l. tt) looks s.ensures.failed;
      only_without = λ is. absurd (with_store s.result locked.state (newest_in log) _ s.ensures.refused is);
      without = λ is. absurd (true≢false (sym c.if-not-self.false ∙ is));
      same = looks_same me now log s.result looks;
    }
