use Rattle.std.proofs.Common.{◌∙◌, length, drop, ap, sym, refl, inl, arith, subst}
use Rattle.std.proofs.lemmas.Result.{IfOk-from_err}
use Rattle.overlay_terms.specs.Histories.{commands_of}
use Rattle.book_history.specs.Logs.{newest_in}
use Rattle.book_history.specs.BookLogs.{BookLog}
use Rattle.book_lock.specs.Steps.{beginners}
use Rattle.book_history.specs.Reporting.{ReportsStored}
use Rattle.book_lock.proofs.Beginning.{none_yet}
use Rattle.book_history.proofs.Gone.{passed}
use Rattle.book_lock.proofs.locked_log.LockedLog.open.Goals as goal

pub returns-in_err-version : goal.returns-in_err-version
returns-in_err-version g c =
    let failed = c.from_residual.ensures in record {
      log = IfOk-from_err _ _ failed.0;
      reporter = IfOk-from_err _ _ failed.0;
      sessions = IfOk-from_err _ _ failed.0;
      err = passed _ _ _ failed.1 (inl c.in_err-version.ensures.err);
    }

pub new-reporter-requires : goal.new-reporter-requires
new-reporter-requires g c =
    ap (λ (t : BookLog). (newest_in t.log).durable) c.again.ensures ∙ ap (λ l. (newest_in l).durable) c.requires.seen_log.1
    ∙ sym c.durable.ensures.value

pub invariant_of-begun : goal.invariant_of-begun
invariant_of-begun g c = record { last = c.in_ok-version.ensures.ok ∙ sym (ap newest_in c.requires.seen_log.1) }

pub first_publisher-requires : goal.first_publisher-requires
first_publisher-requires g c =
    record { begun = omega (arith, ap length c.requires.seen_log.1); readers = (omega arith, omega (arith, c.requires.sessions.1)) }

pub returns-in_default : goal.returns-in_default
returns-in_default g c = record { log = tt; reporter = tt; sessions = tt; err = inl refl }

pub beginners-list-requires : goal.beginners-list-requires
beginners-list-requires g c = record {
  known = c.in-Some.ensures.2 ∙ sym c.again-first.ensures;
  newest = ap (λ (t : BookLog). (newest_in t.log).number) c.again-first.ensures
      ∙ ap (λ l. (newest_in l).number) c.requires.seen_log.1 ∙ sym c.number-number.ensures.value;
}

pub invariant_of-log : goal.invariant_of-log
invariant_of-log g c =
    let kept = c.beginners-list.ensures.kept in
    let shown = ap (λ s. s.value.seen_log) kept.0 ∙ c.in-Some.ensures.0 in
    let log = ap (λ (t : BookLog). t.log) shown ∙ c.requires.seen_log.1 in (
      c.requires.head,
      ap (λ (t : BookLog). t.book) shown ∙ c.requires.seen_log.0,
      (λ i. drop (kept.2 i) (kept.1 i).items) ∙ c.in-Some.ensures.1,
      (λ by low. none_yet by ∙ sym (ap (λ l. length (commands_of by l)) log)),
      subst (ReportsStored g.J.BookName.stored) (sym log) (inl refl),
    )

pub returns-in_err-list : goal.returns-in_err-list
returns-in_err-list g c =
    let failed = c.from_residual-in_err-list.ensures in record {
      log = IfOk-from_err _ _ failed.0;
      reporter = IfOk-from_err _ _ failed.0;
      sessions = IfOk-from_err _ _ failed.0;
      err = passed _ _ _ failed.1 c.in_err-list.ensures.err;
    }

pub returns : goal.returns
returns g c =
    let shown = ap (λ s. s.value.seen_log) c.beginners-list.ensures.kept.0 ∙ c.in-Some.ensures.0 in
    let begun = c.new-reporter.ensures ∙ ap (λ t. record { book = t.book; log = t.log; given = 0 }) c.again.ensures in record {
      log = ap (λ (t : BookLog). t.log) shown;
      reporter = c.reporter.view_is ∙ begun;
      sessions = c.in_ok-list.ensures.given ∙ ap (λ t. beginners t c.args.sessions) c.again-first.ensures;
      err = tt;
    }
