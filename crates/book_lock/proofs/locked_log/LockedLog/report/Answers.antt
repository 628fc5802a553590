use Rattle.std.proofs.Common.{inr, refl, ap, sym, ◌∙◌, subst}
use Rattle.std.proofs.lemmas.Result.{IfOk-from_err}
use Rattle.book_history.specs.Logs.{newest_in}
use mathlib.Core.List.{IsPrefix}
use Rattle.book_history.specs.BookLogs.{BookLog}
use Rattle.book_history.proofs.Fronts.{prefix_trans}
use Rattle.book_history.proofs.Gone.{passed}
use Rattle.book_lock.proofs.Growing.{report_longer}
use Rattle.book_lock.proofs.Hearing.{moved}
use Rattle.book_lock.proofs.locked_log.LockedLog.report.Goals as goal

pub raise-requires : goal.raise-requires
raise-requires g c =
    let heard = c.if-not-has_heard.ensures.0 refl in
    record { own = c.requires.own; stored = record { was = c.args.me.now.log; longer = heard.longer; holds = c.requires.stored } }

pub move_on-requires : goal.move_on-requires
move_on-requires g c =
    let last = c.last.ensures.seen_log in
    let heard = c.if-not-has_heard.ensures.0 refl in
    let more = report_longer _ _ _ c.in_ok-durable.ensures.ok.0 in
    record {
      durable = ap (λ t. (newest_in t.log).durable) last ∙ c.in_ok-durable.ensures.ok.1;
      book = ap (λ t. t.book) last ∙ sym c.requires.book;
      longer = subst (λ (t : BookLog). IsPrefix c.args.me.now.log t.log) (sym last) (prefix_trans _ _ _ heard.longer more);
    }

pub returns-then-not-has_heard : goal.returns-then-not-has_heard
returns-then-not-has_heard g c =
    record { ok = tt; seen = tt; begun = c.given-given.ensures.begun; err = (refl, refl, inr refl); heard = λ is. absurd (cc) }

pub returns-in_err-durable : goal.returns-in_err-durable
returns-in_err-durable g c =
    let failed = c.from_residual.ensures in
    let e = c.in_err-durable.ensures.err in
    record {
      ok = IfOk-from_err _ _ failed.0;
      seen = IfOk-from_err _ _ failed.0;
      begun = c.given-given.ensures.begun;
      err = passed _ _ _ failed.1 (e.0, refl, e.1);
      heard = λ _. c.if-not-has_heard.ensures.0 refl;
    }

pub returns : goal.returns
returns g c =
    let last = c.last.ensures in
    record {
      ok = c.in_ok-durable.ensures.ok;
      seen = (
        c.if-not-has_heard.ensures.0 refl,
        moved c.args.me.now _ _ _ _ _ _ c.move_on.ensures last.seen_log c.given-given.ensures.value,
        last.log,
      );
      begun = c.given-given.ensures.begun;
      err = tt;
      heard = λ is. absurd (cc);
    }
