use Rattle.std.proofs.Common.{refl, sym, ◌∙◌}
use Rattle.std.proofs.lemmas.Result.{IfOk-from_err}
use mathlib.Core.Bool.{true≢false}
use Rattle.book_history.proofs.Gone.{passed}
use Rattle.book_lock.proofs.Turning.{refused_by, refused_more}
use Rattle.version_book.proofs.Failures.{left_failed}
use Rattle.version_book.proofs.Answered.{away_reported}
use Rattle.version_book.proofs.locked_book.LockedBook.submit.Goals as goal

pub returns-then-self : goal.returns-then-self
returns-then-self g c =
    let log = c.args.self.now.log in
    let me = c.args.me.now in
    let now = c.turn_away.new.me in
    let refuses = g.C.Change.refuses c.args.change.now in
    let away = c.turn_away.ensures in
    record {
      ok = tt;
      accepted = tt;
      err = (refl, refl, refused_by log me now refuses _ _ _ away (λ looked. (c.if-self.true, looked)));
      closing = λ _. away_reported log me now _ away;
    }

pub returns-in_err-number : goal.returns-in_err-number
returns-in_err-number g c =
    let failed = c.from_residual.ensures in
    let locked = c.args.self.now in
    let refuses = g.C.Change.refuses c.args.change.now in
    let e = c.in_err-number.ensures.err in
    record {
      ok = IfOk-from_err _ _ failed.0;
      accepted = IfOk-from_err _ _ failed.0;
      err = passed _ _ _ failed.1 (e.0, refl, refused_more locked.log c.args.me.now c.submit.new.me refuses _ locked.state.closing _ (λ is. absurd (true≢false (sym is))) e.1);
      closing = λ is. absurd (true≢false (sym is ∙ c.if-self.false));
    }

pub returns : goal.returns
returns g c = record {
  ok = c.in_ok-number.ensures.ok;
  accepted = c.command_accepted.ensures;
  err = tt;
  closing = λ is. absurd (true≢false (sym is ∙ c.if-self.false));
}

pub invariant_of-self-2 : goal.invariant_of-self-2
invariant_of-self-2 g c =
    let old = c.args.self.now in
    record {
      failed = left_failed g.J.BookName.failed old.log c.submit.new.self old.state.fault c.command_accepted.new.self.fault (_, sym c.in_ok-number.ensures.ok.added) c.command_accepted.ensures.fault
          old.failed;
    }
