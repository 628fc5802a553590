use Rattle.std.proofs.Common.{refl, rules, subst}
use mathlib.Core.List.{IsPrefix}
use Rattle.book_lock.specs.Steps.{IsFinishedIn}
use Rattle.version_book.proofs.Failures.{kept_longer, still_failed}
use Rattle.version_book.proofs.locked_book.LockedBook.finish.Goals as goal

pub returns-in-Err : goal.returns-in-Err
returns-in-Err g c =
    let e = c.in-Err.ensures.err in
    record { goes_on = tt; log = tt; state = tt; err = (refl, e.0, refl); refused = e.1 }

pub returns : goal.returns
returns g c =
    let old = c.args.self.now.log in
    let new = c.keep.new.self in
    let tile = c.args.built.now.1 in
    let kept = c.in-Ok.ensures.kept in
    record {
      goes_on = subst (λ l. IsPrefix l old) c.seen_log.ensures.1 (c.has.ensures.0 c.if-not-has.false);
      log = subst (λ i. IsFinishedIn old c.args.job.name i tile c.in-Ok.kept new) c.requires.input
          (subst (λ n. IsFinishedIn old n c.args.built.now.0 tile c.in-Ok.kept new) c.name.ensures kept);
      state = search rules;
      err = tt;
      refused = tt;
    }

pub invariant_of-self-2 : goal.invariant_of-self-2
invariant_of-self-2 g c =
    let old = c.args.self.now in
    record {
      failed = still_failed g.J.BookName.failed old.log c.keep.new.self old.state.fault c.job_finished.new.self.fault (kept_longer old.log c.keep.new.self _ _ _ c.in-Ok.kept c.in-Ok.ensures.kept)
          c.job_finished.ensures.fault old.failed;
    }
