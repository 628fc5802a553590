use Rattle.std.proofs.Common.{◌<◌, inr, ap, sym, ◌∙◌, arith, subst}
use Rattle.book_history.specs.Logs.{newest_in}
use Rattle.version_book.specs.Failing.{HasFailed}
use Rattle.version_book.proofs.Answered.{gone_err, gone_looks, gone_ok, not_false}
use Rattle.version_book.proofs.locked_book.waits.tell_durable.Goals as goal

pub returns-in_err-show : goal.returns-in_err-show
returns-in_err-show g c =
    let r = c.from_residual.result in
    let gone = c.in_err-show.ensures.err in
    record {
      ok = gone_ok r _ _ c.from_residual.ensures.1;
      reported = gone_ok r _ _ c.from_residual.ensures.1;
      refused = gone_err r _ _ c.from_residual.ensures.1 gone.0 tt;
      failed = gone_err r _ _ c.from_residual.ensures.1 gone.0 tt;
      seen = gone_looks r _ _ _ _ c.from_residual.ensures.1 gone.0 gone.1;
      gone = λ _. c.in_err-show.ensures.behind;
    }

pub returns-then-number-durable : goal.returns-then-number-durable
returns-then-number-durable g c =
    let newest = ap (λ v. v.durable) (c.deref.ensures ∙ c.last.ensures.version) in
    record {
      ok = (sym (c.durable-durable.ensures.value ∙ newest), c.if-number-durable.true);
      reported = c.last.ensures.reported;
      refused = tt;
      failed = tt;
      seen = c.in_ok-show.ensures.ok.0;
      gone = λ is. absurd (cc);
    }

pub returns-in-Some : goal.returns-in-Some
returns-in-Some g c =
    let newest = c.durable-durable.ensures.value ∙ ap (λ v. v.durable) (c.deref.ensures ∙ c.last.ensures.version) in
    let behind : (newest_in c.args.locked.now.log).durable < c.args.number = omega (arith, newest, c.if-number-durable.false) in
    record { ok = tt; reported = tt; refused = (behind, c.in-Some.is); failed = subst (HasFailed g.J.BookName.failed c.args.locked.now.log) c.in-Some.is c.args.locked.now.failed; seen = inr (λ is. absurd (cc), c.in_ok-show.ensures.ok.0); gone = λ is. absurd (cc) }

pub returns-in-None : goal.returns-in-None
returns-in-None g c =
    let newest = c.durable-durable.ensures.value ∙ ap (λ v. v.durable) (c.deref.ensures ∙ c.last.ensures.version) in
    let behind : (newest_in c.args.locked.now.log).durable < c.args.number = omega (arith, newest, c.if-number-durable.false) in
    let closing = not_false _ (λ wide. c.requires.ready (record { behind = behind; sound = c.in-None.is; not_closing = wide })) in
    record { ok = tt; reported = tt; refused = (behind, c.in-None.is, closing); failed = tt; seen = inr (λ is. absurd (cc), c.in_ok-show.ensures.ok.0); gone = λ is. absurd (cc) }
