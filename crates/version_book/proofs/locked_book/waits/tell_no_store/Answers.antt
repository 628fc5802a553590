use Rattle.std.proofs.Common.{inl, inr, refl}
use Rattle.version_book.proofs.Answered.{gone_looks, err_and}
use Rattle.version_book.proofs.locked_book.waits.tell_no_store.Goals as goal

pub returns-in_err-show : goal.returns-in_err-show
returns-in_err-show g c =
    let r = c.from_residual.result in
    let gone = c.in_err-show.ensures.err in
    record {
      refused = err_and r _ _ c.from_residual.ensures.1 (inr gone.0);
      seen = gone_looks r _ _ _ _ c.from_residual.ensures.1 gone.0 gone.1;
      gone = λ _. c.in_err-show.ensures.behind;
    }

pub returns : goal.returns
returns g c = record { refused = inl refl; seen = inr (λ is. absurd (cc), c.in_ok-show.ensures.ok.0); gone = λ is. absurd (cc) }
