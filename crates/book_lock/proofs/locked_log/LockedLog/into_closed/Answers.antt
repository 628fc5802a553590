use Rattle.std.proofs.Common.{◌∙◌, ap}
use Rattle.book_lock.proofs.Growing.{newest_durable}
use Rattle.book_lock.proofs.locked_log.LockedLog.into_closed.Goals as goal

pub returns : goal.returns
returns g c =
    let seen_log = c.into_parts-version.ensures.1 ∙ ap (λ p. p.seen_log) (c.into_inner-last.ensures ∙ c.take.ensures) ∙ (λ i. record { book = c.self.invariant.1 i; log = c.self.view_is i }) in
    record {
      version = c.into_parts-version.ensures.0;
      log = (seen_log, c.at.ensures.chain);
      durable = newest_durable c.into_parts-version.result.1.log c.at.ensures.chain;
    }
