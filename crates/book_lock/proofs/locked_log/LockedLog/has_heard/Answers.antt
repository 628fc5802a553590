use Rattle.std.proofs.Common.{ap, sym, ◌∙◌, subst, ◌↔◌, IsTrue}
use Rattle.book_history.specs.BookLogs.{BookLog}
use Rattle.book_lock.specs.Heard.{HasHeard}
use Rattle.book_lock.proofs.Hearing.{durable_there}
use Rattle.book_lock.proofs.locked_log.LockedLog.has_heard.Goals as goal

pub is_level-requires : goal.is_level-requires
is_level-requires g c =
    let last = c.last-last.ensures in
    record {
      book = ap (λ t. t.book) last.seen_log ∙ sym c.requires;
      durable = durable_there _ _ _ _ _ last.seen_log last.version c.deref.ensures c.durable.ensures.value;
    }

pub returns : goal.returns
returns g c =
    subst (λ (t : BookLog). IsTrue c.is_level.result ↔ HasHeard t.log c.args.me.now) c.last-last.ensures.seen_log c.is_level.ensures
