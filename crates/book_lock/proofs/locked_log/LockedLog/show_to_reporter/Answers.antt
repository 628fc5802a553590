use Rattle.std.proofs.Common.{refl, ap, sym, ◌∙◌, subst}
use mathlib.Core.List.{IsPrefix}
use Rattle.book_history.specs.BookLogs.{BookLog}
use Rattle.book_lock.proofs.Hearing.{durable_there, moved}
use Rattle.book_lock.proofs.locked_log.LockedLog.show_to_reporter.Goals as goal

pub move_on-requires : goal.move_on-requires
move_on-requires g c =
    let last = c.last-last.ensures in
    record {
      durable = durable_there _ _ _ _ _ last.seen_log last.version c.deref.ensures c.durable.ensures.value;
      book = ap (λ t. t.book) last.seen_log ∙ sym c.requires.book;
      longer = subst (λ (t : BookLog). IsPrefix c.args.me.now.log t.log) (sym last.seen_log) c.requires.heard.longer;
    }

pub returns : goal.returns
returns g c = moved c.args.me.now _ _ _ _ _ _ c.move_on.ensures c.last-last.ensures.seen_log refl
