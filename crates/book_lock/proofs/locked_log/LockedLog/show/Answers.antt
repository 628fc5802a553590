use Rattle.std.proofs.Common.{◌∙◌, ap, sym, subst, refl}
use Rattle.std.proofs.lemmas.Bool.{false≢true}
use mathlib.Core.List.{IsPrefix}
use Rattle.book_history.specs.Logs.{newest_in}
use Rattle.book_history.specs.BookLogs.{BookLog}
use Rattle.book_lock.specs.Steps.{HasLooked}
use Rattle.book_lock.proofs.locked_log.LockedLog.show.Goals as goal

pub returns-then-not-is_level : goal.returns-then-not-is_level
returns-then-not-is_level g c = record {
  ok = tt;
  err = (refl, refl);
  behind = λ level. absurd (false≢true (sym c.if-not-is_level.true ∙ c.is_level.ensures.level level));
}

pub move_on-requires : goal.move_on-requires
move_on-requires g c =
    let me = c.args.me.now in
    let last = c.last-last in
    let number = c.number-number.ensures.value ∙ ap (λ v. v.number) (c.deref.ensures ∙ last.ensures.version) in
    record {
      newest = ap (λ (t : BookLog). (newest_in t.log).number) last.ensures.seen_log ∙ sym number;
      book = ap (λ (t : BookLog). t.book) last.ensures.seen_log ∙ sym c.requires;
      longer = subst (λ l. IsPrefix me.log l) (sym (ap (λ (t : BookLog). t.log) last.ensures.seen_log)) (c.if-not-is_level.ensures.longer refl);
    }

pub returns : goal.returns
returns g c =
    let me = c.args.me.now in
    let last = c.last-last in
    let number = c.number-number.ensures.value ∙ ap (λ v. v.number) (c.deref.ensures ∙ last.ensures.version) in
    let log = ap (λ (t : BookLog). t.log) last.ensures.seen_log in
    let looked : HasLooked me c.args.self.now c.move_on.new.self = record {
      longer = c.if-not-is_level.ensures.longer refl;
      knows = c.move_on.ensures ∙ (λ i. record { book = me.book; session = me.session; log = log i; made = me.made });
      own = c.if-not-is_level.ensures.own refl;
      valid = last.ensures.log;
    } in
    record { ok = (looked, sym number); err = tt; behind = tt }
