use Rattle.std.proofs.Common.{◌∙◌, ◌<◌, length, ap, sym, subst, arith}
use Rattle.std.proofs.lemmas.Bool.{ltb-true}
use mathlib.Core.List.{IsPrefix}
use Rattle.overlay_terms.specs.Histories.{commands_of}
use Rattle.book_lock.proofs.locked_log.LockedLog.is_level.Goals as goal

pub is_level-requires : goal.is_level-requires
is_level-requires g c =
    let by = c.number-by.ensures.value in
    let shown = c.published.ensures in
    record {
      book = ap (λ p. p.seen_log.book) shown ∙ c.self.invariant.1 ∙ sym c.requires;
      count = c.self.invariant.3 c.number-by.result c.if-by-lt4.true ∙ (λ i. length (commands_of (by i) (sym shown i).seen_log.log));
    }

pub returns-then-by-lt4 : goal.returns-then-by-lt4
returns-then-by-lt4 g c =
    let me = c.args.me.now in
    let level = c.is_level.ensures in
    let log = ap (λ p. p.seen_log.log) c.published.ensures ∙ c.self.view_is in
    record {
      longer = λ yes. subst (λ l. IsPrefix me.log l) log (level.longer yes);
      own = λ yes. ap (commands_of me.session) (sym log) ∙ level.own yes;
      seat = λ _. subst (λ b. b < 4) c.number-by.ensures.value c.if-by-lt4.true;
      level = λ all. level.level (subst (λ l. IsPrefix me.log l) (sym log) all.has_all.longer) (ap (commands_of me.session) log ∙ all.has_all.own);
    }

pub returns-else-by-lt4 : goal.returns-else-by-lt4
returns-else-by-lt4 g c = record {
  longer = λ yes. absurd (omega (arith, ltb-true c.number-by.result 4 yes, c.if-by-lt4.false));
  own = λ yes. absurd (omega (arith, ltb-true c.number-by.result 4 yes, c.if-by-lt4.false));
  seat = λ yes. absurd (omega (arith, ltb-true c.number-by.result 4 yes, c.if-by-lt4.false));
  level = λ all. absurd (omega (arith, all.seat, c.number-by.ensures.value, c.if-by-lt4.false));
}
