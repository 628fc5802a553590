use Rattle.std.proofs.Common.{◌≡◌, length, ap, sym, ◌∙◌, subst, arith, eq-eqb}
use Rattle.std.proofs.lemmas.Bool.{eqb-true, leb-true}
use Rattle.std.proofs.lemmas.List.{length-take-le}
use mathlib.Core.List.{IsPrefix}
use Rattle.overlay_terms.specs.Histories.{commands_of}
use Rattle.book_history.proofs.Fronts.{prefix_length}
use Rattle.book_history.proofs.Owned.{own_level}
use Rattle.book_lock.proofs.session.Session.is_level.Goals as goal

pub returns-then-at : goal.returns-then-at
returns-then-at c =
    let by = ap (λ k. k.session) c.self.view_is in
    let made = ap (λ k. k.made) c.self.view_is in
    let log = c.args.now.now.log in
    let p : IsPrefix c.self.inside.seen_log.log log = c.compare.ensures.back (omega (arith, c.at.ensures.length, c.at-2.ensures.length, c.if-at.true)) in
    let commands = ap (λ b. commands_of b log) (sym by) in
    let count : c.args.count ≡ length (commands_of c.self.inside.number log) = c.requires.count ∙ ap length commands in
    let long = ap length (sym made) ∙ length-take-le c.self.inside.count _ c.self.invariant.0 in
    record {
      longer = λ _. subst (λ l. IsPrefix l log) (ap (λ k. k.log) c.self.view_is) p;
      own = λ yes. commands ∙ own_level c.self.inside.number c.self.inside.count c.self.inside.seen_log.log log p c.self.invariant.0 (eqb-true c.self.inside.count c.args.count yes ∙ count) ∙ made;
      count = λ yes. sym (long ∙ eqb-true c.self.inside.count c.args.count yes);
      level = λ _ own. eq-eqb c.self.inside.count c.args.count (sym (c.requires.count ∙ ap length own ∙ long));
    }

-- a log that has what the session saw is no shorter
pub returns-else-at : goal.returns-else-at
returns-else-at c =
    let seen = ap (λ k. length k.log) c.self.view_is in
    record {
      longer = λ yes. absurd (omega (arith, leb-true c.at.result c.at-2.result yes, c.if-at.false));
      own = λ yes. absurd (omega (arith, leb-true c.at.result c.at-2.result yes, c.if-at.false));
      count = λ yes. absurd (omega (arith, leb-true c.at.result c.at-2.result yes, c.if-at.false));
      level = λ p own. absurd (omega (arith, c.at.ensures.length, c.at-2.ensures.length, c.if-at.false, seen, prefix_length c.args.self.now.log c.args.now.now.log p));
    }
