use Rattle.std.proofs.Common.{inl, inr, rules, refl, ap, sym, ◌∙◌}
use Rattle.book_history.specs.Logs.{newest_in}
use Rattle.versions.specs.Building.{wait_refusal, IsBuilt}
use Rattle.version_book.proofs.Answered.{gone_err, gone_looks, gone_ok, gone_reported, keeps_marks, loses_marks, not_false, test_fails, test_holds}
use Rattle.version_book.proofs.locked_book.waits.tell_built.Goals as goal

pub returns-in_err-number : goal.returns-in_err-number
returns-in_err-number g c =
    let r = c.from_residual.result in
    let gone = c.in_err-number.ensures.err in
    record {
      ok = gone_ok r _ _ c.from_residual.ensures.1;
      refused = gone_err r _ _ c.from_residual.ensures.1 gone.0 tt;
      seen = gone_looks r _ _ _ _ c.from_residual.ensures.1 gone.0 gone.1;
      gone = λ _. c.in_err-number.ensures.behind;
      log = refl;
      state = gone_reported r _ (newest_in c.args.locked.now.log) _ c.args.name.now c.from_residual.ensures.1 gone.0;
    }

pub returns-in-Some : goal.returns-in-Some
returns-in-Some g c =
    let name = c.args.name.now in
    let some = ap (λ v. wait_refusal v name) (sym (c.deref.ensures ∙ c.last.ensures.version)) ∙ sym c.wait_refusal.ensures ∙ c.in-Some.is in
    record { ok = tt; refused = inl some; seen = inr (λ is. absurd (cc), c.in_ok-number.ensures.ok.0); gone = λ is. absurd (cc); log = refl; state = keeps_marks _ _ _ _ some refl }

pub returns-then-is_built : goal.returns-then-is_built
returns-then-is_built g c =
    let name = c.args.name.now in
    let none = ap (λ v. wait_refusal v name) (sym (c.deref.ensures ∙ c.last.ensures.version)) ∙ sym c.wait_refusal.ensures ∙ c.in_default.is in
    let newest = c.deref-2.ensures ∙ c.last.ensures.version in
    record {
      ok = record {
        derived = none;
        built = test_holds (λ v. IsBuilt v name) _ _ _ newest c.is_built.ensures c.if-is_built.true;
        numbered = c.in_ok-number.ensures.ok.1;
      };
      refused = tt;
      seen = c.in_ok-number.ensures.ok.0;
      gone = λ is. absurd (cc);
      log = refl;
      state = refl;
    }

pub returns-then-has_mark : goal.returns-then-has_mark
returns-then-has_mark g c =
    let name = c.args.name.now in
    let none = ap (λ v. wait_refusal v name) (sym (c.deref.ensures ∙ c.last.ensures.version)) ∙ sym c.wait_refusal.ensures ∙ c.in_default.is in
    let newest = c.deref-2.ensures ∙ c.last.ensures.version in
    record {
      ok = tt;
      refused = inr (refl, none, test_fails (λ v. IsBuilt v name) _ _ _ newest c.is_built.ensures c.if-is_built.false);
      seen = inr (λ is. absurd (cc), c.in_ok-number.ensures.ok.0);
      gone = λ is. absurd (cc);
      log = refl;
      state = loses_marks _ _ _ none (sym c.has_mark.ensures ∙ c.if-has_mark.true, search rules);
    }

pub returns : goal.returns
returns g c =
    let name = c.args.name.now in
    let none = ap (λ v. wait_refusal v name) (sym (c.deref.ensures ∙ c.last.ensures.version)) ∙ sym c.wait_refusal.ensures ∙ c.in_default.is in
    let newest = c.deref-2.ensures ∙ c.last.ensures.version in
    let pending = test_fails (λ v. IsBuilt v name) _ _ _ newest c.is_built.ensures c.if-is_built.false in
    let unmarked = sym c.has_mark.ensures ∙ c.if-has_mark.false in
    record {
      ok = tt;
      refused = (
        not_false _ (λ wide. c.requires.ready (record { derived = none; pending = pending; unmarked = unmarked; not_closing = wide })),
        none,
        pending,
      );
      seen = inr (λ is. absurd (cc), c.in_ok-number.ensures.ok.0);
      gone = λ is. absurd (cc);
      log = refl;
      state = (refl, unmarked);
    }
