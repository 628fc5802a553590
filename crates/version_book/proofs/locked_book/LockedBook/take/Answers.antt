use Rattle.std.proofs.Common.{◌≡◌, false, rules, refl, ap, sym, ◌∙◌, subst}
use mathlib.Core.Bool.{true≢false}
use Rattle.version_book.specs.HeldTiles.{handed_out}
use Rattle.version_book.specs.Jobs.{IsJob}
use Rattle.version_book.proofs.Answered.{handed_of, job_of, on_err, on_ok}
use Rattle.version_book.proofs.locked_book.LockedBook.take.Goals as goal

pub returns-in_default : goal.returns-in_default
returns-in_default g c = record {
  log = refl;
  job = tt;
  at = tt;
  state = tt;
  closing = λ _. refl;
  none = absurd (c.requires.ready (record { not_closing = c.if-self.false; held = c.in_default.ensures.none }));
  err = tt;
}

pub new-job-requires : goal.new-job-requires
new-job-requires g c =
    let log = ap (λ t. t.log) (c.again.ensures ∙ c.last.ensures.seen_log) in
    job_of _ _ _ _ _ _ _ _ log c.last.ensures.log c.in-Ok.ensures.0 c.in-Ok.ensures.1 c.in-Some.ensures.some

pub returns-in_default-parts : goal.returns-in_default-parts
returns-in_default-parts g c = record {
  log = refl;
  job = tt;
  at = tt;
  state = tt;
  closing = λ is. absurd (true≢false (sym is ∙ c.if-self.false));
  none = tt;
  err = (refl, record { held = refl; fault = refl; resting = refl; closing = refl; news = refl });
}

pub returns-then-is_err : goal.returns-then-is_err
returns-then-is_err g c =
    let held = on_err c.hand_out.result _ _ c.is_err.ensures.value c.if-is_err.true c.hand_out.ensures.err in
    record {
      log = refl;
      job = tt;
      at = tt;
      state = tt;
      closing = λ is. absurd (true≢false (sym is ∙ c.if-self.false));
      none = tt;
      err = (refl, record { held = held; fault = refl; resting = refl; closing = refl; news = refl });
    }

pub returns : goal.returns
returns g c =
    let is_open : c.args.self.now.state.closing ≡ false = search rules in
    let log = ap (λ t. t.log) (c.again.ensures ∙ c.last.ensures.seen_log) in
    let job = job_of _ _ _ _ _ _ _ _ log c.last.ensures.log c.in-Ok.ensures.0 c.in-Ok.ensures.1 c.in-Some.ensures.some in
    let named = ap (λ j. j.name) c.new-job.ensures ∙ c.in-Ok.ensures.0 in
    let present = ap (λ j. j.input) c.new-job.ensures ∙ c.in-Ok.ensures.1 in
    let old = c.args.self.now.state.held.list.items in
    let held = on_ok c.hand_out.result _ _ c.is_err.ensures.value c.if-is_err.false c.hand_out.ensures.ok
    ∙ ap (λ n. handed_out n c.in-Some.tile.1 old) c.name.ensures
    ∙ ap (λ k. handed_out c.new-job.result.name k old) (sym (ap (λ i. i.column) present)) in
    record {
      log = refl;
      job = handed_of _ _ _ _ _ _ named present c.in-Some.ensures.some;
      at = (
        ap (λ j. j.book) c.new-job.ensures ∙ ap (λ t. t.book) (c.again.ensures ∙ c.last.ensures.seen_log),
        ap (λ j. j.log) c.new-job.ensures ∙ log,
        subst IsJob (sym c.new-job.ensures) job,
      );
      state = record { held = held; fault = refl; resting = refl; closing = refl; news = refl };
      closing = λ is. absurd (true≢false (sym is ∙ is_open));
      none = tt;
      err = tt;
    }
