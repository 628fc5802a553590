use Rattle.std.proofs.Common.{ℕ, ◌⊎◌, ◌<◌, ◌≤◌, ap, sym, ◌∙◌, subst, refl, arith, inl, inr}
use Rattle.std.specs.Arc.{arc_value}
use Rattle.overlay_terms.specs.Histories.{FollowsReport}
use Rattle.book_history.specs.Logs.{newest_in}
use Rattle.book_history.specs.Reporting.{MayBeReported}
use Rattle.std.proofs.lemmas.Result.{IfOk-from_err}
use Rattle.book_history.proofs.Gone.{passed}
use Rattle.book_lock.proofs.Growing.{newest_of, entry_by, reports}
use Rattle.book_lock.proofs.locked_log.LockedLog.raise.Goals as goal
use Rattle.book_lock.proofs.locked_log.LockedLog.raise.Goals.{then-number-durable-via-then-number-durable, then-number-durable-via-else-number-durable+then-number}

-- the number is durable already, or there is none such
pub returns-then-number-durable : goal.returns-then-number-durable
returns-then-number-durable g c =
    let durable = c.durable-durable.ensures.value ∙ ap (λ v. v.durable) (c.deref.ensures ∙ c.last.ensures.version) in
    let last = newest_in c.args.self.now in
    let n = c.args.receipt.now.number in
    let is = c.number-number.ensures in
    let no_news : (n ≤ last.durable) ⊎ (last.number < n) = elim c.then-number-durable.branch [
      | then-number-durable-via-then-number-durable w ↦ inl (omega (arith, is, durable, w.if-number-durable.true))
      | then-number-durable-via-else-number-durable+then-number w ↦ inr (omega (arith, is, w.number.ensures.value, ap (λ v. v.number) (w.deref-else-number-durable.ensures ∙ c.last.ensures.version), w.if-number.true))
    ] in
    record { ok = (inr (record { no_news = no_news; same = refl }, refl), sym durable); err = tt }

pub returns-in_err-version : goal.returns-in_err-version
returns-in_err-version g c =
    let failed = c.from_residual.ensures in
    record { ok = IfOk-from_err _ _ failed.0; err = passed _ _ _ failed.1 (refl, inl c.in_err-version.ensures.err) }

pub add-requires : goal.add-requires
add-requires g c =
    let last = newest_in c.args.self.now in
    let durable = c.durable-durable.ensures.value ∙ ap (λ v. v.durable) (c.deref.ensures ∙ c.last.ensures.version) in
    let number = c.number.ensures.value ∙ ap (λ v. v.number) (c.deref-else-number-durable.ensures ∙ c.last.ensures.version) in
    let old = c.deref-2.ensures ∙ c.last.ensures.version in
    let reported = subst (λ (k : ℕ). FollowsReport last k (arc_value c.in_ok-version.version)) c.number-number.ensures
    (reports _ last _ _ _ _ old c.in_ok-version.ensures.ok durable number c.if-number-durable.false c.if-number.false) in
    record {
      follows = reported;
      seat = tt;
      reported = inr (subst (MayBeReported g.J.BookName.stored c.args.self.now) (sym reported.durable) c.requires.stored);
      asked = tt;
      own = c.requires.own;
    }

pub returns-in_err-add : goal.returns-in_err-add
returns-in_err-add g c =
    let failed = c.from_residual-in_err-add.ensures in
    let e = c.in_err-add.ensures.err in
    record { ok = IfOk-from_err _ _ failed.0; err = passed _ _ _ failed.1 (e.1, inr e.0) }

pub returns : goal.returns
returns g c =
    let last = newest_in c.args.self.now in
    let is = c.in_ok-add.ensures.ok in
    let new = newest_of c.args.self.now c.add.new.self _ is in
    let durable = c.durable-durable.ensures.value ∙ ap (λ v. v.durable) (c.deref.ensures ∙ c.last.ensures.version) in
    let number = c.number.ensures.value ∙ ap (λ v. v.number) (c.deref-else-number-durable.ensures ∙ c.last.ensures.version) in
    let old = c.deref-2.ensures ∙ c.last.ensures.version in
    let reported = subst (λ (k : ℕ). FollowsReport last k (arc_value c.in_ok-version.version)) c.number-number.ensures
    (reports _ last _ _ _ _ old c.in_ok-version.ensures.ok durable number c.if-number-durable.false c.if-number.false) in
    let n = c.args.receipt.now.number in
    let then : FollowsReport last n (newest_in c.add.new.self) = subst (FollowsReport last n) (sym new) reported in
    record { ok = (inl (then, entry_by c.args.self.now c.add.new.self _ _ _ refl is), then.durable ∙ sym c.number-number.ensures); err = tt }
