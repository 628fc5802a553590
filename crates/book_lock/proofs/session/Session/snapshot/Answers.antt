use Rattle.std.proofs.Common.{◌≡◌, ◌<◌, length, refl, sym, ap, ◌∙◌, subst, IfSome}
use Rattle.left_right.specs.Sides.{view}
use Rattle.book_history.specs.BookLogs.{BookLog, Begins}
use Rattle.overlay_terms.specs.Histories.{BeginsWith}
use Rattle.book_history.specs.Logs.{history_of, IsLog}
use Rattle.book_history.specs.Known.{Known, seen}
use Rattle.book_history.proofs.Chains.{begins_with, is_history}
use Rattle.book_history.proofs.Fronts.{prefix_self}
use Rattle.book_history.proofs.Owned.{own_longer, take_same}
use Rattle.book_history.proofs.BookLogLemmas.{looks, begins_within, begins_self, is_of_begins}
use Rattle.book_lock.proofs.session.Session.snapshot.Goals as goal

pub enter_as-requires : goal.enter_as-requires
enter_as-requires c x = looks (λ p. p.seen_log) _ _ x

-- what was seen begins what was found
abbrev grown : (c : goal.After-drop-self-inside-in-Ok-copy) → Begins c.self.inside.seen_log c.into_parts-version.result.1
grown c =
    let was = c.self.inside.seen_log in
    let before : Begins was (view c.in-Some.place.place) = subst (λ o. IfSome o (λ r. Begins was (view r.place))) (sym c.in-Some.ensures.value) c.self.invariant.2 in
    let same : c.into_parts-version.result.1 ≡ c.in-Ok.reading.part.value.seen_log = c.into_parts-version.ensures.1 ∙ c.in-Ok-copy.ensures.0 ∙ ap (λ p. p.seen_log) c.get.ensures in
    subst (λ (t : BookLog). Begins was t) (sym same) (begins_within was _ _ before c.in-Ok.ensures.1.0)

pub invariant_of-self-in-Ok-copy : goal.invariant_of-self-in-Ok-copy
invariant_of-self-in-Ok-copy c =
    let was = c.self.inside.seen_log in
    let new = c.into_parts-version.result.1 in
    let same : new ≡ c.in-Ok.reading.part.value.seen_log = c.into_parts-version.ensures.1 ∙ c.in-Ok-copy.ensures.0 ∙ ap (λ p. p.seen_log) c.get.ensures in
    let seen : view c.leave.result.place ≡ new = c.leave.ensures.1 ∙ c.in-Ok.ensures.1.1 ∙ sym same in
    let longer = grown c in
    let long = (is_of_begins was new longer).0 in
    let number = c.number-self-inside.ensures.value ∙ ap (λ v. v.number) (c.deref.ensures ∙ c.into_parts-version.ensures.0) in (
      own_longer c.self.inside.number c.self.inside.count was.log new.log longer.2 c.self.invariant.0,
      long,
      subst (λ (t : BookLog). Begins new t) (sym seen) (begins_self new long),
      sym number,
    )

pub returns-in-Ok-copy : goal.returns-in-Ok-copy
returns-in-Ok-copy c =
    let was = c.self.inside.seen_log in
    let new = c.into_parts-version.result.1 in
    let there = grown c in
    let made = take_same c.self.inside.number c.self.inside.count was.log new.log there.2 c.self.invariant.0 in
    record {
      goes_on = subst (λ (k : Known). BeginsWith (history_of new.log) (seen k)) c.self.view_is (begins_with was.log new.log c.self.invariant.1 there.2);
      newest = c.into_parts-version.ensures.0;
      history = is_history new.log (subst (λ (t : BookLog). IsLog t.log) (sym c.into_parts-version.ensures.1) c.at-self-inside.ensures.chain);
      same = (sym there.1 ∙ ap (λ k. k.book) c.self.view_is, ap (λ k. k.session) c.self.view_is, made ∙ ap (λ k. k.made) c.self.view_is);
      err = tt;
    }

-- a session that sees nothing goes on from what it saw
still : (was : BookLog) (self : Known) → 0 < length was.log → history_of was.log ≡ seen self → BeginsWith (history_of was.log) (seen self)
still was self long is = subst (λ h. BeginsWith (history_of was.log) h) is (begins_with was.log was.log long (prefix_self was.log))

pub invariant_of-self : goal.invariant_of-self
invariant_of-self c =
    let i = c.self.invariant in
    (i.0, i.1, subst (λ o. IfSome o (λ r. Begins c.self.inside.seen_log (view r.place))) (sym c.take.ensures.after) tt, i.3)

pub returns-in_default : goal.returns-in_default
returns-in_default c =
    let is = c.self.view_is in
    record {
      goes_on = still c.self.inside.seen_log c.args.self.now c.self.invariant.1 (ap seen is);
      newest = tt;
      history = is_history c.self.inside.seen_log.log c.at.ensures.chain;
      same = (ap (λ k. k.book) is, ap (λ k. k.session) is, ap (λ k. k.made) is);
      err = (refl, is);
    }

pub invariant_of-self-in-Err-copy : goal.invariant_of-self-in-Err-copy
invariant_of-self-in-Err-copy c =
    let was = c.self.inside.seen_log in
    let i = c.self.invariant in
    let before : Begins was (view c.in-Some.place.place) = subst (λ o. IfSome o (λ r. Begins was (view r.place))) (sym c.in-Some.ensures.value) i.2 in
    let left = c.leave.ensures.1 ∙ c.in-Ok.ensures.1.1 in
    (i.0, i.1, subst (λ (t : BookLog). Begins was t) (sym left) (begins_within was _ _ before c.in-Ok.ensures.1.0), i.3)

pub returns-in-Err-copy : goal.returns-in-Err-copy
returns-in-Err-copy c =
    let is = c.self.view_is in
    record {
      goes_on = still c.self.inside.seen_log c.args.self.now c.self.invariant.1 (ap seen is);
      newest = tt;
      history = is_history c.self.inside.seen_log.log c.at.ensures.chain;
      same = (ap (λ k. k.book) is, ap (λ k. k.session) is, ap (λ k. k.made) is);
      err = (refl, is);
    }

pub invariant_of-self-in-Err : goal.invariant_of-self-in-Err
invariant_of-self-in-Err c =
    let was = c.self.inside.seen_log in
    let i = c.self.invariant in
    let before : Begins was (view c.in-Some.place.place) = subst (λ o. IfSome o (λ r. Begins was (view r.place))) (sym c.in-Some.ensures.value) i.2 in
    (i.0, i.1, subst (λ (t : BookLog). Begins was t) (sym c.in-Err.ensures.1) before, i.3)

pub returns-in-Err : goal.returns-in-Err
returns-in-Err c =
    let is = c.self.view_is in
    record {
      goes_on = still c.self.inside.seen_log c.args.self.now c.self.invariant.1 (ap seen is);
      newest = tt;
      history = is_history c.self.inside.seen_log.log c.at.ensures.chain;
      same = (ap (λ k. k.book) is, ap (λ k. k.session) is, ap (λ k. k.made) is);
      err = (refl, is);
    }
