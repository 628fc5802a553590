use Rattle.std.proofs.Common.{◌≡◌, ◌∙◌, ◌+◌, suc, ◌++◌, ◌∷◌, [], Bool, if◌then◌else◌, ap, sym, refl, inl, inr, arith}
use Rattle.book_history.specs.Logs.{newest_in}
use Rattle.book_history.specs.BookLogs.{BookLog}
use Rattle.book_lock.specs.Steps.{beginners}
use Rattle.book_lock.proofs.locked_log.beginners.Goals as goal

pub loop-number-init : goal.loop-number-init
loop-number-init c = (refl, refl, refl, refl, c.new-list.ensures.items)

pub returns-in_default : goal.returns-in_default
returns-in_default c =
    let old = c.loop-number.invariant in
    let kept = c.in_default.ensures.kept in
    record { kept = (kept.0 ∙ old.0, kept.1 ∙ old.1, kept.2 ∙ old.2); given = tt; err = inr refl }

pub new-session-requires : goal.new-session-requires
new-session-requires c = record {
  place = c.in-Some.ensures.given ∙ c.loop-number.invariant.3 ∙ c.requires.known ∙ sym c.again.ensures;
  newest = ap (λ (t : BookLog). (newest_in t.log).number) c.again.ensures ∙ c.requires.newest;
}

pub returns-then-is_err : goal.returns-then-is_err
returns-then-is_err c =
    let old = c.loop-number.invariant in
    let kept = c.in-Some.ensures.kept in
    record { kept = (kept.0 ∙ old.0, kept.1 ∙ old.1, kept.2 ∙ old.2); given = tt; err = inl refl }

pub loop-number-preserved : goal.loop-number-preserved
loop-number-preserved c =
    let first = c.args.first.now in
    let old = c.loop-number.invariant in
    let kept = c.in-Some.ensures.kept in
    let n = c.loop-number.number in
    let was = c.loop-number.list.items in
    let same = c.again.ensures in
    let session = c.new-session.ensures ∙ (λ i. record { book = (same i).book; session = n; log = (same i).log; made = [] }) in
    let pushed = c.push.ensures.items ∙ ap (λ (b : Bool). if b then was ++ c.new-session.result ∷ [] else was) c.if-is_err.ensures.negation in
    let next : suc n ≡ n + 1 = omega arith in
    (kept.0 ∙ old.0, kept.1 ∙ old.1, kept.2 ∙ old.2, kept.3 ∙ old.3, pushed ∙ (λ i. old.4 i ++ session i ∷ []) ∙ ap (beginners first) next)

pub returns : goal.returns
returns c =
    let old = c.loop-number.invariant in
    let all : c.loop-number.number ≡ c.args.sessions = omega (arith, c.loop-number-test.false, c.loop-number.auto.number-end) in
    record { kept = (old.0, old.1, old.2); given = old.4 ∙ ap (beginners c.args.first.now) all; err = tt }
