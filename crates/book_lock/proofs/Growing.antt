-- A log that gains an entry, and what the entry says.
use Rattle.std.proofs.Common.{◌≡◌, ◌⊎◌, ℕ, ◌<◌, ◌≤◌, List, [], ◌∷◌, ◌++◌, length, ap, sym, ◌∙◌, subst, arith, inl, inr, refl, Option, Some, None, IfSome, IfNone}
use Rattle.std.specs.List.{All}
use Rattle.std.proofs.lemmas.List.Elements.{All-cons, All-nil}
use mathlib.Core.List.{IsPrefix}
use Rattle.overlay_terms.specs.Histories.{Version, Event, accepted, kept, durable_to, Entry, AllFollow, Follows, last_version, FollowsReport, IsReported}
use Rattle.book_history.specs.Logs.{entry, newest_in, IsLog}
use Rattle.book_lock.specs.Steps.{IsReportedIn}
use Rattle.book_history.proofs.Chains.{newest_more}
use Rattle.book_history.proofs.Fronts.{prefix_self}

-- the entry's version is the newest then
pub newest_of : (log after : List Entry) (e : Entry) → after ≡ log ++ e ∷ [] → newest_in after ≡ e.version
newest_of log after e is = ap newest_in is ∙ newest_more log e

-- the same log, given by its newest version and with an equal event
pub entry_by : (log after : List Entry) (f g : Event) (v : Version) → f ≡ g → after ≡ log ++ entry f v ∷ []
    → after ≡ log ++ entry g (newest_in after) ∷ []
entry_by log after f g v same is =
    let n : newest_in after ≡ v = newest_of log after (entry f v) is in
    is ∙ (λ i. log ++ entry (same i) (sym n i) ∷ [])

-- a report of a number that is news raises the durable number
pub reports : (old last new : Version) (n durable number : ℕ) → old ≡ last → IsReported old n new → durable ≡ last.durable
    → number ≡ last.number → durable < n → n ≤ number → FollowsReport last n new
reports old last new n durable number same reported is most news low = risen (subst (λ o. IsReported o n new) same reported)
  where
    never : (n ≤ last.durable) ⊎ (last.number < n) → ⊥
    never (inl a) = omega arith
    never (inr b) = omega arith

    risen : IsReported last n new → FollowsReport last n new
    risen (inl f) = f
    risen (inr s) = absurd (never s.no_news)

-- what holds of the value that there is
pub given : {A : Type 0} (o : Option A) (x : A) (P : A → Type 0) → o ≡ Some x → IfSome o P → P x
given o x P is held = subst (λ o. IfSome o P) is held

-- what holds where there is none
pub missing : {A : Type 0} (o : Option A) (P : Type 0) → ((x : A) → o ≡ Some x → ⊥) → IfNone o P → P
missing None P none held = held
missing (Some x) P none held = absurd (none x refl)

-- numbers do not fall from an entry to the next
step_rises : (v : Version) (x : Event) (w : Version) → Follows v x w → v.number ≤ w.number
step_rises v (accepted s c) w f = omega (arith, f.number)
step_rises v (kept m k t) w f = omega (arith, f.number)
step_rises v (durable_to n) w f = omega (arith, f.same_number)

front_rises : (v : Version) (xs es : List Entry) → AllFollow v (xs ++ es) → (last_version v xs).number ≤ (last_version v (xs ++ es)).number
front_rises v [] [] f = omega arith
front_rises v [] (e ∷ es) f = let a = step_rises v e.event e.version f.0 in let b = front_rises e.version [] es f.1 in omega arith
front_rises v (x ∷ xs) es f = front_rises x.version xs es f.1

-- nor along a log
pub number_rises : (xs ys : List Entry) → 0 < length xs → IsLog ys → IsPrefix xs ys → (newest_in xs).number ≤ (newest_in ys).number
number_rises [] ys long valid p = absurd (omega arith)
number_rises (x ∷ xs) ys long valid p =
    let whole : IsLog (x ∷ (xs ++ p.0)) = subst IsLog (sym p.1) valid in
    subst (λ l. (newest_in (x ∷ xs)).number ≤ (newest_in l).number) p.1 (front_rises x.version xs p.0 whole.1)

-- where the number stays, the layers do
step_stays : (v : Version) (x : Event) (w : Version) → Follows v x w → w.number ≡ v.number → w.layers ≡ v.layers
step_stays v (accepted s c) w f same = absurd (omega (arith, f.number))
step_stays v (kept m k t) w f same = f.layers
step_stays v (durable_to n) w f same = f.layers

front_stays : (v : Version) (xs es : List Entry) → AllFollow v (xs ++ es) → (last_version v (xs ++ es)).number ≡ (last_version v xs).number → (last_version v (xs ++ es)).layers ≡ (last_version v xs).layers
front_stays v [] [] f same = refl
front_stays v [] (e ∷ es) f same =
    let a = step_rises v e.event e.version f.0 in
    let b = front_rises e.version [] es f.1 in
    let first : e.version.number ≡ v.number = omega arith in
    front_stays e.version [] es f.1 (same ∙ sym first) ∙ step_stays v e.event e.version f.0 first
front_stays v (x ∷ xs) es f same = front_stays x.version xs es f.1 same

-- so two versions of a log with one number have the same layers
pub layers_stay : (xs ys : List Entry) → 0 < length xs → IsLog ys → IsPrefix xs ys → (newest_in ys).number ≡ (newest_in xs).number → (newest_in ys).layers ≡ (newest_in xs).layers
layers_stay [] ys long valid p same = absurd (omega arith)
layers_stay (x ∷ xs) ys long valid p same =
    let whole : IsLog (x ∷ (xs ++ p.0)) = subst IsLog (sym p.1) valid in
    subst (λ l. (newest_in l).number ≡ (newest_in (x ∷ xs)).number → (newest_in l).layers ≡ (newest_in (x ∷ xs)).layers) p.1 (front_stays x.version xs p.0 whole.1) same

-- a report does not shorten the log
pub report_longer : (log after : List Entry) (n : ℕ) → IsReportedIn log n after → IsPrefix log after
report_longer log after n (inl f) = (entry (durable_to n) (newest_in after) ∷ [], sym f.1)
report_longer log after n (inr s) = subst (λ l. IsPrefix log l) (sym s.1) (prefix_self log)

-- what a report answers reaches its number, where the log that was seen does
pub report_reaches : (was log after : List Entry) (n m : ℕ) → 0 < length was → IsLog after → IsPrefix was log → IsReportedIn log n after
    → (newest_in after).durable ≡ m → n ≤ (newest_in was).number → n ≤ m
report_reaches was log after n m long valid p (inl f) is low = omega (arith, f.0.durable, is)
report_reaches was log after n m long valid p (inr s) is low =
    let up = number_rises was log long (subst IsLog s.1 valid) p in reached s.0.no_news (ap (λ v. v.durable) s.0.same) up
  where
    reached : (n ≤ (newest_in log).durable) ⊎ ((newest_in log).number < n) → (newest_in after).durable ≡ (newest_in log).durable
        → (newest_in was).number ≤ (newest_in log).number → n ≤ m
    reached (inl a) same up = omega arith
    reached (inr b) same up = omega arith

-- durable numbers do not fall from an entry to the next
durable_rises : (v : Version) (x : Event) (w : Version) → Follows v x w → v.durable ≤ w.durable
durable_rises v (accepted s c) w f = omega (arith, f.durable)
durable_rises v (kept m k t) w f = omega (arith, f.durable)
durable_rises v (durable_to n) w f = omega (arith, f.durable, f.risen)

-- nor from the first version to the last
first_durable : (v : Version) (xs : List Entry) → AllFollow v xs → v.durable ≤ (last_version v xs).durable
first_durable v [] f = omega arith
first_durable v (x ∷ xs) f = let a = durable_rises v x.event x.version f.0 in let b = first_durable x.version xs f.1 in omega arith

each_durable : (v : Version) (xs : List Entry) → AllFollow v xs → All (λ (e : Entry). e.version.durable ≤ (last_version v xs).durable) xs
each_durable v [] f = All-nil (λ (e : Entry). e.version.durable ≤ v.durable)
each_durable v (x ∷ xs) f =
    All-cons (λ (e : Entry). e.version.durable ≤ (last_version x.version xs).durable) x xs (first_durable x.version xs f.1) (each_durable x.version xs f.1)

-- so the newest version of a log has the greatest durable number
pub newest_durable : (log : List Entry) → IsLog log → All (λ (e : Entry). e.version.durable ≤ (newest_in log).durable) log
newest_durable [] valid = absurd valid
newest_durable (x ∷ xs) valid =
    All-cons (λ (e : Entry). e.version.durable ≤ (last_version x.version xs).durable) x xs (first_durable x.version xs valid.1) (each_durable x.version xs valid.1)
