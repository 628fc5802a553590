-- The numbers that entries report.
use Rattle.std.proofs.Common.{◌≡◌, ℕ, ◌≤◌, List, [], ◌∷◌, refl, arith}
use Rattle.std.specs.List.{AllByRecursion, cons_option}
use Rattle.overlay_terms.specs.Histories.{Version, Event, accepted, kept, durable_to, Entry, AllFollow, Follows, last_version}
use Rattle.kept_store.specs.Since.{number_reported, reported_in}

reported_rises : (old new : Version) (event : Event) → Follows old event new → old.durable ≤ new.durable
reported_rises old new (accepted session batch) f = omega (arith, f.durable)
reported_rises old new (kept name column tile) f = omega (arith, f.durable)
reported_rises old new (durable_to number) f = omega (arith, f.risen, f.durable)

pub durable_rises : (v : Version) (es : List Entry) → AllFollow v es → v.durable ≤ (last_version v es).durable
durable_rises v [] f = omega arith
durable_rises v (e ∷ es) f = omega (arith, reported_rises v e.version e.event f.0, durable_rises e.version es f.1)

-- none of them is greater than the durable number at the end
pub low_by : (top : ℕ) (old new : Version) (event : Event) (rest : List ℕ) → Follows old event new → new.durable ≤ top
    → AllByRecursion (λ n. n ≤ top) rest → AllByRecursion (λ n. n ≤ top) (cons_option (number_reported event) rest)
low_by top old new (accepted session batch) rest f low all = all
low_by top old new (kept name column tile) rest f low all = all
low_by top old new (durable_to number) rest f low all = (omega (arith, f.durable, low), all)

pub low_in : (v : Version) (es : List Entry) → AllFollow v es → AllByRecursion (λ n. n ≤ (last_version v es).durable) (reported_in es)
low_in v [] f = tt
low_in v (e ∷ es) f =
    low_by (last_version e.version es).durable v e.version e.event (reported_in es) f.0 (durable_rises e.version es f.1) (low_in e.version es f.1)

-- where as much is durable at the end, none was reported
pub none_by : (old new : Version) (event : Event) (rest : List ℕ) → Follows old event new → new.durable ≤ old.durable → rest ≡ [] → cons_option (number_reported event) rest ≡ []
none_by old new (accepted session batch) rest f same none = none
none_by old new (kept name column tile) rest f same none = none
none_by old new (durable_to number) rest f same none = absurd (omega (arith, f.risen, f.durable, same))

pub none_in : (v : Version) (es : List Entry) → AllFollow v es → (last_version v es).durable ≤ v.durable → reported_in es ≡ []
none_in v [] f same = refl
none_in v (e ∷ es) f same =
    none_by v e.version e.event (reported_in es) f.0 (omega (arith, durable_rises e.version es f.1, same))
    (none_in e.version es f.1 (omega (arith, reported_rises v e.version e.event f.0, same)))
