-- A log that gains an entry reports durable what it may.
use Rattle.std.proofs.Common.{◌≡◌, ◌⊎◌, inl, inr, ℕ, ◌<◌, List, [], ◌∷◌, ◌++◌, length, ap, sym, ◌∙◌, subst, arith, refl}
use mathlib.Core.List.{IsPrefix}
use Rattle.overlay_terms.specs.Histories.{Version, Entry}
use Rattle.book_history.specs.Logs.{history_of, newest_in}
use Rattle.book_history.proofs.Chains.{newest_more}
use Rattle.book_history.proofs.Fronts.{prefix_trans}
use Rattle.book_history.specs.Reporting.{ReportsStored, MayBeReported}

module _ (stored : List Entry → ℕ → Type 0) where
  may_more : (log more : List Entry) (n : ℕ) → IsPrefix log more → MayBeReported stored log n → MayBeReported stored more n
  may_more log more n on may = record { was = may.was; longer = prefix_trans may.was log more may.longer on; holds = may.holds }

  start_more : (log : List Entry) (e : Entry) → 0 < length log → (history_of (log ++ e ∷ [])).start ≡ (history_of log).start
  start_more [] e long = absurd (omega arith)
  start_more (x ∷ xs) e long = refl

  reported_after : (log : List Entry) (e : Entry) → 0 < length log → ReportsStored stored log
      → (e.version.durable ≡ (newest_in log).durable) ⊎ MayBeReported stored log e.version.durable → ReportsStored stored (log ++ e ∷ [])
  reported_after log e long (inl old) (inl same) =
      inl (ap (λ (v : Version). v.durable) (newest_more log e) ∙ same ∙ old ∙ sym (ap (λ (v : Version). v.durable) (start_more log e long)))
  reported_after log e long (inr old) (inl same) =
      let is : (newest_in (log ++ e ∷ [])).durable ≡ (newest_in log).durable = ap (λ (v : Version). v.durable) (newest_more log e) ∙ same in
      inr (subst (MayBeReported stored (log ++ e ∷ [])) (sym is) (may_more log (log ++ e ∷ []) (newest_in log).durable (e ∷ [], refl) old))
  reported_after log e long old (inr may) =
      let is : (newest_in (log ++ e ∷ [])).durable ≡ e.version.durable = ap (λ (v : Version). v.durable) (newest_more log e) in
      inr (subst (MayBeReported stored (log ++ e ∷ [])) (sym is) (may_more log (log ++ e ∷ []) e.version.durable (e ∷ [], refl) may))

  -- a log that gains an entry by which no other number is durable, or one that may be reported
  pub reported_more : (log after : List Entry) (e : Entry) → after ≡ log ++ e ∷ [] → 0 < length log → ReportsStored stored log
      → (e.version.durable ≡ (newest_in log).durable) ⊎ MayBeReported stored log e.version.durable → ReportsStored stored after
  reported_more log after e is long old new = subst (ReportsStored stored) (sym is) (reported_after log e long old new)
