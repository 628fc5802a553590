-- The batches of a book, counted by the sessions that made them.
use Rattle.std.proofs.Common.{◌≡◌, ◌≢◌, ◌⊎◌, inl, inr, ⊎_elim, ◌<◌, ◌≤◌, ◌+◌, ℕ, zero, suc, Bool, List, [], ◌∷◌, length, Some, None, cond, refl, ap, sym, ◌∙◌, subst, arith}
use Rattle.std.specs.List.{All, cons_option}
use Rattle.std.proofs.lemmas.Bool.Decides.{eqb_tells}
use Rattle.std.proofs.lemmas.List.Elements.{All-cons, All-nil}
use Rattle.overlay_terms.specs.Batches.{Batch}
use Rattle.overlay_terms.specs.Histories.{Version, Event, accepted, kept, durable_to, Entry, commands_in, commands_of}

-- the batches of the sessions that are numbered below one, counted
abbrev pub counted : ℕ → List Entry → ℕ
counted zero entries = 0
counted (suc n) entries = counted n entries + length (commands_of n entries)

-- a session's batches where there is one more entry
one_of : (k by : ℕ) (batch : Batch) (version : Version) (es : List Entry)
    → ((by ≡ k) × (length (commands_of k (record { event = accepted by batch; version = version } ∷ es)) ≡ length (commands_of k es) + 1))
    ⊎ ((by ≢ k) × (length (commands_of k (record { event = accepted by batch; version = version } ∷ es)) ≡ length (commands_of k es)))
one_of k by batch version es =
    let own = commands_of k es in
    ⊎_elim
    (λ same. inl (same.1, ap (λ (b : Bool). length (cons_option (cond b (Some batch) None) own)) same.0 ∙ omega arith))
    (λ other. inr (other.1, ap (λ (b : Bool). length (cons_option (cond b (Some batch) None) own)) other.0))
    (eqb_tells by k)

-- a batch counts once where its session is numbered below, and else not at all
abbrev Counts : ℕ → ℕ → ℕ → ℕ → Type 0
Counts n by more less = ((by < n) × (more ≡ less + 1)) ⊎ ((n ≤ by) × (more ≡ less))

next_counts : (n by more less one none : ℕ) → Counts n by more less → ((by ≡ n) × (one ≡ none + 1)) ⊎ ((by ≢ n) × (one ≡ none)) → Counts (suc n) by (more + one) (less + none)
next_counts n by more less one none (inl below) (inl own) = absurd (omega (arith, below.0, own.0))
next_counts n by more less one none (inl below) (inr other) = inl (omega (arith, below.0), omega (arith, below.1, other.1))
next_counts n by more less one none (inr above) (inl own) = inl (omega (arith, own.0), omega (arith, above.1, own.1))
next_counts n by more less one none (inr above) (inr other) = inr (omega (arith, above.0, other.0), omega (arith, above.1, other.1))

counts : (n by : ℕ) (batch : Batch) (version : Version) (es : List Entry) → Counts n by (counted n (record { event = accepted by batch; version = version } ∷ es)) (counted n es)
counts zero by batch version es = inr (omega arith, refl)
counts (suc n) by batch version es =
    next_counts n by (counted n (record { event = accepted by batch; version = version } ∷ es)) (counted n es) _ _
    (counts n by batch version es) (one_of n by batch version es)

counted_none : (n : ℕ) → counted n [] ≡ 0
counted_none zero = refl
counted_none (suc n) = omega (arith, counted_none n)

counted_kept : (n : ℕ) (name : List ℕ) (column : ℕ) (tile : _) (version : Version) (es : List Entry) → counted n (record { event = kept name column tile; version = version } ∷ es) ≡ counted n es
counted_kept zero name column tile version es = refl
counted_kept (suc n) name column tile version es = ap (λ m. m + length (commands_of n es)) (counted_kept n name column tile version es)

counted_durable : (n number : ℕ) (version : Version) (es : List Entry) → counted n (record { event = durable_to number; version = version } ∷ es) ≡ counted n es
counted_durable zero number version es = refl
counted_durable (suc n) number version es = ap (λ m. m + length (commands_of n es)) (counted_durable n number version es)

-- no more than all are counted
abbrev IsFew : ℕ → List Entry → Type 0
IsFew n es = counted n es ≤ length (commands_in es)

few_more : (n : ℕ) (event : Event) (version : Version) (es : List Entry) → IsFew n es → IsFew n (record { event = event; version = version } ∷ es)
few_more n (accepted by batch) version es few =
    ⊎_elim (λ below. omega (arith, below.1, few)) (λ above. omega (arith, above.1, few)) (counts n by batch version es)
few_more n (kept name column tile) version es few = subst (λ m. m ≤ length (commands_in es)) (sym (counted_kept n name column tile version es)) few
few_more n (durable_to number) version es few = subst (λ m. m ≤ length (commands_in es)) (sym (counted_durable n number version es)) few

few : (n : ℕ) (es : List Entry) → IsFew n es
few n [] = omega (arith, counted_none n)
few n (e ∷ es) = few_more n e.event e.version es (few n es)

-- where all are counted, there are no others
abbrev AreBelow : ℕ → List Entry → Type 0
AreBelow n es = All (λ (c : ℕ × Batch). c.0 < n) (commands_in es)

below_more : (n : ℕ) (event : Event) (version : Version) (es : List Entry) → (length (commands_in es) ≤ counted n es → AreBelow n es)
    → length (commands_in (record { event = event; version = version } ∷ es)) ≤ counted n (record { event = event; version = version } ∷ es)
    → AreBelow n (record { event = event; version = version } ∷ es)
below_more n (accepted by batch) version es rest all =
    ⊎_elim
    (λ below. All-cons (λ (c : ℕ × Batch). c.0 < n) (by, batch) (commands_in es) below.0 (rest (omega (arith, all, below.1))))
    (λ above. absurd (omega (arith, all, above.1, few n es)))
    (counts n by batch version es)
below_more n (kept name column tile) version es rest all = rest (subst (λ m. length (commands_in es) ≤ m) (counted_kept n name column tile version es) all)
below_more n (durable_to number) version es rest all = rest (subst (λ m. length (commands_in es) ≤ m) (counted_durable n number version es) all)

pub all_below : (n : ℕ) (es : List Entry) → length (commands_in es) ≤ counted n es → AreBelow n es
all_below n [] all = All-nil (λ (c : ℕ × Batch). c.0 < n)
all_below n (e ∷ es) all = below_more n e.event e.version es (all_below n es) all
