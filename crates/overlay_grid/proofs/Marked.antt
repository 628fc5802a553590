-- Marks of points, one after another.
use Rattle.std.specs.Prelude.{slice_set}
use Rattle.std.proofs.Common.{◌≡◌, ℕ, ◌+◌, ◌-◌, ◌<◌, ◌≤◌, ◌==◌, ltb, Bool, true, false, ◌&&◌, ◌||◌, List, length, ap, sym, ◌∙◌, arith, ⊎_elim, get_or, set}
use Rattle.std.proofs.lemmas.Bool.{cases_eq, or_right, lt-ltb, le-ltb, ne_eqb, eq-eqb}
use Rattle.std.proofs.lemmas.Bool.Decides.{nat_tests}
use Rattle.std.proofs.lemmas.List.{get_or-set_same, get_or-set_other}
use Rattle.overlay_grid.specs.Turning.{is_marked}
use Rattle.overlay_terms.proofs.NameLemmas.{or_false}

pub or_nothing : (b c : Bool) → c ≡ false → b ≡ (b || c)
or_nothing b c e = sym (or_false b) ∙ ap (λ d. b || d) (sym e)

or_yes : (b c : Bool) → c ≡ true → true ≡ (b || c)
or_yes b c e = sym (or_right b c e)

-- one mark set
pub marked_one : (edges : List Bool) (first j : ℕ) → 0 < first → first - 1 < length edges → is_marked (slice_set edges (first - 1) true) j ≡ (is_marked edges j || (first == j + 1))
marked_one edges first j some near =
    ⊎_elim
    (λ same. ap (λ i. get_or (set edges (first - 1) true) i false) (before same) ∙ get_or-set_same edges (first - 1) true false near ∙ or_yes (is_marked edges j) (first == j + 1) (eq-eqb first (j + 1) same))
    (λ other. get_or-set_other edges (first - 1) j true false (λ e. other (omega arith)) ∙ or_nothing (is_marked edges j) (first == j + 1) (ne_eqb first (j + 1) other))
    (cases_eq first (j + 1))
  where
    before : first ≡ j + 1 → j ≡ first - 1
    before e = omega arith

-- the mark of a point past the last one is not there
pub marked_none : (edges : List Bool) (first j : ℕ) → j < length edges → 0 < first → length edges ≤ first - 1 → is_marked edges j ≡ (is_marked edges j || (first == j + 1))
marked_none edges first j h some far = or_nothing (is_marked edges j) (first == j + 1) (ne_eqb first (j + 1) (λ e. absurd (omega arith)))

-- ---- a test asked at each place in turn
abbrev pub AreMarkedBefore : (ℕ → Bool) → List Bool → List Bool → ℕ → Type 0
AreMarkedBefore test before now i = (k : ℕ) → k < length before → is_marked now k ≡ (is_marked before k || (ltb k i && test k))

pub begun : (test : ℕ → Bool) (before : List Bool) → AreMarkedBefore test before before 0
begun test before k h = or_nothing (is_marked before k) (ltb k 0 && test k) (ap (λ b. b && test k) (le-ltb k 0 (omega arith)))

later : (test : ℕ → Bool) (k i : ℕ) → (k ≡ i → ⊥) → (ltb k i && test k) ≡ (ltb k (i + 1) && test k)
later test k i other = ap (λ b. b && test k) (grind (arith, nat_tests))

here : (test : ℕ → Bool) (k i : ℕ) → k ≡ i → test i ≡ true → (ltb k (i + 1) && test k) ≡ true
here test k i e t = ap (λ b. b && test k) (lt-ltb k (i + 1) (omega arith)) ∙ ap test e ∙ t

not_yet : (test : ℕ → Bool) (k i : ℕ) → k ≡ i → (ltb k i && test k) ≡ false
not_yet test k i e = ap (λ b. b && test k) (le-ltb k i (omega arith))

never : (test : ℕ → Bool) (k i : ℕ) → k ≡ i → test i ≡ false → (ltb k (i + 1) && test k) ≡ false
never test k i e t = ap (λ b. b && test k) (lt-ltb k (i + 1) (omega arith)) ∙ ap test e ∙ t

pub marked_more : (test : ℕ → Bool) (before now : List Bool) (i : ℕ) → i < length now → test i ≡ true → AreMarkedBefore test before now i → AreMarkedBefore test before (slice_set now i true) (i + 1)
marked_more test before now i near t h k l =
    ⊎_elim
    (λ same. ap (λ m. get_or (set now i true) m false) same ∙ get_or-set_same now i true false near ∙ or_yes (is_marked before k) (ltb k (i + 1) && test k) (here test k i same t))
    (λ other. get_or-set_other now i k true false other ∙ h k l ∙ ap (λ b. is_marked before k || b) (later test k i other))
    (cases_eq k i)

pub marked_same : (test : ℕ → Bool) (before now : List Bool) (i : ℕ) → test i ≡ false → AreMarkedBefore test before now i → AreMarkedBefore test before now (i + 1)
marked_same test before now i t h k l =
    ⊎_elim
    (λ same. h k l ∙ ap (λ b. is_marked before k || b) (not_yet test k i same ∙ sym (never test k i same t)))
    (λ other. h k l ∙ ap (λ b. is_marked before k || b) (later test k i other))
    (cases_eq k i)

pub marked_all : (test : ℕ → Bool) (before now : List Bool) (i k : ℕ) → k < length before → length before ≤ i → AreMarkedBefore test before now i → is_marked now k ≡ (is_marked before k || test k)
marked_all test before now i k l far h = h k l ∙ ap (λ b. is_marked before k || (b && test k)) (lt-ltb k i (omega arith))
