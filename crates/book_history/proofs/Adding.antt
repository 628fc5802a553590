-- The exchange that adds an entry keeps the rule.
use Rattle.std.proofs.Common.{◌≡◌, ℕ, ◌+◌, ◌<◌, ◌^◌, ◌==◌, suc, Bool, true, false, List, [], ◌∷◌, ◌++◌, length, refl, ap, sym, subst, arith, inl, length-append, None, MatchBool, eq-eqb, ◌∙◌}
use Rattle.std.proofs.lemmas.List.{append-nil}
use Rattle.std.proofs.lemmas.Bool.Decides.{nat_tests}
use mathlib.Core.List.{IsPrefix}
use prog.Atomic.{either}
use Rattle.logbook.specs.Pages.{Cell, cell, keeps, no_nib, step, Moves, Goes}
use Rattle.overlay_terms.specs.Histories.{Entry}
use Rattle.book_history.specs.Logs.{IsLog}
use Rattle.book_history.specs.Rules.{IsLogKept, Adds}
use Rattle.book_history.proofs.Fronts.{prefix_whole}

abbrev pub shown : List Entry → List Entry
shown log = []

abbrev pub moved : List Entry → List Entry → ℕ → Type 0
moved xs ys n = Unit {0}

pub adds_goes : (more : ℕ) (log v : List Entry) (e : Entry) (old : ℕ) → suc more ≡ length log → suc old ≡ length v → IsLog (v ++ e ∷ []) → IsLog log → IsPrefix v log
    → (b : Bool) → (more == old) ≡ b
    → Goes IsLogKept shown moved 0 (v, (no_nib, None)) (λ n. either (n == old) (old + 1) n) (Adds (step 0 old (old + 1) e) (v, (no_nib, None))) ((more, true) ∷ []) log
adds_goes more log v e old long len may legal pre true is =
    let here : more ≡ old = grind (arith, nat_tests) in
    let same : v ≡ log = prefix_whole v log pre (omega arith) in
    let all : v ++ e ∷ [] ≡ log ++ e ∷ [] = ap (λ w. w ++ e ∷ []) same in
    let n : either (more == old) (old + 1) more ≡ suc old = rw is (omega arith) in
    let long' : suc (suc old) ≡ length (log ++ e ∷ []) = omega (arith, length-append log (e ∷ [])) in (
      keeps,
      e ∷ [],
      None,
      tt,
      record { more = suc old; words = ap (λ (k : ℕ). (k, true) ∷ []) n; long = long'; legal = subst IsLog all may },
      inl (refl, refl),
      rw is (sym all, subst IsLog all may),
    )
adds_goes more log v e old long len may legal pre false is =
    let all : log ++ [] ≡ log = append-nil log in
    let legal' : IsLog (log ++ []) = subst IsLog (sym all) legal in
    let n : either (more == old) (old + 1) more ≡ more = rw is refl in
    let long' : suc more ≡ length (log ++ []) = subst (λ (l : List Entry). suc more ≡ length l) (sym all) long in (
      keeps,
      [],
      None,
      tt,
      record { more = more; words = ap (λ (k : ℕ). (k, true) ∷ []) n; long = long'; legal = legal' },
      inl (refl, refl),
      rw is legal',
    )

-- whatever the history is, the exchange adds the entry to all that was seen, or finds that it is longer
pub adds_moves : (v : List Entry) (e : Entry) (old : ℕ) → suc old ≡ length v → IsLog (v ++ e ∷ [])
    → Moves IsLogKept shown moved 0 (v, (no_nib, None)) (λ n. either (n == old) (old + 1) n) (Adds (step 0 old (old + 1) e) (v, (no_nib, None)))
adds_moves v e old len may cs log kept pre away =
    let P : List Cell → Type 0 = λ c. (0 < length c) × ((cell c 0).1 ≡ true) × Goes IsLogKept shown moved 0 (v, (no_nib, None)) (λ n. either (n == old) (old + 1) n) (Adds (step 0 old (old + 1) e) (v, (no_nib, None))) c log in
    subst P (sym kept.words) (omega arith, refl, adds_goes kept.more log v e old kept.long len may kept.legal pre (kept.more == old) refl)

-- where the exchange found the number that it was to find, the entry was added
pub was_added : (v w : List Entry) (asked e : Entry) (found old : ℕ) → found ≡ old → asked ≡ e → MatchBool (found == old) ((w ≡ v ++ asked ∷ []) × IsLog w) (IsLog w)
    → (w ≡ v ++ e ∷ []) × IsLog w
was_added v w asked e found old same is reported =
    let h : (w ≡ v ++ asked ∷ []) × IsLog w = subst (λ b. MatchBool b ((w ≡ v ++ asked ∷ []) × IsLog w) (IsLog w)) (eq-eqb found old same) reported in
    (h.0 ∙ ap (λ x. v ++ x ∷ []) is, h.1)

-- a log that gained an entry is longer by one
pub longer_by_one : (v w : List Entry) (e : Entry) (n : ℕ) → suc n ≡ length v → w ≡ v ++ e ∷ [] → suc (n + 1) ≡ length w
longer_by_one v w e n long is = omega (arith, ap length is, length-append v (e ∷ []))

-- the number of a log's last entry and the next one are numbers of the code
pub fits_next : (n : ℕ) (v w : List Entry) → suc n ≡ length v → v ≡ w → length w < 2 ^ 62 → n + 1 < 2 ^ 64
fits_next n v w long same room = let is : length v ≡ length w = ap length same in omega arith
