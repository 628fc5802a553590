-- A sign or none, then digits up to the end or to a byte that belongs to no run, are a number.
use Rattle.std.proofs.Common.{◌≡◌, ℕ, zero, suc, ◌+◌, ◌-◌, ◌<◌, ◌≤◌, ℤ, Bool, true, false, List, [], ◌∷◌, length, take, drop, refl, sym, ap, ◌∙◌, arith, get_or, Some, None, inl, inr, subst}
use Rattle.std.specs.List.{list_all, prefix_len}
use Rattle.std.specs.Char.{is_ascii_digit}
use Rattle.std.proofs.lemmas.Bool.{and_from, cases_Bool, cond-true, cond-false}
use Rattle.std.proofs.lemmas.Bool.Decides.{nat_tests}
use Rattle.std.proofs.lemmas.List.{get_or-drop, length-drop}
use Rattle.std.proofs.lemmas.List.Folds.{length-prefix_len}
use Rattle.std.proofs.lemmas.List.Sums.{prefix_len_is, prefix_len_passes, prefix_len-le-length}
use Rattle.overlay_terms.specs.Bytes.{begins, digits_value}
use Rattle.wkt_form.specs.declared.number.Number.{Number}
use Rattle.wkt_form.specs.declared.token.Symbol.TheVariants as symbols
use Rattle.wkt_form.specs.Number.{is_sign, unsigned, is_number, is_whole, with_sign}
use Rattle.wkt_form.specs.Token.{is_run_byte}
use Rattle.wkt_form.specs.Symbol.{number_of, whole_worth, run_symbol, BeginsWithNumber}
use Rattle.wkt_form.specs.Seen.{seen_from}
use Rattle.wkt_form.proofs.TokenLemmas.{run_seen}
use Rattle.wkt_form.proofs.WrittenNumbers.{AreDigits, IsWritten, by_digits, digits_run, digit_in_run, unsigned_digits}

-- ==== Digits in front

begins_at : (p : ℕ → Bool) (bs : List ℕ) → 0 < length bs → begins p bs ≡ p (get_or bs 0 0)
begins_at p [] some = absurd (omega (arith, some))
begins_at p (b ∷ bs) some = refl

begins_from : (p : ℕ → Bool) (bs : List ℕ) (n : ℕ) → n < length bs → begins p (drop n bs) ≡ p (get_or bs n 0)
begins_from p bs n short = begins_at p (drop n bs) (omega (arith, length-drop n bs)) ∙ ap p (get_or-drop n bs 0 0 ∙ ap (λ k. get_or bs k 0) (omega arith))

-- digits that no byte of a run follows are all that belongs to the run
run_of_digits : (ds : List ℕ) → begins is_run_byte (drop (prefix_len is_ascii_digit ds) ds) ≡ false → prefix_len is_run_byte ds ≡ prefix_len is_ascii_digit ds
run_of_digits ds ends =
    let count = prefix_len is_ascii_digit ds in
    prefix_len_is is_run_byte ds count 0 (prefix_len-le-length is_ascii_digit ds)
    (λ k before. digit_in_run (get_or ds k 0) (prefix_len_passes is_ascii_digit ds k 0 before))
    (λ short. sym (begins_from is_run_byte ds count short) ∙ ends)

the_suc : (m : ℕ) → 1 + m ≡ suc m
the_suc m = omega arith

front_digits : (ds : List ℕ) → list_all is_ascii_digit (take (prefix_len is_ascii_digit ds) ds) ≡ true
front_digits [] = refl
front_digits (d ∷ ds) =
    let m = prefix_len is_ascii_digit ds in
    let front = λ (n : ℕ). list_all is_ascii_digit (take n (d ∷ ds)) in
    elim (cases_Bool (is_ascii_digit d)) [
      | inl holds ↦ ap front (cond-true (is_ascii_digit d) (1 + m) 0 holds ∙ the_suc m) ∙ and_from _ _ holds (front_digits ds)
      | inr fails ↦ ap front (cond-false (is_ascii_digit d) (1 + m) 0 fails)
    ]

front_are_digits : (ds : List ℕ) → 0 < prefix_len is_ascii_digit ds → AreDigits (take (prefix_len is_ascii_digit ds) ds)
front_are_digits ds some = record { all = front_digits ds; some = omega (arith, some, length-prefix_len is_ascii_digit ds) }

-- ==== The number

worth_of_written : (z : ℤ) (bs : List ℕ) → IsWritten z bs → number_of bs ≡ Some (whole_worth z)
worth_of_written z bs w =
    cond-true (is_number bs) _ _ w.number ∙ ap Some (cond-true (is_whole bs) _ _ w.whole ∙ ap whole_worth w.value)

sign_in_run : (b : ℕ) → is_sign b ≡ true → is_run_byte b ≡ true
sign_in_run b h = grind (arith, nat_tests)

-- what bytes begin with whose digits are these, and so many belong to the number
abbrev Plain : List ℕ → List ℕ → ℕ → Type 0
Plain bytes digits count = 0 < count → begins is_run_byte (drop count digits) ≡ false → BeginsWithNumber bytes (whole_worth (with_sign bytes (digits_value (take count digits)))) (length bytes - length digits + count)

-- with a sign in front
signed_run : (b : ℕ) (bs : List ℕ) → is_sign b ≡ true → Plain (b ∷ bs) bs (prefix_len is_ascii_digit bs)
signed_run b bs sign some ends =
    let count = prefix_len is_ascii_digit bs in
    let ds = take count bs in
    let z = with_sign (b ∷ bs) (digits_value ds) in
    let are = front_are_digits bs some in
    let size : suc count ≡ length (b ∷ bs) - length bs + count = omega arith in
    subst (BeginsWithNumber (b ∷ bs) (whole_worth z)) size (record {
      some = omega arith;
      run =
          sym (the_suc count) ∙ ap (λ n. 1 + n) (sym (run_of_digits bs ends))
          ∙ sym (cond-true (is_run_byte b) (1 + prefix_len is_run_byte bs) 0 (sign_in_run b sign));
      worth = worth_of_written z (b ∷ ds) (by_digits (b ∷ ds) ds (digits_value ds) z are refl (cond-true (is_sign b) ds (b ∷ ds) sign) (and_from _ _ (sign_in_run b sign) (digits_run ds are.all)) (omega arith) refl);
    })

same_sign : (b : ℕ) (bs : List ℕ) (n size : ℕ) → 0 < n → with_sign (take n (b ∷ bs)) size ≡ with_sign (b ∷ bs) size
same_sign b bs zero size some = absurd (omega (arith, some))
same_sign b bs (suc n) size some = refl

-- with no sign in front
unsigned_run : (b : ℕ) (bs : List ℕ) → Plain (b ∷ bs) (b ∷ bs) (prefix_len is_ascii_digit (b ∷ bs))
unsigned_run b bs some ends =
    let count = prefix_len is_ascii_digit (b ∷ bs) in
    let ds = take count (b ∷ bs) in
    let z = with_sign (b ∷ bs) (digits_value ds) in
    let are = front_are_digits (b ∷ bs) some in
    let size : count ≡ length (b ∷ bs) - length (b ∷ bs) + count = omega arith in
    subst (BeginsWithNumber (b ∷ bs) (whole_worth z)) size (record {
      some = some;
      run = sym (run_of_digits (b ∷ bs) ends);
      worth = worth_of_written z ds (by_digits ds ds (digits_value ds) z are refl (unsigned_digits ds are) (digits_run ds are.all) are.some (same_sign b bs count (digits_value ds) some));
    })

by_sign : (bytes : List ℕ) → Plain bytes (unsigned bytes) (prefix_len is_ascii_digit (unsigned bytes))
by_sign [] some ends = absurd (omega (arith, some))
by_sign (b ∷ bs) some ends =
    elim (cases_Bool (is_sign b)) [
      | inl sign ↦
          subst (λ (ds : List ℕ). Plain (b ∷ bs) ds (prefix_len is_ascii_digit ds)) (sym (cond-true (is_sign b) bs (b ∷ bs) sign)) (signed_run b bs sign) some ends
      | inr none ↦
          subst (λ (ds : List ℕ). Plain (b ∷ bs) ds (prefix_len is_ascii_digit ds)) (sym (cond-false (is_sign b) bs (b ∷ bs) none)) (unsigned_run b bs) some ends
    ]

-- the number that bytes begin with, by the digits after its sign
pub plain_run : (bytes digits : List ℕ) (number : Number) (count size : ℕ) → digits ≡ unsigned bytes → count ≡ prefix_len is_ascii_digit digits → 0 < count → begins is_run_byte (drop count digits) ≡ false → number ≡ whole_worth (with_sign bytes (digits_value (take count digits))) → size ≡ length bytes - length digits + count → BeginsWithNumber bytes number size
plain_run bytes digits number count size u c some ends w s =
    let plain = subst (λ (ds : List ℕ). Plain bytes ds (prefix_len is_ascii_digit ds)) (sym u) (by_sign bytes) in
    let found = subst (Plain bytes digits) (sym c) plain some ends in
    subst (λ (n : Number). BeginsWithNumber bytes n size) (sym w) (subst (BeginsWithNumber bytes (whole_worth (with_sign bytes (digits_value (take count digits))))) (sym s) found)

-- ==== Its token

symbol_of_worth : (run : List ℕ) (number : Number) → number_of run ≡ Some number → run_symbol run ≡ symbols.Number number
symbol_of_worth run number worth =
    elim (cases_Bool (is_number run)) [
      | inl holds ↦ cond-true (is_number run) _ _ holds ∙ ap symbols.Number (the_same _ _ (sym (cond-true (is_number run) _ _ holds) ∙ worth))
      | inr fails ↦ absurd (none_is_some _ (sym (cond-false (is_number run) _ _ fails) ∙ worth))
    ] where
      the_same : (a b : Number) → Some a ≡ Some b → a ≡ b
      the_same a b e = cc

      none_is_some : (b : Number) → None ≡ Some b → ⊥
      none_is_some b e = cc

pub number_seen : (bytes : List ℕ) (number : Number) (size : ℕ) → BeginsWithNumber bytes number size → (at : ℕ) → seen_from at bytes ≡ record { at = at; symbol = symbols.Number number } ∷ seen_from (at + size) (drop size bytes)
number_seen bytes number size n at =
    let long = prefix_len-le-length is_run_byte bytes in
    let first = prefix_len_passes is_run_byte bytes 0 0 (omega (arith, n.some, n.run)) in
    run_seen bytes (omega (arith, n.some, n.run, long)) first at
    ∙ ap (λ k. record { at = at; symbol = run_symbol (take k bytes) } ∷ seen_from (at + k) (drop k bytes)) (sym n.run)
    ∙ ap (λ s. record { at = at; symbol = s } ∷ seen_from (at + size) (drop size bytes)) (symbol_of_worth (take size bytes) number n.worth)

pub number_within : (bytes : List ℕ) (number : Number) (size : ℕ) → BeginsWithNumber bytes number size → (0 < size) × (size ≤ length bytes)
number_within bytes number size n = (n.some, omega (arith, n.run, prefix_len-le-length is_run_byte bytes))
