-- What digits are worth, one after the other.
use Rattle.std.proofs.Common.{◌≡◌, ℕ, ◌+◌, ◌*◌, ◌-◌, ◌^◌, ◌<◌, ◌≤◌, true, IsTrue, List, length, take, get_or, sym, ◌∙◌, inl, inr, arith}
use Rattle.std.specs.List.{list_all}
use Rattle.std.specs.Char.{is_ascii_digit}
use Rattle.std.proofs.lemmas.Bool.{cases_Bool, true≢false}
use Rattle.std.proofs.lemmas.Bool.Decides.{nat_tests}
use Rattle.std.proofs.lemmas.List.Folds.{list_all_at}
use Rattle.std.proofs.lemmas.List.Sums.{fold_more}
use Rattle.std.proofs.lemmas.Nat.{pow-add}
use Rattle.std.proofs.Math.Nat.{pow-le-pow_right}
use Rattle.overlay_terms.specs.Bytes.{digits_value}

digit_range : (d : ℕ) → is_ascii_digit d ≡ true → (48 ≤ d) × (d ≤ 57)
digit_range d h = (grind (arith, nat_tests), grind (arith, nat_tests))

pub digit_at : (ds : List ℕ) (i : ℕ) → i < length ds → IsTrue (list_all is_ascii_digit ds) → (48 ≤ get_or ds i 0) × (get_or ds i 0 ≤ 57)
digit_at ds i within all =
    elim (cases_Bool (is_ascii_digit (get_or ds i 0))) [
      | inl holds ↦ digit_range (get_or ds i 0) holds
      | inr fails ↦ absurd (true≢false (sym all ∙ list_all_at is_ascii_digit ds i 0 within fails))
    ]

pub power_most : (i n : ℕ) → i ≤ n → 10 ^ i ≤ 10 ^ n
power_most i n few = pow-le-pow_right (omega arith) few

pub power_next : (i : ℕ) → 10 ^ (i + 1) ≡ 10 * 10 ^ i
power_next i = let e = pow-add 10 i 1 in omega arith

pub digits_value-next : (ds : List ℕ) (i : ℕ) → i < length ds → digits_value (take (i + 1) ds) ≡ 10 * digits_value (take i ds) + (get_or ds i 0 - 48)
digits_value-next ds i within = fold_more (λ n d. 10 * n + (d - 48)) 0 ds i 0 within
