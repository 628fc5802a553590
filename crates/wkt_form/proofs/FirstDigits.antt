-- The digits in front of a number are those before its point.
use Rattle.std.proofs.Common.{◌≡◌, ℕ, ◌+◌, ◌-◌, Bool, true, not, cond, ◌||◌, ◌==◌, List, [], ◌∷◌, length, take, drop, min, refl, sym, ap, ◌∙◌, arith, inl, inr}
use Rattle.std.specs.List.{list_all, prefix_len, position_or_len}
use Rattle.std.specs.Char.{is_ascii_digit}
use Rattle.std.proofs.lemmas.Bool.{and_parts, cases_lt}
use Rattle.std.proofs.lemmas.Bool.Decides.{nat_tests}
use Rattle.std.proofs.lemmas.List.{drop_all, take_rest}
use Rattle.wkt_form.specs.Number.{is_point, is_number, is_whole, unsigned, before_point}

digit_or_point : (b : ℕ) → (is_ascii_digit b || is_point b) ≡ true → is_ascii_digit b ≡ not (is_point b)
digit_or_point b h = grind (arith, nat_tests)

-- where there are only digits and points
front_to_point : (bs : List ℕ) → list_all (λ b. is_ascii_digit b || is_point b) bs ≡ true → prefix_len is_ascii_digit bs ≡ position_or_len is_point bs
front_to_point [] all = refl
front_to_point (b ∷ bs) all =
    let parts = and_parts (is_ascii_digit b || is_point b) (list_all (λ c. is_ascii_digit c || is_point c) bs) all in
    ap (λ t. cond t (1 + prefix_len is_ascii_digit bs) 0) (digit_or_point b parts.0)
    ∙ ap (λ n. cond (not (is_point b)) (1 + n) 0) (front_to_point bs parts.1)

point_behind : (run digits : List ℕ) (count : ℕ) → is_number run ≡ true → digits ≡ unsigned run → count ≡ prefix_len is_ascii_digit digits → count ≡ position_or_len is_point (unsigned run)
point_behind run digits count number u c =
    c ∙ ap (prefix_len is_ascii_digit) u ∙ front_to_point (unsigned run) (and_parts _ _ (and_parts _ _ number).0).0

-- the digits in front
pub front_digits : (run digits : List ℕ) (count : ℕ) → is_number run ≡ true → digits ≡ unsigned run → count ≡ prefix_len is_ascii_digit digits → take count digits ≡ before_point (unsigned run)
front_digits run digits count number u c =
    ap (take count) u ∙ ap (λ n. take n (unsigned run)) (point_behind run digits count number u c)

-- what follows a place, or the end where there is no such place
from_place : (place n : ℕ) (l : List ℕ) → place ≡ min (length l) n → drop place l ≡ drop n l
from_place place n l e =
    elim (cases_lt n (length l)) [
      | inl near ↦ ap (λ k. drop k l) (omega (arith, e, near))
      | inr far ↦ let last : place ≡ length l = omega (arith, e, far) in ap (λ k. drop k l) last ∙ drop_all (length l) l (omega arith) ∙ sym (drop_all n l far)
    ]

-- what follows them, without the point
pub fraction_is_whole : (run digits : List ℕ) (count place : ℕ) → is_number run ≡ true → digits ≡ unsigned run → count ≡ prefix_len is_ascii_digit digits → place ≡ min (length digits) (count + 1) → list_all (λ b. b == 48) (take (length digits - place) (drop place digits)) ≡ is_whole run
fraction_is_whole run digits count place number u c e =
    ap (list_all (λ b. b == 48))
    (take_rest digits place ∙ from_place place (count + 1) digits e
    ∙ ap (drop (count + 1)) u ∙ ap (λ n. drop (n + 1) (unsigned run)) (point_behind run digits count number u c))
