-- Numbers in plain decimal are whole numbers of the grammar, and are worth what they were written of.
use Rattle.std.proofs.Common.{◌≡◌, ℕ, suc, ◌+◌, ◌-◌, ◌*◌, ◌<◌, ◌^◌, ℤ, pos, negsuc, neg_ℤ, Bool, true, false, not, ◌||◌, ◌==◌, cond, nat_le, List, [], ◌∷◌, length, refl, ap, ◌∙◌, arith, rules, count_by, fold}
use Rattle.std.specs.List.{list_all, list_any, prefix_len}
use Rattle.std.specs.Char.{is_ascii_digit}
use Rattle.std.specs.Fmt.{decimal, signed_decimal}
use Rattle.std.proofs.lemmas.Bool.{and_from, and_parts, cond-true, cond-false, or_left, le-leb}
use Rattle.std.proofs.lemmas.Bool.Decides.{nat_tests}
use Rattle.std.proofs.lemmas.Int.{ints}
use Rattle.std.proofs.lemmas.Fmt.{digits_decimal, digits_value-decimal, decimal_nonempty}
use Rattle.std.proofs.lemmas.Str.Parse.{IsNumeralModel, numerals_by_fold}
use Rattle.std.proofs.lemmas.List.{take_all, drop_all}
use Rattle.std.proofs.lemmas.List.Sums.{sum_by-cons}
use Rattle.overlay_terms.specs.Plane.{InRange}
use Rattle.overlay_terms.specs.Bytes.{digits_value}
use Rattle.wkt_form.specs.Number.{is_sign, is_point, unsigned, is_unsigned, is_number, before_point, after_point, is_whole, is_negative, number_value}
use Rattle.wkt_form.specs.Token.{is_run_byte}

-- a list of digits, as a test
abbrev are_digits : List ℕ → Bool
are_digits ds = list_all is_ascii_digit ds

own : IsNumeralModel (λ ds. are_digits ds ≡ true) digits_value
own = numerals_by_fold _ (search rules) (λ n ds. fold (λ m d. 10 * m + (d - 48)) n ds) (search rules)

-- ==== Tests of all bytes

pub all_weaker : (p q : ℕ → Bool) → ((b : ℕ) → p b ≡ true → q b ≡ true) → (bs : List ℕ) → list_all p bs ≡ true → list_all q bs ≡ true
all_weaker p q h [] all = refl
all_weaker p q h (b ∷ bs) all =
    let parts = and_parts (p b) (list_all p bs) all in
    and_from _ _ (h b parts.0) (all_weaker p q h bs parts.1)

pub prefix_all : (p : ℕ → Bool) (bs : List ℕ) → list_all p bs ≡ true → prefix_len p bs ≡ length bs
prefix_all p [] all = refl
prefix_all p (b ∷ bs) all =
    let parts = and_parts (p b) (list_all p bs) all in
    cond-true (p b) (1 + prefix_len p bs) 0 parts.0 ∙ ap (λ n. 1 + n) (prefix_all p bs parts.1) ∙ one_more (length bs) where
      one_more : (n : ℕ) → 1 + n ≡ suc n
      one_more n = omega arith

count_none : (p : ℕ → Bool) (bs : List ℕ) → list_all (λ b. not (p b)) bs ≡ true → count_by p bs ≡ 0
count_none p [] all = refl
count_none p (b ∷ bs) all =
    let parts = and_parts (not (p b)) (list_all (λ c. not (p c)) bs) all in
    sum_by-cons (λ c. cond (p c) 1 0) b bs ∙ ap (λ n. cond (p b) 1 0 + n) (count_none p bs parts.1) ∙ ap (λ n. n + 0) (cond-false (p b) 1 0 (not_true (p b) parts.0)) where
      not_true : (t : Bool) → not t ≡ true → t ≡ false
      not_true true e = absurd (cc)
      not_true false e = refl

-- ==== A digit

pub digit_in_run : (d : ℕ) → is_ascii_digit d ≡ true → is_run_byte d ≡ true
digit_in_run d h = grind (arith, nat_tests)

digit_no_point : (d : ℕ) → is_ascii_digit d ≡ true → not (is_point d) ≡ true
digit_no_point d h = grind (arith, nat_tests)

digit_no_sign : (d : ℕ) → is_ascii_digit d ≡ true → is_sign d ≡ false
digit_no_sign d h = grind (arith, nat_tests)

digit_no_minus : (d : ℕ) → is_ascii_digit d ≡ true → (d == 45) ≡ false
digit_no_minus d h = grind (arith, nat_tests)

-- ==== Digits

-- digits, at least one, as a number without a sign
pub record AreDigits (ds : List ℕ) : Type 0 where
  pub all : are_digits ds ≡ true
  pub some : 0 < length ds

no_points : (ds : List ℕ) → are_digits ds ≡ true → list_all (λ b. not (is_point b)) ds ≡ true
no_points ds all = all_weaker is_ascii_digit (λ b. not (is_point b)) digit_no_point ds all

pub unsigned_digits : (ds : List ℕ) → AreDigits ds → unsigned ds ≡ ds
unsigned_digits [] h = absurd (omega (arith, h.some))
unsigned_digits (d ∷ ds) h = cond-false (is_sign d) ds (d ∷ ds) (digit_no_sign d (and_parts (is_ascii_digit d) (are_digits ds) h.all).0)

not_negative : (ds : List ℕ) → AreDigits ds → is_negative ds ≡ false
not_negative [] h = absurd (omega (arith, h.some))
not_negative (d ∷ ds) h = digit_no_minus d (and_parts (is_ascii_digit d) (are_digits ds) h.all).0

any_digit : (ds : List ℕ) → AreDigits ds → list_any is_ascii_digit ds ≡ true
any_digit [] h = absurd (omega (arith, h.some))
any_digit (d ∷ ds) h = or_left (is_ascii_digit d) _ (and_parts (is_ascii_digit d) (are_digits ds) h.all).0

digits_are_unsigned : (ds : List ℕ) → AreDigits ds → is_unsigned ds ≡ true
digits_are_unsigned ds h =
    let only = all_weaker is_ascii_digit (λ b. is_ascii_digit b || is_point b) (λ b d. or_left (is_ascii_digit b) _ d) ds h.all in
    let count : nat_le (count_by is_point ds) 1 ≡ true = le-leb (count_by is_point ds) 1 (omega (arith, count_none is_point ds (no_points ds h.all))) in
    and_from _ _ (and_from _ _ only count) (any_digit ds h)

all_before : (ds : List ℕ) → AreDigits ds → before_point ds ≡ ds
all_before ds h = take_all (prefix_len (λ b. not (is_point b)) ds) ds (omega (arith, prefix_all (λ b. not (is_point b)) ds (no_points ds h.all)))

none_behind : (ds : List ℕ) → AreDigits ds → after_point ds ≡ []
none_behind ds h = drop_all (prefix_len (λ b. not (is_point b)) ds + 1) ds (omega (arith, prefix_all (λ b. not (is_point b)) ds (no_points ds h.all)))

-- ==== What is written of a whole number

pub record IsWritten (z : ℤ) (bs : List ℕ) : Type 0 where
  pub run : list_all is_run_byte bs ≡ true
  pub some : 0 < length bs
  pub number : is_number bs ≡ true
  pub whole : is_whole bs ≡ true
  pub value : number_value bs ≡ z

-- a sign, or none, before the digits of a number
pub by_digits : (bs ds : List ℕ) (n : ℕ) (z : ℤ) → AreDigits ds → digits_value ds ≡ n → unsigned bs ≡ ds → list_all is_run_byte bs ≡ true → 0 < length bs → cond (is_negative bs) (neg_ℤ (pos n)) (pos n) ≡ z → IsWritten z bs
by_digits bs ds n z h v u r s e =
    record {
      run = r;
      some = s;
      number = ap is_unsigned u ∙ digits_are_unsigned ds h;
      whole = ap (λ ts. list_all (λ b. b == 48) ts) (ap after_point u ∙ none_behind ds h);
      value = ap (λ m. cond (is_negative bs) (neg_ℤ (pos m)) (pos m)) (ap digits_value (ap before_point u ∙ all_before ds h) ∙ v) ∙ e;
    }

decimal_digits : (n : ℕ) → n < 2 ^ 64 → AreDigits (decimal n)
decimal_digits n small = record { all = digits_decimal own n small; some = decimal_nonempty n small }

pub digits_run : (ds : List ℕ) → are_digits ds ≡ true → list_all is_run_byte ds ≡ true
digits_run ds all = all_weaker is_ascii_digit is_run_byte digit_in_run ds all

written_natural : (n : ℕ) → n < 2 ^ 64 → IsWritten (pos n) (decimal n)
written_natural n small =
    let h = decimal_digits n small in
    by_digits (decimal n) (decimal n) n (pos n) h (digits_value-decimal own n small) (unsigned_digits (decimal n) h) (digits_run (decimal n) h.all) h.some
    (cond-false (is_negative (decimal n)) _ _ (not_negative (decimal n) h))

written_negative : (n : ℕ) → suc n < 2 ^ 64 → IsWritten (negsuc n) (45 ∷ decimal (suc n))
written_negative n small =
    let h = decimal_digits (suc n) small in
    by_digits (45 ∷ decimal (suc n)) (decimal (suc n)) (suc n) (negsuc n) h (digits_value-decimal own (suc n) small) refl (digits_run (decimal (suc n)) h.all) (omega arith) refl

natural_small : (n : ℕ) → InRange (pos n) → n < 2 ^ 64
natural_small n h = omega (arith, ints)

negative_small : (n : ℕ) → InRange (negsuc n) → suc n < 2 ^ 64
negative_small n h = omega (arith, ints)

pub written : (z : ℤ) → InRange z → IsWritten z (signed_decimal z)
written (pos n) h = written_natural n (natural_small n h)
written (negsuc n) h = written_negative n (negative_small n h)
