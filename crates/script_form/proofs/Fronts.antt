-- Fronts of bytes that pass a test, and what comes after them.
use Rattle.std.proofs.Common.{◌≡◌, ℕ, suc, ◌+◌, ◌<◌, ◌==◌, Bool, true, false, cond, List, [], ◌∷◌, ◌++◌, length, take, drop, refl, sym, ap, subst, ◌∙◌, inl, inr, arith}
use Rattle.std.specs.List.{list_all, prefix_len, take_while}
use Rattle.std.proofs.Math.Seq.{drop-append_seam, take-append_seam}
use Rattle.std.proofs.lemmas.Bool.{cases_Bool, and_from, and_parts, cond-true, cond-false, true≢false, ne_eqb}
use Rattle.std.proofs.lemmas.List.{take-append-drop}
use Rattle.overlay_terms.specs.Bytes.{begins}
use Rattle.script_form.specs.Words.{is_empty, skip_while}
use Rattle.script_form.specs.Shapes.{AreSome}

-- by a test, one of two
pub either : {T : Type 0} (A : T → Type 0) (b : Bool) (x y : T) → (b ≡ true → A x) → (b ≡ false → A y) → A (cond b x y)
either A true x y first second = first refl
either A false x y first second = second refl

the_suc : (m : ℕ) → suc m ≡ 1 + m
the_suc m = omega arith

-- how many bytes pass a test, where the first does, and where it does not
prefix_more : (test : ℕ → Bool) (b : ℕ) (bs : List ℕ) → test b ≡ true → suc (prefix_len test bs) ≡ prefix_len test (b ∷ bs)
prefix_more test b bs holds = the_suc (prefix_len test bs) ∙ sym (cond-true (test b) (1 + prefix_len test bs) 0 holds)

prefix_none : (test : ℕ → Bool) (b : ℕ) (bs : List ℕ) → test b ≡ false → 0 ≡ prefix_len test (b ∷ bs)
prefix_none test b bs fails = sym (cond-false (test b) (1 + prefix_len test bs) 0 fails)

-- ==== Of bytes: their front that passes, and the rest

pub parts : (test : ℕ → Bool) (bytes : List ℕ) → bytes ≡ take_while test bytes ++ skip_while test bytes
parts test bytes = sym (take-append-drop (prefix_len test bytes) bytes)

pub front_passes : (test : ℕ → Bool) (bytes : List ℕ) → list_all test (take_while test bytes) ≡ true
front_passes test [] = refl
front_passes test (b ∷ bs) =
    elim (cases_Bool (test b)) [
      | inl on ↦ subst (λ (n : ℕ). list_all test (take n (b ∷ bs)) ≡ true) (prefix_more test b bs on) (and_from (test b) (list_all test (take_while test bs)) on (front_passes test bs))
      | inr off ↦ subst (λ (n : ℕ). list_all test (take n (b ∷ bs)) ≡ true) (prefix_none test b bs off) refl
    ]

pub rest_fails : (test : ℕ → Bool) (bytes : List ℕ) → begins test (skip_while test bytes) ≡ false
rest_fails test [] = refl
rest_fails test (b ∷ bs) =
    elim (cases_Bool (test b)) [
      | inl on ↦ subst (λ (n : ℕ). begins test (drop n (b ∷ bs)) ≡ false) (prefix_more test b bs on) (rest_fails test bs)
      | inr off ↦ subst (λ (n : ℕ). begins test (drop n (b ∷ bs)) ≡ false) (prefix_none test b bs off) off
    ]

pub some_is : (bytes : List ℕ) → is_empty bytes ≡ false → 0 < length bytes
some_is [] some = absurd (true≢false some)
some_is (b ∷ bytes) some = omega arith

-- ==== Of a front that passes, before what fails

prefix_front : (test : ℕ → Bool) (front rest : List ℕ) → list_all test front ≡ true → begins test rest ≡ false → prefix_len test (front ++ rest) ≡ length front
prefix_front test [] [] all ends = refl
prefix_front test [] (b ∷ rest) all ends = sym (prefix_none test b rest ends)
prefix_front test (b ∷ front) rest all ends =
    let both = and_parts (test b) (list_all test front) all in
    let more : prefix_len test (front ++ rest) ≡ length front = prefix_front test front rest both.1 ends in
    let one = prefix_more test b (front ++ rest) both.0 in
    omega (arith, more, one)

pub skip_front : (test : ℕ → Bool) (front rest : List ℕ) → list_all test front ≡ true → begins test rest ≡ false → skip_while test (front ++ rest) ≡ rest
skip_front test front rest all ends = ap (λ (n : ℕ). drop n (front ++ rest)) (prefix_front test front rest all ends) ∙ drop-append_seam front rest

pub take_front : (test : ℕ → Bool) (front rest : List ℕ) → list_all test front ≡ true → begins test rest ≡ false → take_while test (front ++ rest) ≡ front
take_front test front rest all ends = ap (λ (n : ℕ). take n (front ++ rest)) (prefix_front test front rest all ends) ∙ take-append_seam front rest

-- what begins with bytes that pass one test fails another that they all fail
pub begins_some : (pass fail : ℕ → Bool) (front rest : List ℕ) → ((b : ℕ) → pass b ≡ true → fail b ≡ false) → AreSome pass front → begins fail (front ++ rest) ≡ false
begins_some pass fail [] rest apart some = absurd (omega (arith, some.some))
begins_some pass fail (b ∷ front) rest apart some = apart b (and_parts (pass b) (list_all pass front) some.alone).0

pub some_bytes : (test : ℕ → Bool) (bytes : List ℕ) → AreSome test bytes → is_empty bytes ≡ false
some_bytes test bytes some = ne_eqb (length bytes) 0 (λ none. omega (arith, some.some))

pub not_empty : (bytes : List ℕ) → 0 < length bytes → is_empty bytes ≡ false
not_empty bytes some = ne_eqb (length bytes) 0 (λ none. omega arith)
