-- The first token of bytes, by how many of them it takes.
use Rattle.std.proofs.Common.{◌≡◌, ℕ, suc, ◌+◌, ◌-◌, ◌<◌, Bool, true, false, cond, List, [], ◌∷◌, map, length, take, drop, refl, sym, ap, ◌∙◌, ◌↔◌, inl, inr, arith, get_or}
use Rattle.std.specs.List.{prefix_len}
use Rattle.std.specs.Char.{is_ascii_alphabetic, to_ascii_uppercase, to_ascii_lowercase}
use Rattle.std.specs.Str.{str_to_ascii_uppercase, bytes_eq}
use Rattle.std.proofs.lemmas.List.{take_rest, drop-drop, get_or-drop, length-drop}
use Rattle.std.proofs.lemmas.List.Sums.{prefix_len_stops}
use Rattle.std.proofs.lemmas.Bool.{cases_Bool, cond-true, cond-false}
use Rattle.std.proofs.lemmas.Bool.Decides.{nat_tests, same_from_decides}
use Rattle.std.proofs.lemmas.Slice.Eq.{bytes_eq-Decides}
use Rattle.std.proofs.lemmas.Str.Ascii.{lowercase-uppercase}
use Rattle.overlay_terms.specs.Blank.{is_blank}
use Rattle.overlay_terms.specs.Bytes.{begins}
use Rattle.wkt_form.specs.Token.{Kind, word, run, Token, is_run_byte, longer, first_longer, tokens_from}
use Rattle.wkt_form.specs.Symbol.{word_symbol, run_symbol}
use Rattle.wkt_form.specs.Seen.{seen_token, seen_from}

-- ==== Blanks

first_blank : (at b : ℕ) (bs : List ℕ) → is_blank b ≡ true → tokens_from at (b ∷ bs) ≡ tokens_from (at + 1) bs
first_blank at b bs holds = cond-true (is_blank b) _ _ holds

-- blanks in front change no token
pub tokens_past_blanks : (at : ℕ) (bytes : List ℕ) → tokens_from at bytes ≡ tokens_from (at + prefix_len is_blank bytes) (drop (prefix_len is_blank bytes) bytes)
tokens_past_blanks at [] = refl
tokens_past_blanks at (b ∷ bs) =
    let m = prefix_len is_blank bs in
    let after = λ (n : ℕ). tokens_from (at + n) (drop n (b ∷ bs)) in
    elim (cases_Bool (is_blank b)) [
      | inl holds ↦
          first_blank at b bs holds
          ∙ tokens_past_blanks (at + 1) bs
          ∙ ap (λ k. tokens_from k (drop m bs)) (omega arith)
          ∙ ap after (the_suc m ∙ sym (cond-true (is_blank b) (1 + m) 0 holds))
      | inr fails ↦
          ap (λ k. tokens_from k (b ∷ bs)) (omega arith) ∙ ap after (sym (cond-false (is_blank b) (1 + m) 0 fails))
    ] where
      the_suc : (m : ℕ) → suc m ≡ 1 + m
      the_suc m = omega arith

-- ==== Words and runs

-- a kind of token that is as long as a test of its bytes holds
pub record Grows (test : ℕ → Bool) (make : List ℕ → Kind) : Type 0 where
  pub more : (at b : ℕ) (bs : List ℕ) → test b ≡ true → begins test bs ≡ true → tokens_from at (b ∷ bs) ≡ first_longer at b (tokens_from (at + 1) bs)
  pub last : (at b : ℕ) (bs : List ℕ) → test b ≡ true → begins test bs ≡ false → tokens_from at (b ∷ bs) ≡ record { at = at; kind = make (b ∷ []) } ∷ tokens_from (at + 1) bs
  pub longer_is : (b : ℕ) (bs : List ℕ) → longer b (make bs) ≡ make (b ∷ bs)

-- the first token and those after it, where n bytes after the first belong to it
abbrev front : (List ℕ → Kind) → ℕ → ℕ → List ℕ → ℕ → List Token
front make at b bs n = record { at = at; kind = make (b ∷ take n bs) } ∷ tokens_from (at + suc n) (drop n bs)

module _ (test : ℕ → Bool) (make : List ℕ → Kind) (grows : Grows test make) where
  front_is : (at b : ℕ) (bs : List ℕ) → test b ≡ true → tokens_from at (b ∷ bs) ≡ front make at b bs (prefix_len test bs)
  front_is at b [] holds = grows.last at b [] holds refl
  front_is at b (c ∷ cs) holds =
      let m = prefix_len test cs in
      elim (cases_Bool (test c)) [
        | inl on ↦
            grows.more at b (c ∷ cs) holds on
            ∙ ap (first_longer at b) (front_is (at + 1) c cs on)
            ∙ ap (λ k. record { at = at; kind = k } ∷ tokens_from (at + 1 + suc m) (drop m cs)) (grows.longer_is b (c ∷ take m cs))
            ∙ ap (λ k. record { at = at; kind = make (b ∷ c ∷ take m cs) } ∷ tokens_from k (drop m cs)) (omega arith)
            ∙ ap (front make at b (c ∷ cs)) (the_suc m ∙ sym (cond-true (test c) (1 + m) 0 on))
        | inr off ↦
            grows.last at b (c ∷ cs) holds off ∙ ap (front make at b (c ∷ cs)) (sym (cond-false (test c) (1 + m) 0 off))
      ] where
        the_suc : (m : ℕ) → suc m ≡ 1 + m
        the_suc m = omega arith

  -- the same of bytes that are not taken apart
  pub first_is : (bytes : List ℕ) → 0 < length bytes → test (get_or bytes 0 0) ≡ true → (at : ℕ) → tokens_from at bytes ≡ record { at = at; kind = make (take (prefix_len test bytes) bytes) } ∷ tokens_from (at + prefix_len test bytes) (drop (prefix_len test bytes) bytes)
  first_is [] some holds at = absurd (omega arith)
  first_is (b ∷ bs) some holds at =
      let whole : ℕ → List Token = λ n. record { at = at; kind = make (take n (b ∷ bs)) } ∷ tokens_from (at + n) (drop n (b ∷ bs)) in
      let size : suc (prefix_len test bs) ≡ prefix_len test (b ∷ bs) = by_cond (prefix_len test bs) (test b) holds in
      front_is at b bs holds ∙ ap whole size where
        by_cond : (m : ℕ) (t : Bool) → t ≡ true → suc m ≡ cond t (1 + m) 0
        by_cond m t holds = (omega arith) ∙ sym (cond-true t (1 + m) 0 holds)

no_blank_letter : (b : ℕ) → is_ascii_alphabetic b ≡ true → is_blank b ≡ false
no_blank_letter b h = grind (arith, nat_tests)

no_blank_run_byte : (b : ℕ) → is_run_byte b ≡ true → is_blank b ≡ false
no_blank_run_byte b h = grind (arith, nat_tests)

no_letter_run_byte : (b : ℕ) → is_run_byte b ≡ true → is_ascii_alphabetic b ≡ false
no_letter_run_byte b h = grind (arith, nat_tests)

pub words_grow : Grows is_ascii_alphabetic word
words_grow = record {
  more = λ at b bs holds on. cond-false (is_blank b) _ _ (no_blank_letter b holds) ∙ cond-true (is_ascii_alphabetic b) _ _ holds ∙ cond-true (begins is_ascii_alphabetic bs) _ _ on;
  last = λ at b bs holds off. cond-false (is_blank b) _ _ (no_blank_letter b holds) ∙ cond-true (is_ascii_alphabetic b) _ _ holds ∙ cond-false (begins is_ascii_alphabetic bs) _ _ off;
  longer_is = λ b bs. refl;
}

pub runs_grow : Grows is_run_byte run
runs_grow = record {
  more = λ at b bs holds on. cond-false (is_blank b) _ _ (no_blank_run_byte b holds) ∙ cond-false (is_ascii_alphabetic b) _ _ (no_letter_run_byte b holds) ∙ cond-true (is_run_byte b) _ _ holds ∙ cond-true (begins is_run_byte bs) _ _ on;
  last = λ at b bs holds off. cond-false (is_blank b) _ _ (no_blank_run_byte b holds) ∙ cond-false (is_ascii_alphabetic b) _ _ (no_letter_run_byte b holds) ∙ cond-true (is_run_byte b) _ _ holds ∙ cond-false (begins is_run_byte bs) _ _ off;
  longer_is = λ b bs. refl;
}

pub word_seen : (bytes : List ℕ) → 0 < length bytes → is_ascii_alphabetic (get_or bytes 0 0) ≡ true → (at : ℕ) → seen_from at bytes ≡ record { at = at; symbol = word_symbol (str_to_ascii_uppercase (take (prefix_len is_ascii_alphabetic bytes) bytes)) } ∷ seen_from (at + prefix_len is_ascii_alphabetic bytes) (drop (prefix_len is_ascii_alphabetic bytes) bytes)
word_seen bytes some holds at = ap (map seen_token) (first_is is_ascii_alphabetic word words_grow bytes some holds at)

pub run_seen : (bytes : List ℕ) → 0 < length bytes → is_run_byte (get_or bytes 0 0) ≡ true → (at : ℕ) → seen_from at bytes ≡ record { at = at; symbol = run_symbol (take (prefix_len is_run_byte bytes) bytes) } ∷ seen_from (at + prefix_len is_run_byte bytes) (drop (prefix_len is_run_byte bytes) bytes)
run_seen bytes some holds at = ap (map seen_token) (first_is is_run_byte run runs_grow bytes some holds at)

-- ==== Bytes from an offset on

-- the blanks from an offset on change no token, and no blank follows them
pub seen_past_blanks : (bytes : List ℕ) (at n : ℕ) → n ≡ prefix_len is_blank (take (length bytes - at) (drop at bytes)) → seen_from at (drop at bytes) ≡ seen_from (at + n) (drop (at + n) bytes)
seen_past_blanks bytes at n e =
    let size : n ≡ prefix_len is_blank (drop at bytes) = e ∙ ap (prefix_len is_blank) (take_rest bytes at) in
    ap (map seen_token) (tokens_past_blanks at (drop at bytes))
    ∙ ap (λ k. seen_from (at + k) (drop k (drop at bytes))) (sym size)
    ∙ ap (seen_from (at + n)) (drop-drop n at bytes)

pub visible_past_blanks : (bytes : List ℕ) (at n : ℕ) → n ≡ prefix_len is_blank (take (length bytes - at) (drop at bytes)) → at + n < length bytes → is_blank (get_or bytes (at + n) 0) ≡ false
visible_past_blanks bytes at n e short =
    let size : n ≡ prefix_len is_blank (drop at bytes) = e ∙ ap (prefix_len is_blank) (take_rest bytes at) in
    let stops = prefix_len_stops is_blank (drop at bytes) 0 (omega (arith, length-drop at bytes)) in
    ap is_blank (ap (λ k. get_or bytes (at + k) 0) size ∙ sym (get_or-drop at bytes _ 0)) ∙ stops

-- ==== Words in any case

uppercase-lowercase : (c : ℕ) → to_ascii_uppercase (to_ascii_lowercase c) ≡ to_ascii_uppercase c
uppercase-lowercase c = grind (arith, nat_tests)

upper_of_lower : (bs : List ℕ) → str_to_ascii_uppercase (map to_ascii_lowercase bs) ≡ str_to_ascii_uppercase bs
upper_of_lower [] = refl
upper_of_lower (b ∷ bs) = ap (λ c. c ∷ str_to_ascii_uppercase (map to_ascii_lowercase bs)) (uppercase-lowercase b) ∙ ap (λ cs. to_ascii_uppercase b ∷ cs) (upper_of_lower bs)

lower_of_upper : (bs : List ℕ) → map to_ascii_lowercase (str_to_ascii_uppercase bs) ≡ map to_ascii_lowercase bs
lower_of_upper [] = refl
lower_of_upper (b ∷ bs) = ap (λ c. c ∷ map to_ascii_lowercase (str_to_ascii_uppercase bs)) (lowercase-uppercase b) ∙ ap (λ cs. to_ascii_lowercase b ∷ cs) (lower_of_upper bs)

-- words that are the same in lower case are so in upper case
pub word_test : (r : Bool) (bs cs : List ℕ) → str_to_ascii_uppercase cs ≡ cs → ((r ≡ true) ↔ (map to_ascii_lowercase bs ≡ map to_ascii_lowercase cs)) → r ≡ bytes_eq (str_to_ascii_uppercase bs) cs
word_test r bs cs u t =
    same_from_decides {P = str_to_ascii_uppercase bs ≡ cs} r _ (
      (λ holds. sym (upper_of_lower bs) ∙ ap str_to_ascii_uppercase (t.0 holds) ∙ upper_of_lower cs ∙ u),
      (λ same. t.1 (sym (lower_of_upper bs) ∙ ap (map to_ascii_lowercase) same)),
    )
    (bytes_eq-Decides (str_to_ascii_uppercase bs) cs)
