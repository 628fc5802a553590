-- A line that is cut off far enough asks for what the whole line asks for.
use Rattle.std.proofs.Common.{◌≡◌, ℕ, zero, suc, ◌+◌, ◌==◌, ◌<◌, ◌≤◌, ◌⊎◌, inl, inr, true, false, not, cond, List, [], ◌∷◌, ◌++◌, length, take, unwrap_or, refl, sym, ap, ◌∙◌, arith}
use Rattle.std.proofs.lemmas.List.{length-take-le, take_all}
use Rattle.std.proofs.lemmas.Bool.{lt-leb, cases_lt}
use Rattle.script_form.specs.Lines.{line_max, line_room, is_skipped, without_cr}
use Rattle.script_form.specs.Requests.{too_long, nothing, malformed, asked_of, request_of}

-- no more than one byte is dropped
length-without_cr : (line : List ℕ) → length line ≤ length (without_cr line) + 1
length-without_cr [] = omega arith
length-without_cr (b ∷ []) = elim (b == 13) as (λ t. length (b ∷ []) ≤ length (cond t [] (b ∷ [])) + 1) [ true ↦ omega arith | false ↦ omega arith ]
length-without_cr (b ∷ c ∷ bs) = let rest = length-without_cr (c ∷ bs) in omega arith

-- what is asked for by a line of more than the most bytes
pub request_of-long : (line : List ℕ) → line_max < length line → request_of line ≡ too_long
request_of-long line long =
    ap (λ t. cond (not t) too_long (cond (is_skipped line) nothing (unwrap_or (asked_of line) malformed))) (lt-leb (length line) line_max long)

same_or_long : (line : List ℕ) → (take line_room line ≡ line) ⊎ ((length (take line_room line) ≡ 65538) × (65538 ≤ length line))
unfolding line_room
same_or_long line =
    elim (cases_lt (length line) 65538) as (λ _. (take 65538 line ≡ line) ⊎ ((length (take 65538 line) ≡ 65538) × (65538 ≤ length line))) [
      | inl below ↦ inl (take_all 65538 line (omega arith))
      | inr above ↦ inr (length-take-le 65538 line (omega arith), omega arith)
    ]

-- the whole of a line and its front, as the end of a script has it
pub request_of-cut : (line : List ℕ) → request_of (take line_room line) ≡ request_of line
request_of-cut line =
    elim (same_or_long line) as (λ _. request_of (take line_room line) ≡ request_of line) [
      | inl same ↦ ap request_of same
      | inr long ↦ request_of-long (take line_room line) (omega arith) ∙ sym (request_of-long line (omega arith))
    ]

-- the same after which a CR is dropped, as a line feed ends it
pub request_of-cut_ended : (line : List ℕ) → request_of (without_cr (take line_room line)) ≡ request_of (without_cr line)
request_of-cut_ended line =
    elim (same_or_long line) as (λ _. request_of (without_cr (take line_room line)) ≡ request_of (without_cr line)) [
      | inl same ↦ ap (λ l. request_of (without_cr l)) same
      | inr long ↦
          let front = length-without_cr (take line_room line) in
          let whole = length-without_cr line in
          request_of-long (without_cr (take line_room line)) (omega arith) ∙ sym (request_of-long (without_cr line) (omega arith))
    ]

-- bytes after a line that was cut off, and after the line
pub take-join : (n : ℕ) (xs ys : List ℕ) → take n (take n xs ++ ys) ≡ take n (xs ++ ys)
take-join zero xs ys = refl
take-join (suc n) [] ys = refl
take-join (suc n) (x ∷ xs) ys = ap (λ zs. x ∷ zs) (take-join n xs ys)

pub take-nil : (n : ℕ) → take {A = ℕ} n [] ≡ []
take-nil zero = refl
take-nil (suc n) = refl
