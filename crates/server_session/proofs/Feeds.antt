-- Bytes up to their first line feed.
use Rattle.std.proofs.Common.{◌≡◌, ℕ, zero, suc, ◌+◌, ◌==◌, ◌<◌, true, not, List, [], ◌∷◌, ◌++◌, length, take, drop, refl, sym, ap, ◌∙◌, append_assoc, take-append-drop, inl, inr, arith}
use Rattle.std.proofs.Math.Seq.{take-length}
use Rattle.std.proofs.lemmas.Bool.{and_from, cases_Bool, eqb-true}
use Rattle.std.proofs.lemmas.List.{drop_more}
use Rattle.memchr.specs.Find.{Nowhere, Passes, is_byte}
use Rattle.script_form.specs.Lines.{has_no_feed}

-- none stands before it
pub none_before : (bytes : List ℕ) (at : ℕ) → Nowhere (Passes (is_byte 10) bytes) 0 at → has_no_feed (take at bytes) ≡ true
none_before bytes zero none = refl
none_before [] (suc at) none = refl
none_before (b ∷ bytes) (suc at) none =
    elim (cases_Bool (b == 10)) [
      | inl feed ↦ absurd (none 0 (omega arith) (omega arith) feed)
      | inr other ↦ and_from (not (b == 10)) (has_no_feed (take at bytes)) (ap not other) (none_before bytes at (λ k low high. none (suc k) (omega arith) (omega arith)))
    ]

-- where there is none
pub none_at_all : (bytes : List ℕ) → Nowhere (Passes (is_byte 10) bytes) 0 (length bytes) → has_no_feed bytes ≡ true
none_at_all bytes none = ap has_no_feed (sym (take-length bytes)) ∙ none_before bytes (length bytes) none

-- the bytes before it, it, and those behind it
pub around : (bytes : List ℕ) (at : ℕ) → at < length bytes → Passes (is_byte 10) bytes at → (take at bytes ++ 10 ∷ []) ++ drop (at + 1) bytes ≡ bytes
around bytes at within feed =
    append_assoc (take at bytes) (10 ∷ []) (drop (at + 1) bytes)
    ∙ ap (λ l. take at bytes ++ l) (sym (drop_more bytes at 0 within ∙ ap (λ b. b ∷ drop (at + 1) bytes) (eqb-true _ 10 feed))) ∙ take-append-drop at bytes
