-- What a session made, in a longer log.
use Rattle.std.proofs.Common.{Bool, eq-eqb, ◌≡◌, ℕ, ◌+◌, ◌≤◌, List, [], ◌∷◌, ◌++◌, length, take, refl, ap, sym, ◌∙◌, arith, length-append, Option, Some, None, if◌then◌else◌}
use Rattle.std.specs.List.{cons_option}
use Rattle.std.proofs.lemmas.List.{take-append-le, take_all}
use mathlib.Core.List.{IsPrefix}
use Rattle.overlay_terms.specs.Batches.{Batch}
use Rattle.overlay_terms.specs.Histories.{Entry, Version, accepted, own_command, commands_of}
use Rattle.book_history.specs.Logs.{entry}
use Rattle.book_history.proofs.Chains.{own-append}

-- the batches in a longer log begin with those before
pub own_prefix : (by : ℕ) (xs ys : List Entry) → IsPrefix xs ys → IsPrefix (commands_of by xs) (commands_of by ys)
own_prefix by xs ys p = (commands_of by p.0, sym (own-append by xs p.0) ∙ ap (commands_of by) p.1)

pub own_longer : (by count : ℕ) (xs ys : List Entry) → IsPrefix xs ys → count ≤ length (commands_of by xs) → count ≤ length (commands_of by ys)
own_longer by count xs ys p le = let q = own_prefix by xs ys p in omega (arith, ap length q.1, length-append (commands_of by xs) q.0)

pub take_same : (by count : ℕ) (xs ys : List Entry) → IsPrefix xs ys → count ≤ length (commands_of by xs) → take count (commands_of by ys) ≡ take count (commands_of by xs)
take_same by count xs ys p le = let q = own_prefix by xs ys p in ap (take count) (sym q.1) ∙ take-append-le count (commands_of by xs) q.0 le

-- Where a session's batches in a longer log are no more than those that it made, they are those
pub own_level : (by count : ℕ) (xs ys : List Entry) → IsPrefix xs ys → count ≤ length (commands_of by xs) → count ≡ length (commands_of by ys) → commands_of by ys ≡ take count (commands_of by xs)
own_level by count xs ys p le is = sym (take_all count (commands_of by ys) (omega arith)) ∙ take_same by count xs ys p le

-- one value more, or none
one_more : {A : Type 0} (o : Option A) (xs : List A) → length (cons_option o xs) ≤ length xs + 1
one_more (Some x) xs = omega arith
one_more None xs = omega arith

pub own_le : (by : ℕ) (xs : List Entry) → length (commands_of by xs) ≤ length xs
own_le by [] = omega arith
own_le by (x ∷ xs) = let a = own_le by xs in let d = one_more (own_command by x.event) (commands_of by xs) in omega arith

-- one more entry of a session is one more batch of it, and of no other
pub own_more : (by : ℕ) (xs : List Entry) (e : Entry) → commands_of by (xs ++ e ∷ []) ≡ commands_of by xs ++ cons_option (own_command by e.event) []
own_more by xs e = own-append by xs (e ∷ [])

pub own_next : (by : ℕ) (xs : List Entry) (made : List Batch) (c : Batch) (v : Version) → commands_of by xs ≡ made → commands_of by (xs ++ entry (accepted by c) v ∷ []) ≡ made ++ c ∷ []
own_next by xs made c v is =
    own_more by xs (entry (accepted by c) v) ∙ ap (λ l. l ++ cons_option (own_command by (accepted by c)) []) is
    ∙ ap (λ (b : Bool). made ++ cons_option (if b then Some c else None) []) (eq-eqb by by refl)

-- the same where the log is given by an equation, and the session by another name
pub own_then : (by named : ℕ) (xs ys : List Entry) (made : List Batch) (c : Batch) (v : Version) → named ≡ by
    → ys ≡ xs ++ entry (accepted named c) v ∷ [] → commands_of by xs ≡ made → commands_of by ys ≡ made ++ c ∷ []
own_then by named xs ys made c v same is own =
    ap (commands_of by) (is ∙ ap (λ b. xs ++ entry (accepted b c) v ∷ []) same) ∙ own_next by xs made c v own

-- how many batches of a session there are with one more entry
pub counts_more : (by : ℕ) (xs ys : List Entry) (e : Entry) (n m : ℕ) → ys ≡ xs ++ e ∷ [] → n ≡ length (commands_of by xs)
    → m ≡ n + length (cons_option (own_command by e.event) []) → m ≡ length (commands_of by ys)
counts_more by xs ys e n m is was more =
    let a : length (commands_of by ys) ≡ length (commands_of by xs ++ cons_option (own_command by e.event) []) = ap (λ (l : List Entry). length (commands_of by l)) is ∙ ap length (own_more by xs e) in
    omega (arith, a, length-append (commands_of by xs) (cons_option (own_command by e.event) []))
