-- What results say of steps that publish, and of places that were compared with what is published.
use Rattle.std.proofs.Common.{◌≡◌, ℕ, ◌+◌, ◌≤◌, true, false, length, Option, Some, Result, Ok, Err, sym, ◌∙◌, subst, arith}
use Rattle.std.specs.Result.{MatchResult, is_ok, result_ok}
use mathlib.Core.List.{IsPrefix}
use Rattle.logbook.specs.Pages.{Book}
use Rattle.book_history.specs.BookLogs.{BookLog, Within, Begins, IsOf}

-- what a result says where it is good, and where it is not
pub at_good : {T E : Type 0} (P : Type 0) (Q : E → Type 0) (r : Result T E) → is_ok r ≡ true → MatchResult r (λ _. P) Q → P
at_good P Q (Ok x) good h = h
at_good P Q (Err e) good h = absurd (cc (good))

pub at_bad : {T E : Type 0} (P : T → Type 0) (Q : Type 0) (r : Result T E) → is_ok r ≡ false → MatchResult r P (λ _. Q) → Q
at_bad P Q (Ok x) bad h = absurd (cc (bad))
at_bad P Q (Err e) bad h = h

-- what a result says of the value that was taken out of it
pub at_taken : {T E : Type 0} (P : T → Type 0) (Q : E → Type 0) (r : Result T E) (o : Option T) (x : T) → o ≡ result_ok r → o ≡ Some x → MatchResult r P Q → P x
at_taken P Q (Ok y) o x is some h = subst P (cc (is, some)) h
at_taken P Q (Err e) o x is some h = absurd (cc (is, some))

-- a log that begins with what a place of a book has seen is of that book
pub same_book : (book : Book) (v t : BookLog) → IsOf book v → Within v t → t.book ≡ book
same_book book v t of within = sym (within.0 of.0) ∙ of.1

-- of two logs of one book the one that is no longer begins the other
pub begins_level : (v t u : BookLog) (m n : ℕ) → n + 1 ≡ length v.log → m + 1 ≡ length t.log → n ≤ m → t.book ≡ v.book
    → (length v.log ≤ length t.log → IsPrefix v.log t.log) → u ≡ t → Begins v u
begins_level v t u m n v_long t_long le same pre is =
    subst (λ (w : BookLog). Begins v w) (sym is) (omega arith, sym same, pre (omega arith))
