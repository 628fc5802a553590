-- The sessions that a book begins with.
use Rattle.std.proofs.Common.{◌≡◌, ℕ, zero, suc, [], ◌∷◌, length, slice_index, refl, arith, length-append}
use Rattle.std.specs.List.{All}
use Rattle.std.proofs.lemmas.List.Elements.{All-append, All-cons, All-nil}
use Rattle.logbook.specs.Pages.{Book}
use Rattle.book_history.specs.Known.{Known}
use Rattle.book_lock.specs.Steps.{beginners}
use Rattle.book_history.specs.BookLogs.{BookLog}

-- a session is of this book
abbrev of_book : Book → Known → Type 0
of_book book session = session.book ≡ book

-- each of them is of the book
pub all_begin : (book_log : BookLog) (book : Book) (n : ℕ) → book_log.book ≡ book → All (λ (session : Known). session.book ≡ book) (beginners book_log n)
all_begin book_log book zero is = All-nil (of_book book)
all_begin book_log book (suc n) is =
    All-append (of_book book) (beginners book_log n) _ (all_begin book_log book n is) (All-cons (of_book book) _ [] is (All-nil (of_book book)))

-- there are so many of them
pub count_of : (book_log : BookLog) (n : ℕ) → length (beginners book_log n) ≡ n
count_of book_log zero = refl
count_of book_log (suc n) = omega (arith, count_of book_log n, length-append (beginners book_log n) (record { book = book_log.book; session = n; log = book_log.log; made = [] } ∷ []))

-- no session has a command yet
pub none_yet : (by : ℕ) → slice_index (0 ∷ 0 ∷ 0 ∷ 0 ∷ []) by ≡ 0
none_yet zero = refl
none_yet (suc zero) = refl
none_yet (suc (suc zero)) = refl
none_yet (suc (suc (suc zero))) = refl
none_yet (suc (suc (suc (suc n)))) = refl
