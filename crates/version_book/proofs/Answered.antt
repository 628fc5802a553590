-- How the calls that wait end, and what a tile that is handed out is, by what each finds under the lock.
use Rattle.std.proofs.Common.{◌≡◌, ◌⊎◌, inl, inr, ◌↔◌, ℕ, Bool, true, false, IsTrue, List, Option, Some, None, IfSome, IfNone, Result, Ok, Err, IfOk, IfErr, refl, ap, sym, ◌∙◌, subst}
use Rattle.std.specs.Prelude.{IsErrAnd, OnErr, OnOk, is_err}
use mathlib.Core.Bool.{true≢false}
use Rattle.logbook.specs.Pages.{Book}
use Rattle.overlay_terms.specs.Histories.{Version, Entry}
use Rattle.overlay_terms.specs.Layers.{Name}
use Rattle.overlay_terms.specs.Tiles.{Input, input_of}
use Rattle.version_book.specs.Free.{IsFree}
use Rattle.book_history.specs.Known.{Known}
use Rattle.book_history.specs.Logs.{newest_in, IsLog}
use Rattle.book_history.specs.BookLogs.{BookLog}
use Rattle.version_book.specs.declared.held_tiles.HeldTile.{HeldTile}
use Rattle.version_book.specs.declared.book_state.BookState.{BookState}
use Rattle.book_history.specs.declared.fault.BookFault.{BookFault}
use Rattle.book_history.specs.declared.fault.BookFault.TheVariants as fault
use Rattle.book_lock.specs.Steps.{IsTurnedAway}
use Rattle.book_lock.specs.declared.refused.Refused.{Refused}
use Rattle.book_lock.specs.declared.refused.Refused.TheVariants.{Gone}
use Rattle.version_book.specs.Jobs.{IsHandedOut, IsJob}
use Rattle.version_book.specs.Waits.{IsAfterAnswered, Looks}

-- what is not false is true
pub not_false : (b : Bool) → (b ≡ false → ⊥) → IsTrue b
not_false true n = refl
not_false false n = absurd (n refl)

-- what a test of one version says of the newest, which it is
pub test_holds : (P : Version → Type 0) (b : Bool) (at newest : Version) → at ≡ newest → (IsTrue b ↔ P at) → b ≡ true → P newest
test_holds P b at newest is e t = subst P is (e.0 t)

pub test_fails : (P : Version → Type 0) (b : Bool) (at newest : Version) → at ≡ newest → (IsTrue b ↔ P at) → b ≡ false → P newest → ⊥
test_fails P b at newest is e f p = true≢false (sym (e.1 (subst P (sym is) p)) ∙ f)

-- ---- of a call that `?` ends, or that the book refuses as it is behind
pub gone_ok : {T : Type 0} (r : Result T BookFault) (x : BookFault) (P : T → Type 0) → IsErrAnd r (λ y. y ≡ x) → IfOk r P
gone_ok (Ok n) x P is = absurd is
gone_ok (Err f) x P is = tt

pub gone_err : {T : Type 0} (r : Result T BookFault) (x : BookFault) (Q : BookFault → Type 0)
    → IsErrAnd r (λ y. y ≡ x) → x ≡ fault.Gone → Q fault.Gone → IfErr r Q
gone_err (Ok n) x Q is gone q = tt
gone_err (Err f) x Q is gone q = subst Q (sym (is ∙ gone)) q

pub err_and : {T : Type 0} (r : Result T BookFault) (x : BookFault) (Q : BookFault → Type 0)
    → IsErrAnd r (λ y. y ≡ x) → Q x → IsErrAnd r Q
err_and (Ok n) x Q is q = absurd is
err_and (Err f) x Q is q = subst Q (sym is) q

pub gone_looks : (r : Result ℕ BookFault) (x : BookFault) (was now : Known) (log : List Entry)
    → IsErrAnd r (λ y. y ≡ x) → x ≡ fault.Gone → now ≡ was → Looks r was log now
gone_looks (Ok n) x was now log is gone same = absurd is
gone_looks (Err f) x was now log is gone same = inl (is ∙ gone, same)

pub gone_reported : (r : Result ℕ BookFault) (x : BookFault) (v : Version) (old : BookState) (name : Name)
    → IsErrAnd r (λ y. y ≡ x) → x ≡ fault.Gone → IsAfterAnswered v old name r old
gone_reported (Ok n) x v old name is gone = refl
gone_reported (Err f) x v old name is gone = subst (λ y. IsAfterAnswered v old name (Err y) old) (sym (is ∙ gone)) refl

-- ---- of what a session submits
abbrev refused_for : {F : Type 0} → Refused F → Result ℕ (Refused F)
refused_for why = Err why

-- who is turned away gets the reason, or that the book is gone
pub away_reported : {F : Type 0} (log : List Entry) (was now : Known) {why : Refused F} (reported : Refused F)
    → IsTurnedAway log was why reported now → (refused_for reported ≡ Err why) ⊎ (refused_for reported ≡ Err Gone)
away_reported log was now reported (inl h) = inl (ap refused_for h.0)
away_reported log was now reported (inr h) = inr (ap refused_for h.0)

-- ---- of the marks after a wait
pub keeps_marks : {A : Type 0} (o : Option A) (x : A) (P Q : Type 0) → o ≡ Some x → P → IfSome o (λ _. P) × IfNone o Q
keeps_marks o x P Q is p = subst (λ o. IfSome o (λ _. P) × IfNone o Q) (sym is) (p, tt)

pub loses_marks : {A : Type 0} (o : Option A) (P Q : Type 0) → o ≡ None → Q → IfSome o (λ _. P) × IfNone o Q
loses_marks o P Q is q = subst (λ o. IfSome o (λ _. P) × IfNone o Q) (sym is) (tt, q)

-- ---- of a result that was looked at
pub on_ok : {T E : Type 0} (r : Result T E) (b : Bool) (P : Type 0) → b ≡ is_err r → b ≡ false → OnOk r P → P
on_ok (Ok n) b P is so p = p
on_ok (Err f) b P is so p = absurd (true≢false (sym is ∙ so))

pub on_err : {T E : Type 0} (r : Result T E) (b : Bool) (P : Type 0) → b ≡ is_err r → b ≡ true → OnErr r P → P
on_err (Ok n) b P is so p = absurd (true≢false (sym so ∙ is))
on_err (Err f) b P is so p = p

-- ---- of a tile that is handed out
-- what is made of a tile that is free in the newest version of a log is a job
pub job_of : (book : Book) (log now : List Entry) (name tile : Name) (column : ℕ) (input : Input) (held : List HeldTile)
    → now ≡ log → IsLog log → name ≡ tile → input ≡ input_of (newest_in log).layers tile column → IsFree (newest_in log) held tile column
    → IsJob (record { book = book; log = now; name = name; input = input })
job_of book log now name tile column input held is valid named present free =
    let there : IsJob (record { book = book; log = log; name = tile; input = input_of (newest_in log).layers tile column }) =
    record { valid = valid; pending = free.pending; present = refl } in
    subst (λ l. IsJob (record { book = book; log = l; name = name; input = input })) (sym is)
    (subst (λ n. IsJob (record { book = book; log = log; name = n; input = input })) (sym named)
    (subst (λ i. IsJob (record { book = book; log = log; name = tile; input = i })) (sym present) there))

pub handed_of : (v : Version) (held : List HeldTile) (name tile : Name) (column : ℕ) (input : Input)
    → name ≡ tile → input ≡ input_of v.layers tile column → IsFree v held tile column → IsHandedOut v held name input
handed_of v held name tile column input named present free =
    let there : IsHandedOut v held tile (input_of v.layers tile column) = record { pending = free.pending; free = free.free; present = refl } in
    subst (λ n. IsHandedOut v held n input) (sym named) (subst (λ i. IsHandedOut v held tile i) (sym present) there)
