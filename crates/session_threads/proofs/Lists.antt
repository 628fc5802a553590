-- Lists that are gone through, those that grow beside them, and lists that go side by side.
use Rattle.std.proofs.Common.{◌≡◌, ◌++◌, ◌∷◌, [], ℕ, suc, ◌+◌, ◌<◌, ◌≤◌, List, length, append-nil, length-append, map, refl, ap, sym, subst, ◌∙◌, append_assoc, arith}
use Rattle.std.proofs.lemmas.List.{map-append, nil_from_length}
use Rattle.std.specs.List.{AllZip}
use Rattle.book_history.specs.Known.{Known}
use Rattle.session_threads.specs.Seats.{Leave, ended_session, finished_of}
use Rattle.session_threads.specs.declared.port.Finished.{Finished}
use Rattle.session_threads.specs.declared.running.Ended.{Ended}

-- what is gone through and what is left, with one more gone through
pub one_on : {X : Type 0} (all past left rest : List X) (x : X) → past ++ left ≡ all → left ≡ x ∷ rest → (past ++ x ∷ []) ++ rest ≡ all
one_on all past left rest x is next = append_assoc past (x ∷ []) rest ∙ ap (λ zs. past ++ zs) (sym next) ∙ is

-- all is gone through where nothing is left
pub gone_through : {X : Type 0} (all past left : List X) → past ++ left ≡ all → length left ≡ 0 → past ≡ all
gone_through all past left is none = sym (append-nil past) ∙ ap (λ zs. past ++ zs) (sym (nil_from_length left none)) ∙ is

-- one more on each side
pub beside_push : {X Y : Type 0} (R : X → Y → Type 0) (xs : List X) (ys : List Y) (x : X) (y : Y) → AllZip R xs ys → R x y → AllZip R (xs ++ x ∷ []) (ys ++ y ∷ [])
beside_push R [] [] x y h k = (k, tt)
beside_push R [] (b ∷ bs) x y h k = absurd h
beside_push R (a ∷ as') [] x y h k = absurd h
beside_push R (a ∷ as') (b ∷ bs) x y h k = (h.0, beside_push R as' bs x y h.1 k)

-- what holds beside the middle list holds of the outer ones
pub beside_through : {X Y Z : Type 0} (R : X → Y → Type 0) (S : Y → Z → Type 0) (T : X → Z → Type 0) → ((x : X) (y : Y) (z : Z) → R x y → S y z → T x z) → (xs : List X) (ys : List Y) (zs : List Z) → AllZip R xs ys → AllZip S ys zs → AllZip T xs zs
beside_through R S T f [] [] [] h k = tt
beside_through R S T f [] [] (z ∷ zs) h k = absurd k
beside_through R S T f [] (y ∷ ys) zs h k = absurd h
beside_through R S T f (x ∷ xs) [] zs h k = absurd h
beside_through R S T f (x ∷ xs) (y ∷ ys) [] h k = absurd k
beside_through R S T f (x ∷ xs) (y ∷ ys) (z ∷ zs) h k = (f x y z h.0 k.0, beside_through R S T f xs ys zs h.1 k.1)

-- lists that go side by side are as long
pub beside_length : {X Y : Type 0} (R : X → Y → Type 0) (xs : List X) (ys : List Y) → AllZip R xs ys → length xs ≡ length ys
beside_length R [] [] h = refl
beside_length R [] (y ∷ ys) h = absurd h
beside_length R (x ∷ xs) [] h = absurd h
beside_length R (x ∷ xs) (y ∷ ys) h = ap suc (beside_length R xs ys h.1)

-- a list that grows with what is gone through has room for one more
pub room_left : {X : Type 0} (all past left rest : List X) (x : X) (len cap : ℕ) → past ++ left ≡ all → left ≡ x ∷ rest
    → len ≡ length past → length all ≤ cap → len < cap
room_left all past left rest x len cap is next grown room =
    let whole : length all ≡ length past + length left = ap length (sym is) ∙ length-append past left in
    let more : length left ≡ length rest + 1 = ap length next ∙ omega arith in
    omega (arith, grown, room, whole, more)

-- the same of what is as long as what is left
pub gone_by_count : {X : Type 0} (all given past left : List X) (n : ℕ) → past ++ left ≡ all → all ≡ given → n ≡ length left → n ≡ 0 → past ≡ given
gone_by_count all given past left n is same counted none = gone_through all past left is (sym counted ∙ none) ∙ same

-- as long as what is gone through, with one more
pub one_longer : {X : Type 0} (past : List X) (x : X) (n m : ℕ) → m ≡ n + 1 → n ≡ length past → m ≡ length (past ++ x ∷ [])
one_longer past x n m is counted = is ∙ ap (λ (k : ℕ). k + 1) counted ∙ sym (length-append past (x ∷ []))

-- as long as what is left, with one less
pub one_less : {X : Type 0} (left rest : List X) (x : X) (n m : ℕ) → left ≡ x ∷ rest → m + 1 ≡ n → n ≡ length left → m ≡ length rest
one_less left rest x n m next is counted =
    let more : length left ≡ length rest + 1 = ap length next ∙ omega arith in
    omega (arith, is, counted, more)

-- what goes on beside what is gone through, with one more on each side
pub beside_pushed : {X Y : Type 0} (R : X → Y → Type 0) (xs : List X) (ys zs : List Y) (x : X) (y : Y) → zs ≡ ys ++ y ∷ [] → AllZip R xs ys → R x y → AllZip R (xs ++ x ∷ []) zs
beside_pushed R xs ys zs x y is h k = subst (λ bs. AllZip R (xs ++ x ∷ []) bs) (sym is) (beside_push R xs ys x y h k)

-- a list of what is taken of each gone through, with one more
pub reported_pushed : {X C : Type 0} (f : X → C) (xs : List X) (ys zs : List C) (x : X) → zs ≡ ys ++ f x ∷ [] → ys ≡ map f xs → zs ≡ map f (xs ++ x ∷ [])
reported_pushed {X} {C} f xs ys zs x is same = is ∙ ap (λ (bs : List C). bs ++ f x ∷ []) same ∙ sym (map-append f xs (x ∷ []))

module _ {X R W : Type 0} {so : X → Ended R W → Type 0} where
  -- what has ended, at first, with one more, and of the same list
  pub leave_none : (sessions : List Known) (finished : List (Finished W)) → sessions ≡ [] → finished ≡ [] → Leave so [] sessions finished
  leave_none sessions finished none nor = record { ended = []; each = tt; sessions_are = none; finished_are = nor }

  pub leave_more : (xs : List X) (was now : List Known) (old new : List (Finished W)) (x : X) (e : Ended R W) → now ≡ was ++ ended_session e ∷ [] → new ≡ old ++ finished_of e ∷ []
      → Leave so xs was old → so x e → Leave so (xs ++ x ∷ []) now new
  leave_more xs was now old new x e one_session one_finished left one = record {
    ended = left.ended ++ e ∷ [];
    each = beside_push so xs left.ended x e left.each one;
    sessions_are = reported_pushed ended_session left.ended was now e one_session left.sessions_are;
    finished_are = reported_pushed finished_of left.ended old new e one_finished left.finished_are;
  }

  pub leave_same : {xs ys : List X} {sessions : List Known} {finished : List (Finished W)} → xs ≡ ys → Leave so xs sessions finished → Leave so ys sessions finished
  leave_same same left = record {
    ended = left.ended;
    each = subst (λ zs. AllZip so zs left.ended) same left.each;
    sessions_are = left.sessions_are;
    finished_are = left.finished_are;
  }
