-- Sessions printed one after another.
use Rattle.std.proofs.Common.{◌≡◌, ◌++◌, ◌∷◌, [], ◌∙◌, ◌<◌, ◌+◌, ℕ, suc, List, Option, Result, Ok, Err, IsErrAnd, OnErr, Bool, nat_lt, length, map, take, drop, get_or, ap, subst, sym, append_assoc, arith}
use Rattle.std.proofs.lemmas.List.{append-nil, length-append, length-map, length-take-le, map-append, take-append-drop, take_more}
use Rattle.std.proofs.KnownBytes.{Appends-trans}
use Rattle.std.specs.Io.KnownBytes.{Appends}
use mathlib.Core.List.{IsPrefix}
use Rattle.script_form.specs.Writing.{IsCutShort, Writes}
use Rattle.overlayd.specs.Printing.{printed, session_text, texts_from}

-- the texts from a number on, with more after them
texts_append : (several : Bool) (number : ℕ) (all more : List (List ℕ))
    → texts_from several number (all ++ more) ≡ texts_from several number all ++ texts_from several (number + length all) more
unfolding texts_from
texts_append several number [] more =
    let same : number ≡ number + 0 = omega arith in
    ap (λ n. texts_from several n more) same
texts_append several number (one ∷ all) more =
    let rest : texts_from several (suc number) (all ++ more) ≡ texts_from several (suc number) all ++ texts_from several (suc number + length all) more = texts_append several (suc number) all more in
    let same : suc number + length all ≡ number + suc (length all) = omega arith in
    ap (λ t. session_text several number one ++ t) (rest ∙ ap (λ n. texts_from several (suc number) all ++ texts_from several n more) same)
    ∙ sym (append_assoc (session_text several number one) (texts_from several (suc number) all) (texts_from several (number + suc (length all)) more))

-- the text of one session
texts_one : (several : Bool) (number : ℕ) (one : List ℕ) → texts_from several number (one ∷ []) ≡ session_text several number one
unfolding texts_from
texts_one several number one = append-nil (session_text several number one)

-- one session more is printed
pub texts_more : {A : Type 0} (several : Bool) (f : A → List ℕ) (xs : List A) (i : ℕ) (x : A) → i < length xs → x ≡ get_or xs i x
    → texts_from several 1 (map f (take (i + 1) xs)) ≡ texts_from several 1 (map f (take i xs)) ++ session_text several (i + 1) (f x)
texts_more several f xs i x within here =
    let count : length (map f (take i xs)) ≡ i = length-map (take i xs) f ∙ length-take-le i xs (omega arith) in
    let same : 1 + length (map f (take i xs)) ≡ i + 1 = omega arith in
    ap (λ ys. texts_from several 1 (map f ys)) (take_more xs i x within ∙ ap (λ y. take i xs ++ y ∷ []) (sym here))
    ∙ ap (texts_from several 1) (map-append f (take i xs) (x ∷ []))
    ∙ texts_append several 1 (map f (take i xs)) (f x ∷ [])
    ∙ ap (λ n. texts_from several 1 (map f (take i xs)) ++ texts_from several n (f x ∷ [])) same
    ∙ ap (λ t. texts_from several 1 (map f (take i xs)) ++ t) (texts_one several (i + 1) (f x))

-- what the first sessions wrote begins what all wrote
texts_begin : {A : Type 0} (several : Bool) (f : A → List ℕ) (xs : List A) (n : ℕ)
    → (rest : List ℕ) × (texts_from several 1 (map f xs) ≡ texts_from several 1 (map f (take n xs)) ++ rest)
texts_begin several f xs n =
    let first = map f (take n xs) in
    let others = map f (drop n xs) in (
      texts_from several (1 + length first) others,
      ap (λ ys. texts_from several 1 (map f ys)) (sym (take-append-drop n xs))
          ∙ ap (texts_from several 1) (map-append f (take n xs) (drop n xs))
          ∙ texts_append several 1 first others,
    )

-- a front of the next text is written, after those of the first sessions
pub cut_begins : {A : Type 0} (f : A → List ℕ) (xs : List A) (i : ℕ) (x : A) (front : List ℕ) → i < length xs → x ≡ get_or xs i x
    → IsCutShort (session_text (nat_lt 1 (length xs)) (i + 1) (f x)) front
    → IsPrefix (texts_from (nat_lt 1 (length xs)) 1 (map f (take i xs)) ++ front) (printed (map f xs))
cut_begins f xs i x front within here cut =
    let several = nat_lt 1 (length xs) in
    let done = texts_from several 1 (map f (take i xs)) in
    let (rest, all) = texts_begin several f xs (i + 1) in (
      cut.unwritten ++ rest,
      append_assoc done front (cut.unwritten ++ rest)
          ∙ ap (λ t. done ++ t) (sym (append_assoc front cut.unwritten rest) ∙ ap (λ t. t ++ rest) (sym cut.split))
          ∙ sym (append_assoc done (session_text several (i + 1) (f x)) rest)
          ∙ ap (λ t. t ++ rest) (sym (texts_more several f xs i x within here))
          ∙ sym all
          ∙ ap (λ n. texts_from (nat_lt 1 n) 1 (map f xs)) (sym (length-map xs f)),
    )

-- a front of a text is one of the text with more after it
pub cut_before : (text more front : List ℕ) → IsCutShort text front → IsCutShort (text ++ more) front
cut_before text more front cut = record {
  unwritten = cut.unwritten ++ more;
  split = ap (λ t. t ++ more) cut.split ∙ append_assoc front cut.unwritten more;
  lost = let parts = length-append cut.unwritten more in let some = cut.lost in omega (arith, parts, some);
}

-- a text and a front of the next one are a front of both
pub cut_behind : (first text front : List ℕ) → IsCutShort text front → IsCutShort (first ++ text) (first ++ front)
cut_behind first text front cut = record {
  unwritten = cut.unwritten;
  split = ap (λ t. first ++ t) cut.split ∙ sym (append_assoc first front cut.unwritten);
  lost = cut.lost;
}

-- where the first text is cut short, both are
pub writes_first : {A E : Type 0} (result : Result A E) (fault : E) (old new : Option (List ℕ)) (bytes first text front : List ℕ) → IsErrAnd result (λ e. e ≡ fault)
    → bytes ≡ first → IsCutShort bytes front → Appends old new front → Writes result old new (first ++ text)
writes_first (Ok done) fault old new bytes first text front failed same cut appended = absurd failed
writes_first (Err e) fault old new bytes first text front failed same cut appended =
    (front, cut_before first text front (subst (λ t. IsCutShort t front) same cut), appended)

-- after the first text, what is written of the next one
pub writes_next : {A E : Type 0} (result : Result A E) (old mid new : Option (List ℕ)) (bytes first text : List ℕ) → bytes ≡ first → Appends old mid bytes
    → Writes result mid new text → Writes result old new (first ++ text)
writes_next (Ok done) old mid new bytes first text same before next =
    Appends-trans old mid new first text (subst (Appends old mid) same before) next
writes_next (Err fault) old mid new bytes first text same before (front, cut, appended) =
    (first ++ front, cut_behind first text front cut, Appends-trans old mid new first front (subst (Appends old mid) same before) appended)

-- what holds anyway holds at a fault
pub at_fault : {A E : Type 0} (P : Type 0) (result : Result A E) → P → OnErr result P
at_fault P (Ok done) p = tt
at_fault P (Err fault) p = p
