-- From where the reader is to what the grammar says of the bytes.
use Rattle.std.proofs.Common.{◌≡◌, ℕ, zero, suc, ◌+◌, ◌==◌, ◌<◌, ◌≤◌, ◌⊎◌, Bool, true, false, ◌&&◌, List, [], ◌∷◌, ◌++◌, length, take, drop, refl, ap, sym, subst, ◌∙◌, arith, inl, inr}
use Rattle.std.proofs.lemmas.List.{length-take, map-append}
use Rattle.std.proofs.lemmas.List.Elements.{All-cons, All-nil}
use Rattle.std.specs.Prelude.{IsTrue, Option, Some, None, option_and_then, is_some, All, slice_get, nat_le, if◌then◌else◌}
use Rattle.std.specs.List.{list_all}
use Rattle.std.proofs.lemmas.List.Folds.{list_all-append}
use Rattle.std.specs.Char.{is_ascii_alphabetic}
use Rattle.overlay_terms.specs.Trees.{intersection, union, difference, sym_difference, Tree}
use Rattle.layer_expr.specs.declared.fault.ExprFault.{ExprFault}
use Rattle.layer_expr.specs.declared.fault.ExprFault.TheVariants.{ExprSyntax, ExprTooLong, BadName, OutOfMemory}
use Rattle.layer_expr.specs.Name.{name_max, is_name, is_name_byte, first_is_letter}
use Rattle.overlay_terms.specs.Blank.{is_blank}
use Rattle.layer_expr.specs.Token.{Kind, name, operator, open_bracket, close_bracket, stray, Token, sign_kind, tokens_after, tokens_of}
use Rattle.layer_expr.specs.Grammar.{kinds_of, IsSum, IsBegun, is_name_short, IsGoodSoFar, IsFaultAt, IsRefusedBy, ReadsAs}
use Rattle.layer_expr.specs.ReaderState.{ReaderState, at_start, moved, after_kinds, finished}
use Rattle.layer_expr.specs.Reader.{is_good, IsStepFault, IsEndFault}
use Rattle.layer_expr.proofs.ReaderStateLemmas.{T, both, all_true, Begun, false_is_true, after_kinds-append, tree_begun, tree_not_begun, tree_finished, tree_not_finished}
use Rattle.layer_expr.proofs.TokenLemmas.{name_front, name_more, name_stop, letter_goes_on}

-- each name among the tokens is a run of letters, digits and `_` after a letter: it is a name of a layer if it is short
abbrev pub IsShaped : List Token → Type 0
IsShaped [] = Unit {0}
IsShaped (t ∷ ts) = (is_good t.kind ≡ is_name_short t) × IsShaped ts

front_bytes_by : (b : ℕ) (bs : List ℕ) (t : Bool) → is_name_byte b ≡ t → list_all is_name_byte (name_front bs) ≡ true → list_all is_name_byte (name_front (b ∷ bs)) ≡ true
front_bytes_by b bs true h ih = ap (list_all is_name_byte) (name_more b bs h) ∙ all_true (is_name_byte b) (list_all is_name_byte (name_front bs)) h ih
front_bytes_by b bs false h ih = ap (list_all is_name_byte) (name_stop b bs h)

front_bytes : (s : List ℕ) → list_all is_name_byte (name_front s) ≡ true
front_bytes [] = refl
front_bytes (b ∷ bs) = front_bytes_by b bs (is_name_byte b) refl (front_bytes bs)

front_letter : (b : ℕ) (bs : List ℕ) → is_ascii_alphabetic b ≡ true → first_is_letter (name_front (b ∷ bs)) ≡ true
front_letter b bs h = ap first_is_letter (name_more b bs (letter_goes_on b h)) ∙ h

three : (a b c : Bool) → a ≡ true → c ≡ true → (a && b && c) ≡ b
three true true true h k = refl
three true false true h k = refl
three a b false h k = false_is_true k
three false b true h k = false_is_true h

name_shape : (b : ℕ) (bs : List ℕ) → is_ascii_alphabetic b ≡ true → is_name (name_front (b ∷ bs)) ≡ nat_le (length (name_front (b ∷ bs))) name_max
name_shape b bs h = three (first_is_letter (name_front (b ∷ bs))) (nat_le (length (name_front (b ∷ bs))) 32) (list_all is_name_byte (name_front (b ∷ bs))) (front_letter b bs h) (front_bytes (b ∷ bs))

if_shaped : (t : Bool) (x y : List Token) → (t ≡ true → IsShaped x) → (t ≡ false → IsShaped y) → IsShaped (if t then x else y)
if_shaped true x y h k = h refl
if_shaped false x y h k = k refl

abbrev chosen : Bool → Bool → Bool → Bool → Bool → Bool → Kind
chosen a b c d e f =
    if a then operator intersection
    else (if b then operator union
    else (if c then operator difference
    else (if d then operator sym_difference
    else (if e then open_bracket
    else (if f then close_bracket else stray)))))

chosen_shape : (at : ℕ) (a b c d e f : Bool) → is_good (chosen a b c d e f) ≡ is_name_short (record { at = at; kind = chosen a b c d e f })
chosen_shape at true b c d e f = refl
chosen_shape at false true c d e f = refl
chosen_shape at false false true d e f = refl
chosen_shape at false false false true e f = refl
chosen_shape at false false false false true f = refl
chosen_shape at false false false false false true = refl
chosen_shape at false false false false false false = refl

sign_shape : (at b : ℕ) → is_good (sign_kind b) ≡ is_name_short (record { at = at; kind = sign_kind b })
sign_shape at b = chosen_shape at (b == 38) (b == 124) (b == 45) (b == 94) (b == 40) (b == 41)

pub tokens_shaped : (in_name : Bool) (at : ℕ) (bs : List ℕ) → IsShaped (tokens_after in_name at bs)
tokens_shaped in_name at [] = tt
tokens_shaped in_name at (b ∷ bs) =
    let as_sign : List Token = record { at = at; kind = sign_kind b } ∷ tokens_after false (at + 1) bs in
    let as_name : List Token = record { at = at; kind = name (name_front (b ∷ bs)) } ∷ tokens_after true (at + 1) bs in
    let no_blank : List Token = if is_ascii_alphabetic b then as_name else as_sign in
    let no_name : List Token = if is_blank b then tokens_after false (at + 1) bs else no_blank in
    let sign_shaped : IsShaped as_sign = (sign_shape at b, tokens_shaped false (at + 1) bs) in
    let name_shaped : is_ascii_alphabetic b ≡ true → IsShaped as_name = λ letter. (name_shape b bs letter, tokens_shaped true (at + 1) bs) in
    let no_blank_shaped : IsShaped no_blank = if_shaped (is_ascii_alphabetic b) as_name as_sign name_shaped (λ _. sign_shaped) in
    let no_name_shaped : IsShaped no_name = if_shaped (is_blank b) (tokens_after false (at + 1) bs) no_blank (λ _. tokens_shaped false (at + 1) bs) (λ _. no_blank_shaped) in
    if_shaped (in_name && is_name_byte b) (tokens_after in_name (at + 1) bs) no_name (λ _. tokens_shaped in_name (at + 1) bs) (λ _. no_name_shaped)

-- the token at a place, what is before it with it, and what is after it
pub token_at : (ts : List Token) (i : ℕ) (t : Token) (rest : List Token) → drop i ts ≡ t ∷ rest → slice_get ts i ≡ Some t
token_at [] zero t rest h = absurd (cc)
token_at [] (suc i) t rest h = absurd (cc)
token_at (u ∷ ts) zero t rest h = cc
token_at (u ∷ ts) (suc i) t rest h = token_at ts i t rest h

before_next : (ts : List Token) (i : ℕ) (t : Token) (rest : List Token) → drop i ts ≡ t ∷ rest → take (suc i) ts ≡ take i ts ++ t ∷ []
before_next [] zero t rest h = absurd (cc)
before_next [] (suc i) t rest h = absurd (cc)
before_next (u ∷ ts) zero t rest h =
    let same : u ≡ t = cc in
    ap (λ v. v ∷ []) same
before_next (u ∷ ts) (suc i) t rest h = ap (λ s. u ∷ s) (before_next ts i t rest h)

behind_next : (ts : List Token) (i : ℕ) (t : Token) (rest : List Token) → drop i ts ≡ t ∷ rest → drop (suc i) ts ≡ rest
behind_next [] zero t rest h = absurd (cc)
behind_next [] (suc i) t rest h = absurd (cc)
behind_next (u ∷ ts) zero t rest h = cc
behind_next (u ∷ ts) (suc i) t rest h = behind_next ts i t rest h

no_token_at : (ts : List Token) (i : ℕ) → drop i ts ≡ [] → slice_get ts i ≡ None
no_token_at [] i h = refl
no_token_at (u ∷ ts) zero h = absurd (cc)
no_token_at (u ∷ ts) (suc i) h = no_token_at ts i h

all_taken : (ts : List Token) (i : ℕ) → drop i ts ≡ [] → take i ts ≡ ts
all_taken [] zero h = refl
all_taken [] (suc i) h = refl
all_taken (u ∷ ts) zero h = absurd (cc)
all_taken (u ∷ ts) (suc i) h = ap (λ s. u ∷ s) (all_taken ts i h)

-- tokens of these kinds
abbrev pub with_kinds : List Kind → List Token
with_kinds [] = []
with_kinds (k ∷ ks) = record { at = 0; kind = k } ∷ with_kinds ks

kinds_with : (ks : List Kind) → kinds_of (with_kinds ks) ≡ ks
kinds_with [] = refl
kinds_with (k ∷ ks) = ap (λ s. k ∷ s) (kinds_with ks)

pub begun_tokens : (ts : List Token) → Begun (kinds_of ts) → IsBegun ts
begun_tokens ts b =
    (with_kinds b.0, (b.1, record { grouped = b.2.0; spelled = map-append (λ (t : Token). t.kind) ts (with_kinds b.0) ∙ ap (λ ks. kinds_of ts ++ ks) (kinds_with b.0) ∙ b.2.1 }))

pub begun_kinds : (ts : List Token) → IsBegun ts → Begun (kinds_of ts)
begun_kinds ts b =
    (kinds_of b.0, b.1.0, (b.1.1.grouped, sym (map-append (λ (t : Token). t.kind) ts b.0) ∙ b.1.1.spelled))

pub good_short : (t : Token) → is_good t.kind ≡ is_name_short t → IsTrue (is_good t.kind) → IsTrue (is_name_short t)
good_short t same h = sym same ∙ h

pub all_short : (ts : List Token) → IsShaped ts → IsTrue (list_all is_good (kinds_of ts)) → All (λ token. IsTrue (is_name_short token)) ts
all_short [] shaped h = All-nil (λ token. IsTrue (is_name_short token))
all_short (t ∷ ts) shaped h =
    let each = both (is_good t.kind) (list_all is_good (kinds_of ts)) h in
    All-cons (λ token. IsTrue (is_name_short token)) t ts (good_short t shaped.0 each.0) (all_short ts shaped.1 each.1)

pub shaped_front : (i : ℕ) (ts : List Token) → IsShaped ts → IsShaped (take i ts)
shaped_front zero ts h = tt
shaped_front (suc i) [] h = tt
shaped_front (suc i) (t ∷ ts) h = (h.0, shaped_front i ts h.1)

shaped_rest : (i : ℕ) (ts : List Token) → IsShaped ts → IsShaped (drop i ts)
shaped_rest zero ts h = h
shaped_rest (suc i) [] h = tt
shaped_rest (suc i) (t ∷ ts) h = shaped_rest i ts h.1

shaped_behind : (bytes : List ℕ) (count : ℕ) (left : List Token) → drop count (tokens_of bytes) ≡ left → (t : Token) (rest : List Token) → left ≡ t ∷ rest → IsShaped (t ∷ rest)
shaped_behind bytes count left e t rest f = subst IsShaped (e ∙ f) (shaped_rest count (tokens_of bytes) (tokens_shaped false 0 bytes))

-- where the reader is after the first tokens: what is left, and that these can stand there and are names of layers
pub record IsAt (bytes : List ℕ) (count : ℕ) (left : List Token) (s : ReaderState (Tree (List ℕ))) : Type 0 where
  pub rest : drop count (tokens_of bytes) ≡ left
  pub few : count ≤ 64
  pub there : after_kinds T (Some at_start) (kinds_of (take count (tokens_of bytes))) ≡ Some s
  pub good : IsTrue (list_all is_good (kinds_of (take count (tokens_of bytes))))

pub is_at_start : (bytes : List ℕ) → IsAt bytes 0 (tokens_of bytes) at_start
is_at_start bytes = record { rest = refl; few = omega arith; there = refl; good = refl }

-- the kinds of the first tokens and of the next
kinds_next : (ts : List Token) (i : ℕ) (t : Token) (rest : List Token) → drop i ts ≡ t ∷ rest → kinds_of (take (i + 1) ts) ≡ kinds_of (take i ts) ++ t.kind ∷ []
kinds_next ts i t rest h =
    let more : i + 1 ≡ suc i = omega arith in
    ap (λ n. kinds_of (take n ts)) more ∙ ap kinds_of (before_next ts i t rest h) ∙ map-append (λ (u : Token). u.kind) (take i ts) (t ∷ [])

next_state : (bytes : List ℕ) (count : ℕ) (left : List Token) (s : ReaderState (Tree (List ℕ))) (t : Token) (rest : List Token) → IsAt bytes count left s → left ≡ t ∷ rest → after_kinds T (Some at_start) (kinds_of (take (count + 1) (tokens_of bytes))) ≡ moved T t.kind s
next_state bytes count left s t rest h e =
    ap (after_kinds T (Some at_start)) (kinds_next (tokens_of bytes) count t rest (h.rest ∙ e))
    ∙ after_kinds-append T (Some at_start) (kinds_of (take count (tokens_of bytes))) (t.kind ∷ [])
    ∙ ap (option_and_then (moved T t.kind)) h.there

pub goes_on : (bytes : List ℕ) (count : ℕ) (left more : List Token) (s u : ReaderState (Tree (List ℕ))) (t : Token) → IsAt bytes count left s → count < 64 → left ≡ t ∷ more → moved T t.kind s ≡ Some u → IsTrue (is_good t.kind) → IsAt bytes (count + 1) more u
goes_on bytes count left more s u t h few e step good =
    let next : count + 1 ≡ suc count = omega arith in
    let goods : list_all is_good (kinds_of (take (count + 1) (tokens_of bytes))) ≡ true =
    ap (list_all is_good) (kinds_next (tokens_of bytes) count t more (h.rest ∙ e)) ∙ list_all-append is_good (kinds_of (take count (tokens_of bytes))) (t.kind ∷ []) ∙ all_true (list_all is_good (kinds_of (take count (tokens_of bytes)))) (is_good t.kind && true) h.good (all_true (is_good t.kind) true good refl) in
    record {
      rest = ap (λ n. drop n (tokens_of bytes)) next ∙ behind_next (tokens_of bytes) count t more (h.rest ∙ e);
      few = omega arith;
      there = next_state bytes count left s t more h e ∙ step;
      good = goods;
    }

good_so_far : (bytes : List ℕ) (count : ℕ) (left : List Token) (s : ReaderState (Tree (List ℕ))) → IsAt bytes count left s → IsGoodSoFar (take count (tokens_of bytes))
good_so_far bytes count left s h =
    let ts = take count (tokens_of bytes) in
    let size : length ts ≤ count = omega (arith, length-take count (tokens_of bytes)) in
    record {
      begun = begun_tokens ts (tree_begun (kinds_of ts) s h.there);
      few = omega (arith, h.few, size);
      names = all_short ts (shaped_front count (tokens_of bytes) (tokens_shaped false 0 bytes)) h.good;
    }

refused_at : (bytes : List ℕ) (count : ℕ) (left : List Token) (s : ReaderState (Tree (List ℕ))) (t : Token) (rest : List Token) (fault : ExprFault) → IsAt bytes count left s → left ≡ t ∷ rest → IsFaultAt bytes count (Some t) fault → IsRefusedBy bytes fault
refused_at bytes count left s t rest fault h e f =
    (count, good_so_far bytes count left s h, subst (λ o. IsFaultAt bytes count o fault) (sym (token_at (tokens_of bytes) count t rest (h.rest ∙ e))) f)

pub too_long : (bytes : List ℕ) (count : ℕ) (left : List Token) (s : ReaderState (Tree (List ℕ))) (t : Token) (rest : List Token) → IsAt bytes count left s → left ≡ t ∷ rest → count ≡ 64 → IsRefusedBy bytes ExprTooLong
too_long bytes count left s t rest h e full = refused_at bytes count left s t rest ExprTooLong h e (inl (full, refl))

pub cannot_stand : (bytes : List ℕ) (count : ℕ) (left : List Token) (s : ReaderState (Tree (List ℕ))) (t : Token) (rest : List Token) → IsAt bytes count left s → left ≡ t ∷ rest → count < 64 → moved T t.kind s ≡ None → IsRefusedBy bytes (ExprSyntax t.at)
cannot_stand bytes count left s t rest h e few step =
    refused_at bytes count left s t rest (ExprSyntax t.at) h e (inr (inl (few, (λ b. tree_not_begun (kinds_of (take (count + 1) (tokens_of bytes))) (next_state bytes count left s t rest h e ∙ step) (begun_kinds (take (count + 1) (tokens_of bytes)) b)), refl)))

begun_if_some : (ks : List Kind) (s : Option (ReaderState (Tree (List ℕ)))) → after_kinds T (Some at_start) ks ≡ s → IsTrue (is_some s) → Begun ks
begun_if_some ks None e h = false_is_true h
begun_if_some ks (Some s) e h = tree_begun ks s e

pub long_name : (bytes : List ℕ) (count : ℕ) (left : List Token) (s : ReaderState (Tree (List ℕ))) (t : Token) (rest : List Token) → IsAt bytes count left s → left ≡ t ∷ rest → count < 64 → is_good t.kind ≡ false → IsTrue (is_some (moved T t.kind s)) → IsRefusedBy bytes BadName
long_name bytes count left s t rest h e few bad there =
    let shaped : IsShaped (t ∷ rest) = shaped_behind bytes count left h.rest t rest e in
    let begun = begun_if_some (kinds_of (take (count + 1) (tokens_of bytes))) (moved T t.kind s) (next_state bytes count left s t rest h e) there in
    refused_at bytes count left s t rest BadName h e (inr (inr (few, begun_tokens (take (count + 1) (tokens_of bytes)) begun, sym shaped.0 ∙ bad, refl)))

-- at the end of the tokens
pub ends_early : (bytes : List ℕ) (count : ℕ) (left : List Token) (s : ReaderState (Tree (List ℕ))) → IsAt bytes count left s → left ≡ [] → finished T s ≡ None → IsRefusedBy bytes (ExprSyntax (length bytes))
ends_early bytes count left s h e f =
    let whole = all_taken (tokens_of bytes) count (h.rest ∙ e) in
    let there : after_kinds T (Some at_start) (kinds_of (tokens_of bytes)) ≡ Some s = ap (λ ts. after_kinds T (Some at_start) (kinds_of ts)) (sym whole) ∙ h.there in
    let no_sum : ¬ (IsSum (tokens_of bytes)) = λ w. tree_not_finished (kinds_of (tokens_of bytes)) s there f w.0 (w.1.grouped, w.1.spelled) in
    (count, good_so_far bytes count left s h, subst (λ o. IsFaultAt bytes count o (ExprSyntax (length bytes))) (sym (no_token_at (tokens_of bytes) count (h.rest ∙ e))) (no_sum, refl))

pub ends_whole : (bytes : List ℕ) (count : ℕ) (left : List Token) (s : ReaderState (Tree (List ℕ))) (tree : Tree (List ℕ)) → IsAt bytes count left s → left ≡ [] → finished T s ≡ Some tree → ReadsAs bytes tree
ends_whole bytes count left s tree h e f =
    let whole = all_taken (tokens_of bytes) count (h.rest ∙ e) in
    let there : after_kinds T (Some at_start) (kinds_of (tokens_of bytes)) ≡ Some s = ap (λ ts. after_kinds T (Some at_start) (kinds_of ts)) (sym whole) ∙ h.there in
    let spelled = tree_finished (kinds_of (tokens_of bytes)) s tree there f in
    let good = subst IsGoodSoFar whole (good_so_far bytes count left s h) in
    (spelled.0, record { grouped = spelled.1.0; spelled = spelled.1.1 }, good, spelled.2)

-- how a step and the end are refused
pub step_refused : (bytes : List ℕ) (count : ℕ) (left : List Token) (s : ReaderState (Tree (List ℕ))) (t : Token) (rest : List Token) (fault : ExprFault) → IsAt bytes count left s → left ≡ t ∷ rest → count < 64 → IsStepFault t.kind t.at s fault → (fault ≡ OutOfMemory) ⊎ IsRefusedBy bytes fault
step_refused bytes count left s t rest fault h e few (inl f) = inl f
step_refused bytes count left s t rest fault h e few (inr (inl f)) = inr (subst (IsRefusedBy bytes) (sym f.0) (cannot_stand bytes count left s t rest h e few f.1))
step_refused bytes count left s t rest fault h e few (inr (inr f)) = inr (subst (IsRefusedBy bytes) (sym f.0) (long_name bytes count left s t rest h e few f.1 f.2))

pub end_refused : (bytes : List ℕ) (count : ℕ) (left : List Token) (s : ReaderState (Tree (List ℕ))) (fault : ExprFault) → IsAt bytes count left s → left ≡ [] → IsEndFault (length bytes) s fault → (fault ≡ OutOfMemory) ⊎ IsRefusedBy bytes fault
end_refused bytes count left s fault h e (inl f) = inl f
end_refused bytes count left s fault h e (inr f) = inr (subst (IsRefusedBy bytes) (sym f.0) (ends_early bytes count left s h e f.1))
