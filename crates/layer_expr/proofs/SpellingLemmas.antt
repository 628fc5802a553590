-- The one text of an expression: its brackets keep the tree, no spelling has fewer tokens, and its bytes are read back.
use Rattle.std.proofs.Common.{◌≡◌, ℕ, ◌+◌, ◌≤◌, Bool, true, false, not, ◌&&◌, List, [], ◌∷◌, ◌++◌, length, refl, ap, sym, subst, ◌∙◌, append_assoc, append-nil, length-append, arith}
use Rattle.std.proofs.lemmas.List.{length-map}
use Rattle.std.proofs.lemmas.List.Folds.{list_all-append}
use Rattle.std.proofs.lemmas.List.Elements.{All-head, All-tail}
use Rattle.std.specs.Prelude.{IsTrue, All, if◌then◌else◌}
use Rattle.std.specs.List.{list_all}
use Rattle.std.specs.Char.{is_ascii_alphabetic}
use Rattle.std.proofs.Math.Bool.{and-true}
use Rattle.overlay_terms.specs.Trees.{Operation, intersection, union, difference, sym_difference, Tree, leaf, combine, leaves}
use Rattle.layer_expr.specs.Name.{is_name, is_name_byte}
use Rattle.overlay_terms.specs.Blank.{is_blank}
use Rattle.layer_expr.specs.Token.{Kind, name, operator, open_bracket, close_bracket, Token, sign_kind, tokens_after, tokens_of}
use Rattle.layer_expr.specs.Grammar.{Written, a_name, in_brackets, joined, level_of, is_atom, is_sum, is_grouped, written_kinds, written_tree, kinds_of, Spells, IsBegun, is_name_short, ReadsAs, tokens_max}
use Rattle.layer_expr.specs.Spelling.{bracketed_if, left_needs_brackets, right_needs_brackets, canonical, operation_text, written_text, expression_text, IsExpression}
use Rattle.layer_expr.specs.Reader.{is_good}
use Rattle.layer_expr.proofs.ReaderStateLemmas.{both, all_true, false_is_true}
use Rattle.layer_expr.proofs.TokenLemmas.{name_front, name_more, name_stop, letter_not_blank}
use Rattle.layer_expr.proofs.ReadingLemmas.{IsShaped, tokens_shaped, all_short}

-- ==== The brackets keep the tree
bracketed_tree : (b : Bool) (w : Written) → written_tree (bracketed_if b w) ≡ written_tree w
bracketed_tree true w = refl
bracketed_tree false w = refl

pub canonical_tree : (t : Tree (List ℕ)) → written_tree (canonical t) ≡ t
canonical_tree (leaf n) = refl
canonical_tree (combine o l r) =
    ap (λ u. combine o u (written_tree (bracketed_if (right_needs_brackets o (level_of (canonical r))) (canonical r)))) (bracketed_tree (left_needs_brackets o (level_of (canonical l))) (canonical l) ∙ canonical_tree l)
    ∙ ap (λ u. combine o l u) (bracketed_tree (right_needs_brackets o (level_of (canonical r))) (canonical r) ∙ canonical_tree r)

bracketed_grouped : (b : Bool) (w : Written) → IsTrue (is_grouped w) → IsTrue (is_grouped (bracketed_if b w))
bracketed_grouped true w h = h
bracketed_grouped false w h = h

no_sum_by : (b : Bool) (w : Written) → is_sum (level_of w) ≡ b → IsTrue (not (is_sum (level_of (bracketed_if b w))))
no_sum_by true w h = refl
no_sum_by false w h = ap not h

atom_by : (b : Bool) (w : Written) → not (is_atom (level_of w)) ≡ b → IsTrue (is_atom (level_of (bracketed_if b w)))
atom_by true w h = refl
atom_by false w h = not_false (is_atom (level_of w)) h where
  not_false : (a : Bool) → not a ≡ false → IsTrue a
  not_false true h = refl
  not_false false h = false_is_true (sym h)

loose_grouped : (l r : Tree (List ℕ)) → IsTrue (is_grouped (canonical l)) → IsTrue (is_grouped (canonical r)) → IsTrue (is_grouped (canonical l) && is_grouped (bracketed_if (is_sum (level_of (canonical r))) (canonical r)) && not (is_sum (level_of (bracketed_if (is_sum (level_of (canonical r))) (canonical r)))))
loose_grouped l r h k =
    let wr = bracketed_if (is_sum (level_of (canonical r))) (canonical r) in
    all_true (is_grouped (canonical l) && is_grouped wr) _ (all_true (is_grouped (canonical l)) (is_grouped wr) h (bracketed_grouped (is_sum (level_of (canonical r))) (canonical r) k)) (no_sum_by (is_sum (level_of (canonical r))) (canonical r) refl)

joined_grouped : (o : Operation) (l r : Tree (List ℕ)) → IsTrue (is_grouped (canonical l)) → IsTrue (is_grouped (canonical r)) → IsTrue (is_grouped (canonical (combine o l r)))
joined_grouped intersection l r h k =
    let wl = bracketed_if (is_sum (level_of (canonical l))) (canonical l) in
    let wr = bracketed_if (not (is_atom (level_of (canonical r)))) (canonical r) in
    all_true (is_grouped wl && is_grouped wr) _ (all_true (is_grouped wl) (is_grouped wr) (bracketed_grouped (is_sum (level_of (canonical l))) (canonical l) h) (bracketed_grouped (not (is_atom (level_of (canonical r)))) (canonical r) k))
    (all_true (not (is_sum (level_of wl))) (is_atom (level_of wr)) (no_sum_by (is_sum (level_of (canonical l))) (canonical l) refl) (atom_by (not (is_atom (level_of (canonical r)))) (canonical r) refl))
joined_grouped union l r h k = loose_grouped l r h k
joined_grouped difference l r h k = loose_grouped l r h k
joined_grouped sym_difference l r h k = loose_grouped l r h k

pub canonical_grouped : (t : Tree (List ℕ)) → IsTrue (is_grouped (canonical t))
canonical_grouped (leaf n) = refl
canonical_grouped (combine o l r) = joined_grouped o l r (canonical_grouped l) (canonical_grouped r)

-- ==== No spelling has fewer tokens
bracketed_length : (w : Written) → length (written_kinds (in_brackets w)) ≡ length (written_kinds w) + 2
bracketed_length w = omega (arith, length-append (written_kinds w) (close_bracket ∷ []))

joined_length : (o : Operation) (l r : Written) → length (written_kinds (joined o l r)) ≡ length (written_kinds l) + length (written_kinds r) + 1
joined_length o l r = omega (arith, length-append (written_kinds l) (operator o ∷ written_kinds r))

abbrev pub size : Written → ℕ
size w = length (written_kinds w)

-- the one spelling of a tree has no more tokens, and two fewer where it alone needs brackets
pub record IsShortest (w : Written) : Type 0 where
  pub few : size (canonical (written_tree w)) ≤ size w
  pub by_atom : is_atom (level_of (canonical (written_tree w))) ≡ false → is_atom (level_of w) ≡ true → size (canonical (written_tree w)) + 2 ≤ size w
  pub by_sum : is_sum (level_of (canonical (written_tree w))) ≡ true → is_sum (level_of w) ≡ false → size (canonical (written_tree w)) + 2 ≤ size w

sum_fits : (b : Bool) (c w : Written) → is_sum (level_of c) ≡ b → size c ≤ size w → (is_sum (level_of c) ≡ true → size c + 2 ≤ size w) → size (bracketed_if b c) ≤ size w
sum_fits true c w e few two =
    let more : size c + 2 ≤ size w = two e in
    omega (arith, bracketed_length c)
sum_fits false c w e few two = few

atom_fits : (b : Bool) (c w : Written) → not (is_atom (level_of c)) ≡ b → size c ≤ size w → (is_atom (level_of c) ≡ false → size c + 2 ≤ size w) → size (bracketed_if b c) ≤ size w
atom_fits true c w e few two =
    let more : size c + 2 ≤ size w = two (not_true (is_atom (level_of c)) e) in
    omega (arith, bracketed_length c) where
      not_true : (a : Bool) → not a ≡ true → a ≡ false
      not_true true h = false_is_true h
      not_true false h = refl
atom_fits false c w e few two = few

not_sum : (b : Bool) → IsTrue (not b) → b ≡ false
not_sum true h = false_is_true h
not_sum false h = refl

joined_few : (o : Operation) (cl cr l r : Written) → size cl ≤ size l → size cr ≤ size r → size (joined o cl cr) ≤ size (joined o l r)
joined_few o cl cr l r h k = omega (arith, joined_length o cl cr, joined_length o l r)

loose_few : (o : Operation) (l r : Written) → IsShortest l → IsShortest r → IsTrue (not (is_sum (level_of r))) → size (joined o (canonical (written_tree l)) (bracketed_if (is_sum (level_of (canonical (written_tree r)))) (canonical (written_tree r)))) ≤ size (joined o l r)
loose_few o l r sl sr no_sum =
    let cr = canonical (written_tree r) in
    joined_few o (canonical (written_tree l)) (bracketed_if (is_sum (level_of cr)) cr) l r sl.few (sum_fits (is_sum (level_of cr)) cr r refl sr.few (λ e. sr.by_sum e (not_sum (is_sum (level_of r)) no_sum)))

times_few : (l r : Written) → IsShortest l → IsShortest r → IsTrue (not (is_sum (level_of l))) → IsTrue (is_atom (level_of r)) → size (canonical (combine intersection (written_tree l) (written_tree r))) ≤ size (joined intersection l r)
times_few l r sl sr no_sum single =
    let cl = canonical (written_tree l) in
    let cr = canonical (written_tree r) in
    joined_few intersection (bracketed_if (is_sum (level_of cl)) cl) (bracketed_if (not (is_atom (level_of cr))) cr) l r
    (sum_fits (is_sum (level_of cl)) cl l refl sl.few (λ e. sl.by_sum e (not_sum (is_sum (level_of l)) no_sum)))
    (atom_fits (not (is_atom (level_of cr))) cr r refl sr.few (λ e. sr.by_atom e single))

pub shortest : (w : Written) → IsTrue (is_grouped w) → IsShortest w
shortest (a_name n) g = record { few = omega arith; by_atom = λ e _. false_is_true (sym e); by_sum = λ e _. false_is_true e }
shortest (in_brackets w) g =
    let ih = shortest w g in
    let two : size (canonical (written_tree w)) + 2 ≤ size (in_brackets w) = omega (arith, ih.few, bracketed_length w) in
    record { few = omega (arith, two); by_atom = λ _ _. two; by_sum = λ _ _. two }
shortest (joined intersection l r) g =
    let parts = both (is_grouped l && is_grouped r) _ g in
    let each = both (is_grouped l) (is_grouped r) parts.0 in
    let fit = both (not (is_sum (level_of l))) (is_atom (level_of r)) parts.1 in
    record { few = times_few l r (shortest l each.0) (shortest r each.1) fit.0 fit.1; by_atom = λ _ e. false_is_true e; by_sum = λ e _. false_is_true e }
shortest (joined union l r) g =
    let parts = both (is_grouped l && is_grouped r) _ g in
    let each = both (is_grouped l) (is_grouped r) parts.0 in
    record { few = loose_few union l r (shortest l each.0) (shortest r each.1) parts.1; by_atom = λ _ e. false_is_true e; by_sum = λ _ e. false_is_true (sym e) }
shortest (joined difference l r) g =
    let parts = both (is_grouped l && is_grouped r) _ g in
    let each = both (is_grouped l) (is_grouped r) parts.0 in
    record { few = loose_few difference l r (shortest l each.0) (shortest r each.1) parts.1; by_atom = λ _ e. false_is_true e; by_sum = λ _ e. false_is_true (sym e) }
shortest (joined sym_difference l r) g =
    let parts = both (is_grouped l && is_grouped r) _ g in
    let each = both (is_grouped l) (is_grouped r) parts.0 in
    record { few = loose_few sym_difference l r (shortest l each.0) (shortest r each.1) parts.1; by_atom = λ _ e. false_is_true e; by_sum = λ _ e. false_is_true (sym e) }

-- ==== What is written is read back
-- the kinds of the tokens of bytes, without their places
abbrev pub kinds_in : Bool → List ℕ → List Kind
kinds_in in_name [] = []
kinds_in in_name (b ∷ bs) =
    if in_name && is_name_byte b then kinds_in in_name bs
    else (if is_blank b then kinds_in false bs
    else (if is_ascii_alphabetic b then name (name_front (b ∷ bs)) ∷ kinds_in true bs
    else sign_kind b ∷ kinds_in false bs))

if_kinds : (t : Bool) (x y : List Token) (u v : List Kind) → kinds_of x ≡ u → kinds_of y ≡ v → kinds_of (if t then x else y) ≡ (if t then u else v)
if_kinds true x y u v h k = h
if_kinds false x y u v h k = k

kinds_placed : (in_name : Bool) (at : ℕ) (bs : List ℕ) → kinds_of (tokens_after in_name at bs) ≡ kinds_in in_name bs
kinds_placed in_name at [] = refl
kinds_placed in_name at (b ∷ bs) =
    let as_sign : List Token = record { at = at; kind = sign_kind b } ∷ tokens_after false (at + 1) bs in
    let as_name : List Token = record { at = at; kind = name (name_front (b ∷ bs)) } ∷ tokens_after true (at + 1) bs in
    let no_blank : List Token = if is_ascii_alphabetic b then as_name else as_sign in
    let no_name : List Token = if is_blank b then tokens_after false (at + 1) bs else no_blank in
    let sign_kinds : List Kind = sign_kind b ∷ kinds_in false bs in
    let name_kinds : List Kind = name (name_front (b ∷ bs)) ∷ kinds_in true bs in
    let no_blank_kinds : List Kind = if is_ascii_alphabetic b then name_kinds else sign_kinds in
    let no_name_kinds : List Kind = if is_blank b then kinds_in false bs else no_blank_kinds in
    if_kinds (in_name && is_name_byte b) (tokens_after in_name (at + 1) bs) no_name (kinds_in in_name bs) no_name_kinds (kinds_placed in_name (at + 1) bs)
    (if_kinds (is_blank b) (tokens_after false (at + 1) bs) no_blank (kinds_in false bs) no_blank_kinds (kinds_placed false (at + 1) bs)
    (if_kinds (is_ascii_alphabetic b) as_name as_sign name_kinds sign_kinds (ap (λ ks. name (name_front (b ∷ bs)) ∷ ks) (kinds_placed true (at + 1) bs)) (ap (λ ks. sign_kind b ∷ ks) (kinds_placed false (at + 1) bs))))

-- no name goes on into the bytes
abbrev pub IsOutside : List ℕ → Type 0
IsOutside [] = Unit {0}
IsOutside (b ∷ bs) = is_name_byte b ≡ false

front_ends : (rest : List ℕ) → IsOutside rest → name_front rest ≡ []
front_ends [] h = refl
front_ends (b ∷ bs) h = name_stop b bs h

name_ends : (rest : List ℕ) → IsOutside rest → kinds_in true rest ≡ kinds_in false rest
name_ends [] h = refl
name_ends (b ∷ bs) h = rw h

whole_front : (n rest : List ℕ) → IsTrue (list_all is_name_byte n) → IsOutside rest → name_front (n ++ rest) ≡ n
whole_front [] rest h k = front_ends rest k
whole_front (b ∷ bs) rest h k =
    let each = both (is_name_byte b) (list_all is_name_byte bs) h in
    name_more b (bs ++ rest) each.0 ∙ ap (λ s. b ∷ s) (whole_front bs rest each.1 k)

name_passed : (n rest : List ℕ) → IsTrue (list_all is_name_byte n) → kinds_in true (n ++ rest) ≡ kinds_in true rest
name_passed [] rest h = refl
name_passed (b ∷ bs) rest h =
    let each = both (is_name_byte b) (list_all is_name_byte bs) h in
    let going : is_name_byte b ≡ true = each.0 in
    let here : kinds_in true (b ∷ (bs ++ rest)) ≡ kinds_in true (bs ++ rest) = rw going in
    here ∙ name_passed bs rest each.1

letter_kinds : (b : ℕ) (bs : List ℕ) → is_ascii_alphabetic b ≡ true → kinds_in false (b ∷ bs) ≡ name (name_front (b ∷ bs)) ∷ kinds_in true bs
letter_kinds b bs h = rw (letter_not_blank b h, h)

name_kinds : (n rest : List ℕ) → IsTrue (is_name n) → IsOutside rest → kinds_in false (n ++ rest) ≡ name n ∷ kinds_in false rest
name_kinds [] rest h k = false_is_true h
name_kinds (b ∷ bs) rest h k =
    let parts = both (is_ascii_alphabetic b && _) (list_all is_name_byte (b ∷ bs)) h in
    let letter : is_ascii_alphabetic b ≡ true = (both (is_ascii_alphabetic b) _ parts.0).0 in
    let each = both (is_name_byte b) (list_all is_name_byte bs) parts.1 in
    letter_kinds b (bs ++ rest) letter
    ∙ ap (λ n. name n ∷ kinds_in true (bs ++ rest)) (whole_front (b ∷ bs) rest parts.1 k)
    ∙ ap (λ ks. name (b ∷ bs) ∷ ks) (name_passed bs rest each.1 ∙ name_ends rest k)

abbrev pub AreNames : Written → Type 0
AreNames w = IsTrue (list_all is_name (leaves (written_tree w)))

names_joined : (o : Operation) (l r : Written) → AreNames (joined o l r) → AreNames l × AreNames r
names_joined o l r h =
    both (list_all is_name (leaves (written_tree l))) (list_all is_name (leaves (written_tree r))) (sym (list_all-append is_name (leaves (written_tree l)) (leaves (written_tree r))) ∙ h)

sign_kinds : (o : Operation) (s : List ℕ) → IsOutside (operation_text o ++ s) × (kinds_in false (operation_text o ++ s) ≡ operator o ∷ kinds_in false s)
sign_kinds intersection s = (refl, refl)
sign_kinds union s = (refl, refl)
sign_kinds difference s = (refl, refl)
sign_kinds sym_difference s = (refl, refl)

pub text_kinds : (w : Written) (rest : List ℕ) → AreNames w → IsOutside rest → kinds_in false (written_text w ++ rest) ≡ written_kinds w ++ kinds_in false rest
text_kinds (a_name n) rest h k = name_kinds n rest (both (is_name n) true h).0 k
text_kinds (in_brackets w) rest h k =
    ap (λ s. open_bracket ∷ kinds_in false s) (append_assoc (written_text w) (41 ∷ []) rest)
    ∙ ap (λ ks. open_bracket ∷ ks) (text_kinds w (41 ∷ rest) h refl)
    ∙ ap (λ ks. open_bracket ∷ ks) (sym (append_assoc (written_kinds w) (close_bracket ∷ []) (kinds_in false rest)))
text_kinds (joined o l r) rest h k =
    let each = names_joined o l r h in
    let sign = sign_kinds o (written_text r ++ rest) in
    ap (kinds_in false) (append_assoc (written_text l) (operation_text o ++ written_text r) rest ∙ ap (λ s. written_text l ++ s) (append_assoc (operation_text o) (written_text r) rest))
    ∙ text_kinds l (operation_text o ++ (written_text r ++ rest)) each.0 sign.0
    ∙ ap (λ ks. written_kinds l ++ ks) (sign.1 ∙ ap (λ ks. operator o ∷ ks) (text_kinds r rest each.1 k))
    ∙ sym (append_assoc (written_kinds l) (operator o ∷ written_kinds r) (kinds_in false rest))

-- the names among the tokens are the leaves
pub good_kinds : (w : Written) → list_all is_good (written_kinds w) ≡ list_all is_name (leaves (written_tree w))
good_kinds (a_name n) = refl
good_kinds (in_brackets w) = list_all-append is_good (written_kinds w) (close_bracket ∷ []) ∙ and-true (list_all is_good (written_kinds w)) ∙ good_kinds w
good_kinds (joined o l r) =
    list_all-append is_good (written_kinds l) (operator o ∷ written_kinds r)
    ∙ ap (λ b. b && list_all is_good (written_kinds r)) (good_kinds l)
    ∙ ap (λ b. list_all is_name (leaves (written_tree l)) && b) (good_kinds r)
    ∙ sym (list_all-append is_name (leaves (written_tree l)) (leaves (written_tree r)))

-- the tokens of what is written
text_spells : (t : Tree (List ℕ)) → IsTrue (list_all is_name (leaves t)) → kinds_of (tokens_of (expression_text t)) ≡ written_kinds (canonical t)
text_spells t h =
    let w = canonical t in
    let names : AreNames w = subst (λ u. IsTrue (list_all is_name (leaves u))) (sym (canonical_tree t)) h in
    kinds_placed false 0 (written_text w) ∙ ap (kinds_in false) (sym (append-nil (written_text w))) ∙ text_kinds w [] names tt ∙ append-nil (written_kinds w)

pub text_size : (t : Tree (List ℕ)) → IsExpression t → length (tokens_of (expression_text t)) ≡ size (canonical t)
text_size t h = sym (length-map (tokens_of (expression_text t)) (λ (u : Token). u.kind)) ∙ ap length (text_spells t h.0)

pub reads_back : (t : Tree (List ℕ)) → IsExpression t → ReadsAs (expression_text t) t
reads_back t h =
    let w = canonical t in
    let ts = tokens_of (expression_text t) in
    let names : AreNames w = subst (λ u. IsTrue (list_all is_name (leaves u))) (sym (canonical_tree t)) h.0 in
    let kinds : kinds_of ts ≡ written_kinds w = text_spells t h.0 in
    let sized : length ts ≡ length (written_kinds w) = text_size t h in
    let good : IsTrue (list_all is_good (kinds_of ts)) = ap (list_all is_good) kinds ∙ good_kinds w ∙ names in
    let spells : Spells ts w = record { grouped = canonical_grouped t; spelled = kinds } in
    let begun : IsBegun ts = ([], (w, subst (λ us. Spells us w) (sym (append-nil ts)) spells)) in
    let few : length ts ≤ tokens_max = omega (arith, h.1, sized) in
    (w, spells, record { begun = begun; few = few; names = all_short ts (tokens_shaped false 0 (expression_text t)) good }, sym (canonical_tree t))

-- ==== What is read is an expression
short_good : (ts : List Token) → IsShaped ts → All (λ token. IsTrue (is_name_short token)) ts → IsTrue (list_all is_good (kinds_of ts))
short_good [] shaped h = refl
short_good (t ∷ ts) shaped h =
    let here : IsTrue (is_name_short t) = All-head (λ token. IsTrue (is_name_short token)) t ts h in
    all_true (is_good t.kind) (list_all is_good (kinds_of ts)) (shaped.0 ∙ here) (short_good ts shaped.1 (All-tail (λ token. IsTrue (is_name_short token)) t ts h))

pub read_is_expression : (bytes : List ℕ) (t : Tree (List ℕ)) → ReadsAs bytes t → IsExpression t
read_is_expression bytes t h =
    let w = h.0 in
    let ts = tokens_of bytes in
    let good = short_good ts (tokens_shaped false 0 bytes) h.2.names in
    let names : IsTrue (list_all is_name (leaves (written_tree w))) = sym (good_kinds w) ∙ ap (list_all is_good) (sym h.1.spelled) ∙ good in
    let fewest : size (canonical (written_tree w)) ≤ size w = (shortest w h.1.grouped).few in
    let sized : length ts ≡ size w = sym (length-map ts (λ (u : Token). u.kind)) ∙ ap length h.1.spelled in
    let few : size (canonical (written_tree w)) ≤ tokens_max = omega (arith, fewest, sized, h.2.few) in
    subst IsExpression (sym h.3) (names, few)
