-- The reader's state and the grammar: each expression is read to its end, and what was read is one.
use Rattle.std.proofs.Common.{◌≡◌, ℕ, Bool, true, false, not, ◌&&◌, List, [], ◌∷◌, ◌++◌, refl, ap, sym, subst, ◌∙◌, append_assoc, append-nil}
use Rattle.std.specs.Prelude.{IsTrue, Option, Some, None, option_and_then}
use Rattle.overlay_terms.specs.Trees.{Operation, intersection, union, difference, sym_difference, Tree}
use Rattle.layer_expr.specs.Token.{Kind, name, operator, open_bracket, close_bracket, stray}
use Rattle.layer_expr.specs.Grammar.{Written, a_name, in_brackets, joined, Level, atom, product, sum, level_of, is_atom, is_sum, is_intersection, is_grouped, written_kinds, written_tree}
use Rattle.layer_expr.specs.ReaderState.{Making, written_making, tree_making, Frame, frame, ReaderState, awaits, holds, times, plus, after_operator, moved, after_kinds, at_start, finished}

abbrev pub W : Making Written
W = written_making

-- tests that hold together
pub both : (a b : Bool) → IsTrue (a && b) → IsTrue a × IsTrue b
both true b h = (refl, h)
both false b h = absurd (cc)

-- what is read of some tokens and then of more
pub after_kinds-append : {A : Type 0} (m : Making A) (s : Option (ReaderState A)) (xs ys : List Kind) → after_kinds m s (xs ++ ys) ≡ after_kinds m (after_kinds m s xs) ys
after_kinds-append m s [] ys = refl
after_kinds-append m s (k ∷ xs) ys = after_kinds-append m (option_and_then (moved m k) s) xs ys

pub after_kinds-none : {A : Type 0} (m : Making A) (ks : List Kind) → after_kinds m None ks ≡ None
after_kinds-none m [] = refl
after_kinds-none m (k ∷ ks) = after_kinds-none m ks

-- the sum that waits before the last product of what is written, and that product
abbrev pub left_of : Written → Option (Operation × Written)
left_of (a_name n) = None
left_of (in_brackets w) = None
left_of (joined intersection l r) = None
left_of (joined union l r) = Some (union, l)
left_of (joined difference l r) = Some (difference, l)
left_of (joined sym_difference l r) = Some (sym_difference, l)

abbrev pub last_of : Written → Written
last_of (a_name n) = a_name n
last_of (in_brackets w) = in_brackets w
last_of (joined intersection l r) = joined intersection l r
last_of (joined union l r) = r
last_of (joined difference l r) = r
last_of (joined sym_difference l r) = r

pub plus-whole : (w : Written) → plus W (left_of w) (last_of w) ≡ w
plus-whole (a_name n) = refl
plus-whole (in_brackets w) = refl
plus-whole (joined intersection l r) = refl
plus-whole (joined union l r) = refl
plus-whole (joined difference l r) = refl
plus-whole (joined sym_difference l r) = refl

-- what is written is read to its end, as an atom, as a product and as a sum, whatever is round it
pub record IsRead (w : Written) : Type 0 where
  pub as_atom : IsTrue (is_atom (level_of w)) → (outer : List (Frame Written)) (left : Option (Operation × Written)) (factor : Option Written) → after_kinds W (Some (awaits outer left factor)) (written_kinds w) ≡ Some (holds outer left (times W factor w))
  pub as_product : IsTrue (not (is_sum (level_of w))) → (outer : List (Frame Written)) (left : Option (Operation × Written)) → after_kinds W (Some (awaits outer left None)) (written_kinds w) ≡ Some (holds outer left w)
  pub as_sum : (outer : List (Frame Written)) → after_kinds W (Some (awaits outer None None)) (written_kinds w) ≡ Some (holds outer (left_of w) (last_of w))

-- an operator that is no `&`
abbrev pub IsLoose : Operation → Type 0
IsLoose o = (outer : List (Frame Written)) (left : Option (Operation × Written)) (a : Written) → after_operator W o outer left a ≡ awaits outer (Some (o, plus W left a)) None

pub read_name : (n : List ℕ) → IsRead (a_name n)
read_name n = record { as_atom = λ _ outer left factor. refl; as_product = λ _ outer left. refl; as_sum = λ outer. refl }

pub read_brackets : (w : Written) → IsRead w → (outer : List (Frame Written)) (left : Option (Operation × Written)) (factor : Option Written) → after_kinds W (Some (awaits outer left factor)) (written_kinds (in_brackets w)) ≡ Some (holds outer left (times W factor (in_brackets w)))
read_brackets w ih outer left factor =
    after_kinds-append W (Some (awaits (frame left factor ∷ outer) None None)) (written_kinds w) (close_bracket ∷ [])
    ∙ ap (λ s. after_kinds W s (close_bracket ∷ [])) (ih.as_sum (frame left factor ∷ outer))
    ∙ ap (λ u. Some (holds outer left (times W factor (in_brackets u)))) (plus-whole w)

pub read_product : (l r : Written) → IsRead l → IsRead r → IsTrue (not (is_sum (level_of l))) → IsTrue (is_atom (level_of r)) → (outer : List (Frame Written)) (left : Option (Operation × Written)) → after_kinds W (Some (awaits outer left None)) (written_kinds (joined intersection l r)) ≡ Some (holds outer left (joined intersection l r))
read_product l r on_left on_right no_sum single outer left =
    after_kinds-append W (Some (awaits outer left None)) (written_kinds l) (operator intersection ∷ written_kinds r)
    ∙ ap (λ s. after_kinds W s (operator intersection ∷ written_kinds r)) (on_left.as_product no_sum outer left)
    ∙ on_right.as_atom single outer left (Some l)

pub read_sum : (o : Operation) → IsLoose o → (l r : Written) → IsRead l → IsRead r → IsTrue (not (is_sum (level_of r))) → (outer : List (Frame Written)) → after_kinds W (Some (awaits outer None None)) (written_kinds l ++ operator o ∷ written_kinds r) ≡ Some (holds outer (Some (o, l)) r)
read_sum o loose l r on_left on_right no_sum outer =
    after_kinds-append W (Some (awaits outer None None)) (written_kinds l) (operator o ∷ written_kinds r)
    ∙ ap (λ s. after_kinds W s (operator o ∷ written_kinds r)) (on_left.as_sum outer)
    ∙ ap (λ s. after_kinds W (Some s) (written_kinds r)) (loose outer (left_of l) (last_of l))
    ∙ ap (λ u. after_kinds W (Some (awaits outer (Some (o, u)) None)) (written_kinds r)) (plus-whole l)
    ∙ on_right.as_product no_sum outer (Some (o, l))

pub false_is_true : {A : Type 0} → false ≡ true → A
false_is_true h = absurd (cc)

pub is_read : (w : Written) → IsTrue (is_grouped w) → IsRead w
is_read (a_name n) g = read_name n
is_read (in_brackets w) g =
    let ih = is_read w g in
    record { as_atom = λ _ outer left factor. read_brackets w ih outer left factor; as_product = λ _ outer left. read_brackets w ih outer left None; as_sum = λ outer. read_brackets w ih outer None None }
is_read (joined intersection l r) g =
    let parts = both (is_grouped l && is_grouped r) _ g in
    let each = both (is_grouped l) (is_grouped r) parts.0 in
    let fit = both (not (is_sum (level_of l))) (is_atom (level_of r)) parts.1 in
    let on_left = is_read l each.0 in
    let on_right = is_read r each.1 in
    record { as_atom = λ h. false_is_true h; as_product = λ _ outer left. read_product l r on_left on_right fit.0 fit.1 outer left; as_sum = λ outer. read_product l r on_left on_right fit.0 fit.1 outer None }
is_read (joined union l r) g =
    let parts = both (is_grouped l && is_grouped r) _ g in
    let each = both (is_grouped l) (is_grouped r) parts.0 in
    let whole = read_sum union (λ outer left a. refl) l r (is_read l each.0) (is_read r each.1) parts.1 in
    record { as_atom = λ h. false_is_true h; as_product = λ h. false_is_true h; as_sum = whole }
is_read (joined difference l r) g =
    let parts = both (is_grouped l && is_grouped r) _ g in
    let each = both (is_grouped l) (is_grouped r) parts.0 in
    let whole = read_sum difference (λ outer left a. refl) l r (is_read l each.0) (is_read r each.1) parts.1 in
    record { as_atom = λ h. false_is_true h; as_product = λ h. false_is_true h; as_sum = whole }
is_read (joined sym_difference l r) g =
    let parts = both (is_grouped l && is_grouped r) _ g in
    let each = both (is_grouped l) (is_grouped r) parts.0 in
    let whole = read_sum sym_difference (λ outer left a. refl) l r (is_read l each.0) (is_read r each.1) parts.1 in
    record { as_atom = λ h. false_is_true h; as_product = λ h. false_is_true h; as_sum = whole }

-- an expression is read to its end, and is what the reader then has; so its tokens have one spelling
pub read_whole : (w : Written) → IsTrue (is_grouped w) → after_kinds W (Some at_start) (written_kinds w) ≡ Some (holds [] (left_of w) (last_of w))
read_whole w g = (is_read w g).as_sum []

pub one_spelling : (v w : Written) → IsTrue (is_grouped v) → IsTrue (is_grouped w) → written_kinds v ≡ written_kinds w → v ≡ w
one_spelling v w gv gw same =
    let ends : Some (holds [] (left_of v) (last_of v)) ≡ Some (holds [] (left_of w) (last_of w)) = sym (read_whole v gv) ∙ ap (after_kinds W (Some at_start)) same ∙ read_whole w gw in
    let lefts : left_of v ≡ left_of w = cc in
    let lasts : last_of v ≡ last_of w = cc in
    sym (plus-whole v) ∙ ap (λ left. plus W left (last_of v)) lefts ∙ ap (λ last. plus W (left_of w) last) lasts ∙ plus-whole w

-- the tokens that come one after another where a reader is
abbrev pub left_kinds : Option (Operation × Written) → List Kind
left_kinds None = []
left_kinds (Some l) = written_kinds l.1 ++ operator l.0 ∷ []

abbrev pub factor_kinds : Option Written → List Kind
factor_kinds None = []
factor_kinds (Some l) = written_kinds l ++ operator intersection ∷ []

abbrev pub outer_kinds : List (Frame Written) → List Kind
outer_kinds [] = []
outer_kinds (frame left factor ∷ outer) = outer_kinds outer ++ (left_kinds left ++ (factor_kinds factor ++ open_bracket ∷ []))

abbrev pub state_kinds : ReaderState Written → List Kind
state_kinds (awaits outer left factor) = outer_kinds outer ++ (left_kinds left ++ factor_kinds factor)
state_kinds (holds outer left a) = outer_kinds outer ++ (left_kinds left ++ written_kinds a)

-- what waits there groups as the grammar says
abbrev pub IsLeft : Option (Operation × Written) → Type 0
IsLeft None = Unit {0}
IsLeft (Some l) = IsTrue (is_grouped l.1) × IsTrue (not (is_intersection l.0))

abbrev pub IsFactor : Option Written → Type 0
IsFactor None = Unit {0}
IsFactor (Some l) = IsTrue (is_grouped l) × IsTrue (not (is_sum (level_of l)))

abbrev pub IsOuter : List (Frame Written) → Type 0
IsOuter [] = Unit {0}
IsOuter (frame left factor ∷ outer) = IsLeft left × IsFactor factor × IsOuter outer

abbrev pub IsSound : ReaderState Written → Type 0
IsSound (awaits outer left factor) = IsOuter outer × IsLeft left × IsFactor factor
IsSound (holds outer left a) = IsOuter outer × IsLeft left × IsFactor (Some a)

-- where the reader is after some tokens is sound, and they are the tokens
abbrev pub Fits : List Kind → Option (ReaderState Written) → Type 0
Fits ks None = Unit {0}
Fits ks (Some s) = IsSound s × (state_kinds s ≡ ks)

-- the product and the sum that an operand ends
times-kinds : (factor : Option Written) (a : Written) → factor_kinds factor ++ written_kinds a ≡ written_kinds (times W factor a)
times-kinds None a = refl
times-kinds (Some l) a = append_assoc (written_kinds l) (operator intersection ∷ []) (written_kinds a)

plus-kinds : (left : Option (Operation × Written)) (a : Written) → left_kinds left ++ written_kinds a ≡ written_kinds (plus W left a)
plus-kinds None a = refl
plus-kinds (Some l) a = append_assoc (written_kinds l.1) (operator l.0 ∷ []) (written_kinds a)

atom-no_sum : (l : Level) → IsTrue (is_atom l) → IsTrue (not (is_sum l))
atom-no_sum atom h = refl
atom-no_sum product h = refl
atom-no_sum sum h = false_is_true h

pub all_true : (a b : Bool) → IsTrue a → IsTrue b → IsTrue (a && b)
all_true true b h k = k
all_true false b h k = false_is_true h

times-sound : (factor : Option Written) (a : Written) → IsFactor factor → IsTrue (is_grouped a) → IsTrue (is_atom (level_of a)) → IsFactor (Some (times W factor a))
times-sound None a h g single = (g, atom-no_sum (level_of a) single)
times-sound (Some l) a h g single = (all_true (is_grouped l && is_grouped a) _ (all_true (is_grouped l) (is_grouped a) h.0 g) (all_true (not (is_sum (level_of l))) (is_atom (level_of a)) h.1 single), refl)

plus-sound : (left : Option (Operation × Written)) (a : Written) → IsLeft left → IsFactor (Some a) → IsTrue (is_grouped (plus W left a))
plus-sound None a h k = k.0
plus-sound (Some (intersection, l)) a h k = false_is_true h.1
plus-sound (Some (union, l)) a h k = all_true (is_grouped l && is_grouped a) _ (all_true (is_grouped l) (is_grouped a) h.0 k.0) k.1
plus-sound (Some (difference, l)) a h k = all_true (is_grouped l && is_grouped a) _ (all_true (is_grouped l) (is_grouped a) h.0 k.0) k.1
plus-sound (Some (sym_difference, l)) a h k = all_true (is_grouped l && is_grouped a) _ (all_true (is_grouped l) (is_grouped a) h.0 k.0) k.1

-- one more token at the end of the parts
four : (a b c : List Kind) (k : Kind) → a ++ (b ++ (c ++ k ∷ [])) ≡ (a ++ (b ++ c)) ++ k ∷ []
four a b c k = simp append_assoc

loose-kinds : (outer : List (Frame Written)) (left : Option (Operation × Written)) (a : Written) (o : Operation) → outer_kinds outer ++ ((written_kinds (plus W left a) ++ operator o ∷ []) ++ []) ≡ (outer_kinds outer ++ (left_kinds left ++ written_kinds a)) ++ operator o ∷ []
loose-kinds outer left a o =
    ap (λ xs. outer_kinds outer ++ xs) (append-nil (written_kinds (plus W left a) ++ operator o ∷ []))
    ∙ ap (λ xs. outer_kinds outer ++ (xs ++ operator o ∷ [])) (sym (plus-kinds left a))
    ∙ sym (append_assoc (outer_kinds outer) (left_kinds left ++ written_kinds a) (operator o ∷ []))

bracket-kinds : (xs ls fs ins : List Kind) → xs ++ (ls ++ (fs ++ open_bracket ∷ (ins ++ close_bracket ∷ []))) ≡ ((xs ++ (ls ++ (fs ++ open_bracket ∷ []))) ++ ins) ++ close_bracket ∷ []
bracket-kinds xs ls fs ins = simp append_assoc

pub moved-fits : (k : Kind) (s : ReaderState Written) → IsSound s → Fits (state_kinds s ++ k ∷ []) (moved W k s)
moved-fits (name n) (awaits outer left factor) h = (
  (h.0, h.1, times-sound factor (a_name n) h.2 refl refl),
  ap (λ xs. outer_kinds outer ++ (left_kinds left ++ xs)) (sym (times-kinds factor (a_name n))) ∙ four (outer_kinds outer) (left_kinds left) (factor_kinds factor) (name n),
)
moved-fits (operator o) (awaits outer left factor) h = tt
moved-fits open_bracket (awaits outer left factor) h =
    (((h.1, h.2, h.0), tt, tt), append-nil (outer_kinds (frame left factor ∷ outer)) ∙ four (outer_kinds outer) (left_kinds left) (factor_kinds factor) open_bracket)
moved-fits close_bracket (awaits outer left factor) h = tt
moved-fits stray (awaits outer left factor) h = tt
moved-fits (name n) (holds outer left a) h = tt
moved-fits (operator intersection) (holds outer left a) h = (h, four (outer_kinds outer) (left_kinds left) (written_kinds a) (operator intersection))
moved-fits (operator union) (holds outer left a) h = ((h.0, (plus-sound left a h.1 h.2, refl), tt), loose-kinds outer left a union)
moved-fits (operator difference) (holds outer left a) h = ((h.0, (plus-sound left a h.1 h.2, refl), tt), loose-kinds outer left a difference)
moved-fits (operator sym_difference) (holds outer left a) h = ((h.0, (plus-sound left a h.1 h.2, refl), tt), loose-kinds outer left a sym_difference)
moved-fits open_bracket (holds outer left a) h = tt
moved-fits close_bracket (holds [] left a) h = tt
moved-fits close_bracket (holds (frame l f ∷ outer) left a) h = (
  (h.0.2, h.0.0, times-sound f (in_brackets (plus W left a)) h.0.1 (plus-sound left a h.1 h.2) refl),
  ap (λ xs. outer_kinds outer ++ (left_kinds l ++ xs)) (sym (times-kinds f (in_brackets (plus W left a))))
      ∙ ap (λ xs. outer_kinds outer ++ (left_kinds l ++ (factor_kinds f ++ open_bracket ∷ (xs ++ close_bracket ∷ [])))) (sym (plus-kinds left a))
      ∙ bracket-kinds (outer_kinds outer) (left_kinds l) (factor_kinds f) (left_kinds left ++ written_kinds a),
)
moved-fits stray (holds outer left a) h = tt

pub moved-fits_any : (ks : List Kind) (s : Option (ReaderState Written)) (k : Kind) → Fits ks s → Fits (ks ++ k ∷ []) (option_and_then (moved W k) s)
moved-fits_any ks None k h = tt
moved-fits_any ks (Some s) k h = subst (λ xs. Fits (xs ++ k ∷ []) (moved W k s)) h.1 (moved-fits k s h.0)

pub all-fits : (done : List Kind) (s : Option (ReaderState Written)) (ks : List Kind) → Fits done s → Fits (done ++ ks) (after_kinds W s ks)
all-fits done s [] h = subst (λ xs. Fits xs s) (sym (append-nil done)) h
all-fits done s (k ∷ ks) h =
    subst (λ xs. Fits xs (after_kinds W (option_and_then (moved W k) s) ks)) (append_assoc done (k ∷ []) ks) (all-fits (done ++ k ∷ []) (option_and_then (moved W k) s) ks (moved-fits_any done s k h))

pub start-fits : (ks : List Kind) → Fits ks (after_kinds W (Some at_start) ks)
start-fits ks = all-fits [] (Some at_start) ks ((tt, tt, tt), refl)

-- the tokens are those of an expression
abbrev pub Spelled : List Kind → Written → Type 0
Spelled ks w = IsTrue (is_grouped w) × (ks ≡ written_kinds w)

abbrev pub IsWhole : List Kind → Option Written → Type 0
IsWhole ks None = Unit {0}
IsWhole ks (Some w) = Spelled ks w

pub finished-whole : (ks : List Kind) (s : ReaderState Written) → Fits ks (Some s) → IsWhole ks (finished W s)
finished-whole ks (awaits outer left factor) h = tt
finished-whole ks (holds [] left a) h = (plus-sound left a h.0.1 h.0.2, sym h.1 ∙ plus-kinds left a)
finished-whole ks (holds (f ∷ outer) left a) h = tt

-- with some more tokens they are those of an expression: with a name where an operand comes next, and the closing brackets
abbrev pub Begun : List Kind → Type 0
Begun ks = (more : List Kind) × (w : Written) × Spelled (ks ++ more) w

pub closing : (outer : List (Frame Written)) (ks : List Kind) (left : Option (Operation × Written)) (a : Written) → Fits ks (Some (holds outer left a)) → Begun ks
closing [] ks left a h =
    let whole = finished-whole ks (holds [] left a) h in
    ([], plus W left a, (whole.0, append-nil ks ∙ whole.1))
closing (frame l f ∷ outer) ks left a h =
    let more = closing outer (ks ++ close_bracket ∷ []) l (times W f (in_brackets (plus W left a))) (moved-fits_any ks (Some (holds (frame l f ∷ outer) left a)) close_bracket h) in
    (close_bracket ∷ more.0, more.1, (more.2.0, sym (append_assoc ks (close_bracket ∷ []) more.0) ∙ more.2.1))

pub begun : (ks : List Kind) (s : ReaderState Written) → Fits ks (Some s) → Begun ks
begun ks (holds outer left a) h = closing outer ks left a h
begun ks (awaits outer left factor) h =
    let more = closing outer (ks ++ name [] ∷ []) left (times W factor (a_name [])) (moved-fits_any ks (Some (awaits outer left factor)) (name []) h) in
    (name [] ∷ more.0, more.1, (more.2.0, sym (append_assoc ks (name [] ∷ []) more.0) ∙ more.2.1))

-- where a token cannot stand there, no more tokens make an expression of them
pub not_begun : (ks : List Kind) → after_kinds W (Some at_start) ks ≡ None → Begun ks → ⊥
not_begun ks dead b =
    let gone : after_kinds W (Some at_start) (ks ++ b.0) ≡ None = after_kinds-append W (Some at_start) ks b.0 ∙ ap (λ s. after_kinds W s b.0) dead ∙ after_kinds-none W b.0 in
    let there : after_kinds W (Some at_start) (ks ++ b.0) ≡ Some (holds [] (left_of b.1) (last_of b.1)) = ap (after_kinds W (Some at_start)) b.2.1 ∙ read_whole b.1 b.2.0 in
    absurd (cc)

-- the same without the brackets that are written
abbrev pub T : Making (Tree (List ℕ))
T = tree_making

abbrev pub bare_left : Option (Operation × Written) → Option (Operation × Tree (List ℕ))
bare_left None = None
bare_left (Some l) = Some (l.0, written_tree l.1)

abbrev pub bare_factor : Option Written → Option (Tree (List ℕ))
bare_factor None = None
bare_factor (Some l) = Some (written_tree l)

abbrev pub bare_outer : List (Frame Written) → List (Frame (Tree (List ℕ)))
bare_outer [] = []
bare_outer (frame left factor ∷ outer) = frame (bare_left left) (bare_factor factor) ∷ bare_outer outer

abbrev pub bare : ReaderState Written → ReaderState (Tree (List ℕ))
bare (awaits outer left factor) = awaits (bare_outer outer) (bare_left left) (bare_factor factor)
bare (holds outer left a) = holds (bare_outer outer) (bare_left left) (written_tree a)

abbrev pub bare_any : Option (ReaderState Written) → Option (ReaderState (Tree (List ℕ)))
bare_any None = None
bare_any (Some s) = Some (bare s)

times-bare : (factor : Option Written) (a : Written) → written_tree (times W factor a) ≡ times T (bare_factor factor) (written_tree a)
times-bare None a = refl
times-bare (Some l) a = refl

plus-bare : (left : Option (Operation × Written)) (a : Written) → written_tree (plus W left a) ≡ plus T (bare_left left) (written_tree a)
plus-bare None a = refl
plus-bare (Some l) a = refl

moved-bare : (k : Kind) (s : ReaderState Written) → bare_any (moved W k s) ≡ moved T k (bare s)
moved-bare (name n) (awaits outer left factor) = ap (λ a. Some (holds (bare_outer outer) (bare_left left) a)) (times-bare factor (a_name n))
moved-bare (operator o) (awaits outer left factor) = refl
moved-bare open_bracket (awaits outer left factor) = refl
moved-bare close_bracket (awaits outer left factor) = refl
moved-bare stray (awaits outer left factor) = refl
moved-bare (name n) (holds outer left a) = refl
moved-bare (operator intersection) (holds outer left a) = refl
moved-bare (operator union) (holds outer left a) = ap (λ p. Some (awaits (bare_outer outer) (Some (union, p)) None)) (plus-bare left a)
moved-bare (operator difference) (holds outer left a) = ap (λ p. Some (awaits (bare_outer outer) (Some (difference, p)) None)) (plus-bare left a)
moved-bare (operator sym_difference) (holds outer left a) = ap (λ p. Some (awaits (bare_outer outer) (Some (sym_difference, p)) None)) (plus-bare left a)
moved-bare open_bracket (holds outer left a) = refl
moved-bare close_bracket (holds [] left a) = refl
moved-bare close_bracket (holds (frame l f ∷ outer) left a) =
    ap (λ p. Some (holds (bare_outer outer) (bare_left l) p)) (times-bare f (in_brackets (plus W left a)))
    ∙ ap (λ p. Some (holds (bare_outer outer) (bare_left l) (times T (bare_factor f) p))) (plus-bare left a)
moved-bare stray (holds outer left a) = refl

moved-bare_any : (k : Kind) (s : Option (ReaderState Written)) → bare_any (option_and_then (moved W k) s) ≡ option_and_then (moved T k) (bare_any s)
moved-bare_any k None = refl
moved-bare_any k (Some s) = moved-bare k s

pub all-bare : (s : Option (ReaderState Written)) (ks : List Kind) → bare_any (after_kinds W s ks) ≡ after_kinds T (bare_any s) ks
all-bare s [] = refl
all-bare s (k ∷ ks) = all-bare (option_and_then (moved W k) s) ks ∙ ap (λ o. after_kinds T o ks) (moved-bare_any k s)

-- a reader of trees, after tokens that can stand there: they may begin an expression
pub begun_by : (ks : List Kind) (s : Option (ReaderState Written)) (t : ReaderState (Tree (List ℕ))) → Fits ks s → bare_any s ≡ Some t → Begun ks
begun_by ks None t h e = absurd (cc)
begun_by ks (Some s) t h e = begun ks s h

pub tree_begun : (ks : List Kind) (t : ReaderState (Tree (List ℕ))) → after_kinds T (Some at_start) ks ≡ Some t → Begun ks
tree_begun ks t e = begun_by ks (after_kinds W (Some at_start) ks) t (start-fits ks) (all-bare (Some at_start) ks ∙ e)

none_bare : (s : Option (ReaderState Written)) → bare_any s ≡ None → s ≡ None
none_bare None e = refl
none_bare (Some s) e = absurd (cc)

pub tree_not_begun : (ks : List Kind) → after_kinds T (Some at_start) ks ≡ None → Begun ks → ⊥
tree_not_begun ks dead = not_begun ks (none_bare (after_kinds W (Some at_start) ks) (all-bare (Some at_start) ks ∙ dead))

-- where it ends
abbrev pub SpelledAs : List Kind → Tree (List ℕ) → Type 0
SpelledAs ks tree = (w : Written) × Spelled ks w × (tree ≡ written_tree w)

finished_by : (ks : List Kind) (s : ReaderState Written) (tree : Tree (List ℕ)) → Fits ks (Some s) → finished T (bare s) ≡ Some tree → SpelledAs ks tree
finished_by ks (awaits outer left factor) tree h e = absurd (cc)
finished_by ks (holds [] left a) tree h e =
    let whole = finished-whole ks (holds [] left a) h in
    let same : plus T (bare_left left) (written_tree a) ≡ tree = cc in
    (plus W left a, whole, sym same ∙ sym (plus-bare left a))
finished_by ks (holds (frame l f ∷ outer) left a) tree h e = absurd (cc)

ended_by : (ks : List Kind) (s : Option (ReaderState Written)) (t : ReaderState (Tree (List ℕ))) (tree : Tree (List ℕ)) → Fits ks s → bare_any s ≡ Some t → finished T t ≡ Some tree → SpelledAs ks tree
ended_by ks None t tree h e f = absurd (cc)
ended_by ks (Some s) t tree h e f =
    let same : bare s ≡ t = cc in
    finished_by ks s tree h (ap (finished T) same ∙ f)

pub tree_finished : (ks : List Kind) (t : ReaderState (Tree (List ℕ))) (tree : Tree (List ℕ)) → after_kinds T (Some at_start) ks ≡ Some t → finished T t ≡ Some tree → SpelledAs ks tree
tree_finished ks t tree e f = ended_by ks (after_kinds W (Some at_start) ks) t tree (start-fits ks) (all-bare (Some at_start) ks ∙ e) f

pub tree_not_finished : (ks : List Kind) (t : ReaderState (Tree (List ℕ))) → after_kinds T (Some at_start) ks ≡ Some t → finished T t ≡ None → (w : Written) → Spelled ks w → ⊥
tree_not_finished ks t e f w h =
    let end : after_kinds W (Some at_start) ks ≡ Some (holds [] (left_of w) (last_of w)) = ap (after_kinds W (Some at_start)) h.1 ∙ read_whole w h.0 in
    let there : bare_any (after_kinds W (Some at_start) ks) ≡ Some t = all-bare (Some at_start) ks ∙ e in
    let ended : bare_any (after_kinds W (Some at_start) ks) ≡ Some (holds [] (bare_left (left_of w)) (written_tree (last_of w))) = ap bare_any end in
    let same : t ≡ holds [] (bare_left (left_of w)) (written_tree (last_of w)) = cc in
    let none : finished T (holds [] (bare_left (left_of w)) (written_tree (last_of w))) ≡ None = ap (finished T) (sym same) ∙ f in
    absurd (cc)
