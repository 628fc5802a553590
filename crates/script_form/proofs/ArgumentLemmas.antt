-- How an argument of each kind is read: exactly where it is, with what comes after it.
use Rattle.std.proofs.Common.{◌≡◌, ℕ, ℤ, pos, ◌==◌, Bool, true, false, not, ◌&&◌, List, [], ◌∷◌, ◌++◌, refl, sym, ap, ◌∙◌, inl, inr, arith, Option, Some, None, option_map, option_and_then}
use Rattle.std.specs.List.{list_all, take_while}
use Rattle.std.proofs.lemmas.Bool.{and_parts, not-true, cond-true, cond-false, eqb-true}
use Rattle.overlay_terms.specs.Blank.{is_blank}
use Rattle.script_form.specs.Lines.{is_gap}
use Rattle.script_form.specs.Words.{is_word_byte, is_name_side, is_empty, skip_while, number_of, some_front, front_at, word_at, number_in, number_at, after_sign}
use Rattle.script_form.specs.Requests.{ArgumentKind, a_word, a_number, a_number_or_one, a_left_side, a_right_side, a_text, Value, argument_at}
use Rattle.script_form.specs.Shapes.{AreSome, IsNext, IsNextNumber, IsArgument}
use Rattle.script_form.proofs.Fronts.{either, parts, front_passes, rest_fails, some_is, skip_front, take_front, begins_some, some_bytes, not_empty}

-- what is true of a value and of what comes after it, if they were found
abbrev pub Tells : {A : Type 0} → (A → List ℕ → Type 0) → Option (A × List ℕ) → Type 0
Tells is None = Unit {0}
Tells is (Some (value, behind)) = is value behind

weaker : {A : Type 0} (P Q : A → List ℕ → Type 0) → ((value : A) (behind : List ℕ) → P value behind → Q value behind)
    → (o : Option (A × List ℕ)) → Tells P o → Tells Q o
weaker P Q more None tells = tt
weaker P Q more (Some (value, behind)) tells = more value behind tells

-- ==== What is found is there

pub front_tells : (test : ℕ → Bool) (bytes : List ℕ) → Tells (λ front behind. IsNext test front behind bytes) (front_at test bytes)
front_tells test bytes =
    let rest = skip_while is_gap bytes in
    either (Tells (λ front behind. IsNext test front behind bytes)) (is_empty (take_while test rest)) None (Some (take_while test rest, skip_while test rest)) (λ _. tt)
    (λ some. record {
      gaps = take_while is_gap bytes;
      bytes_are = parts is_gap bytes ∙ ap (λ (r : List ℕ). take_while is_gap bytes ++ r) (parts test rest);
      in_front = front_passes is_gap bytes;
      passes = record { some = some_is (take_while test rest) some; alone = front_passes test rest };
      fails = rest_fails test rest;
    })

number_tells : (bytes : List ℕ) → Tells (λ n behind. IsNextNumber n behind bytes) (number_at bytes)
number_tells bytes = by (word_at bytes) (front_tells is_word_byte bytes) where
  worth : (digits behind : List ℕ) → IsNext is_word_byte digits behind bytes → (o : Option ℤ) → number_of digits ≡ o
      → Tells (λ n behind. IsNextNumber n behind bytes) (option_map (λ n. (n, behind)) o)
  worth digits behind next None is = tt
  worth digits behind next (Some n) is = record { digits = digits; next = next; number_is = is }

  by : (o : Option (List ℕ × List ℕ)) → Tells (λ front behind. IsNext is_word_byte front behind bytes) o → Tells (λ n behind. IsNextNumber n behind bytes) (option_and_then number_in o)
  by None tells = tt
  by (Some (digits, behind)) next = worth digits behind next (number_of digits) refl

sign_tells : (bytes rest : List ℕ) → skip_while is_gap bytes ≡ rest → Tells (λ value behind. IsArgument a_right_side value behind bytes) (after_sign rest)
sign_tells bytes [] is = tt
sign_tells bytes (b ∷ bs) is =
    let gaps = take_while is_gap bytes in
    either (Tells (λ value behind. IsArgument a_right_side value behind bytes)) (b == 61) (Some (skip_while is_blank bs, [])) None
    (λ sign. (
      record {
        gaps = gaps;
        blanks = take_while is_blank bs;
        bytes_are =
            parts is_gap bytes ∙ ap (λ (r : List ℕ). gaps ++ r) is ∙ ap (λ (c : ℕ). gaps ++ c ∷ bs) (eqb-true b 61 sign)
            ∙ ap (λ (r : List ℕ). gaps ++ 61 ∷ r) (parts is_blank bs);
        in_front = front_passes is_gap bytes;
        white = front_passes is_blank bs;
        begins_at_once = rest_fails is_blank bs;
      },
      refl,
    ))
    (λ _. tt)

pub argument_tells : (kind : ArgumentKind) (bytes : List ℕ) → Tells (λ value behind. IsArgument kind value behind bytes) (argument_at kind bytes)
argument_tells a_word bytes = front_tells is_word_byte bytes
argument_tells a_number bytes = number_tells bytes
argument_tells a_number_or_one bytes =
    either (Tells (λ value behind. IsArgument a_number_or_one value behind bytes)) (list_all is_gap bytes) (Some (pos 1, [])) (number_at bytes) (λ gaps. inl (gaps, refl, refl))
    (λ _. weaker (λ n behind. IsNextNumber n behind bytes) (λ value behind. IsArgument a_number_or_one value behind bytes) (λ n behind is. inr is) (number_at bytes) (number_tells bytes))
argument_tells a_left_side bytes = front_tells is_name_side bytes
argument_tells a_right_side bytes = sign_tells bytes (skip_while is_gap bytes) refl
argument_tells a_text bytes =
    let rest = skip_while is_gap bytes in
    either (Tells (λ value behind. IsArgument a_text value behind bytes)) (is_empty rest) None (Some (rest, [])) (λ _. tt)
    (λ some. (
      record {
        gaps = take_while is_gap bytes;
        bytes_are = parts is_gap bytes;
        in_front = front_passes is_gap bytes;
        some = some_is rest some;
        begins_at_once = rest_fails is_gap bytes;
      },
      refl,
    ))

-- ==== What is there is found

word_apart : (b : ℕ) → is_word_byte b ≡ true → is_gap b ≡ false
word_apart b on = not-true (is_gap b) on

side_apart : (b : ℕ) → is_name_side b ≡ true → is_gap b ≡ false
side_apart b on = word_apart b (and_parts (is_word_byte b) (not (b == 61)) on).0

front_found : (test : ℕ → Bool) → ((b : ℕ) → test b ≡ true → is_gap b ≡ false) → (front behind bytes : List ℕ) → IsNext test front behind bytes → front_at test bytes ≡ Some (front, behind)
front_found test apart front behind bytes is =
    let rest : skip_while is_gap bytes ≡ front ++ behind =
    ap (skip_while is_gap) is.bytes_are ∙ skip_front is_gap is.gaps (front ++ behind) is.in_front (begins_some test is_gap front behind apart is.passes) in
    ap (λ (r : List ℕ). some_front (take_while test r) (skip_while test r)) rest
    ∙ ap (λ (f : List ℕ). some_front f (skip_while test (front ++ behind))) (take_front test front behind is.passes.alone is.fails)
    ∙ ap (some_front front) (skip_front test front behind is.passes.alone is.fails)
    ∙ cond-false (is_empty front) _ _ (some_bytes test front is.passes)

pub word_found : (front behind bytes : List ℕ) → IsNext is_word_byte front behind bytes → word_at bytes ≡ Some (front, behind)
word_found front behind bytes is = front_found is_word_byte word_apart front behind bytes is

and_none : (b : Bool) → (b && false) ≡ false
and_none true = refl
and_none false = refl

-- bytes with a word are not gaps alone
not_gaps_at : (gaps front behind : List ℕ) → AreSome is_word_byte front → list_all is_gap (gaps ++ (front ++ behind)) ≡ false
not_gaps_at [] [] behind some = absurd (omega (arith, some.some))
not_gaps_at [] (b ∷ front) behind some =
    ap (λ (t : Bool). t && list_all is_gap (front ++ behind)) (word_apart b (and_parts (is_word_byte b) (list_all is_word_byte front) some.alone).0)
not_gaps_at (g ∷ gaps) front behind some = ap (λ (t : Bool). is_gap g && t) (not_gaps_at gaps front behind some) ∙ and_none (is_gap g)

pub not_gaps : (front behind bytes : List ℕ) → IsNext is_word_byte front behind bytes → list_all is_gap bytes ≡ false
not_gaps front behind bytes is = ap (list_all is_gap) is.bytes_are ∙ not_gaps_at is.gaps front behind is.passes

number_found : (n : ℤ) (behind bytes : List ℕ) → IsNextNumber n behind bytes → number_at bytes ≡ Some (n, behind)
number_found n behind bytes is = ap (option_and_then number_in) (word_found is.digits behind bytes is.next) ∙ ap (option_map (λ n. (n, behind))) is.number_is

pub argument_found : (kind : ArgumentKind) (value : Value kind) (behind bytes : List ℕ) → IsArgument kind value behind bytes → argument_at kind bytes ≡ Some (value, behind)
argument_found a_word value behind bytes is = word_found value behind bytes is
argument_found a_number value behind bytes is = number_found value behind bytes is
argument_found a_number_or_one value behind bytes (inl (gaps, one, none)) =
    cond-true (list_all is_gap bytes) _ _ gaps ∙ ap (λ (n : ℤ). Some (n, [])) (sym one) ∙ ap (λ (r : List ℕ). Some (value, r)) (sym none)
argument_found a_number_or_one value behind bytes (inr is) =
    cond-false (list_all is_gap bytes) _ _ (not_gaps is.digits behind bytes is.next) ∙ number_found value behind bytes is
argument_found a_left_side value behind bytes is = front_found is_name_side side_apart value behind bytes is
argument_found a_right_side value behind bytes (is, none) =
    ap after_sign (ap (skip_while is_gap) is.bytes_are ∙ skip_front is_gap is.gaps (61 ∷ (is.blanks ++ value)) is.in_front refl)
    ∙ ap (λ (t : List ℕ). Some (t, [])) (skip_front is_blank is.blanks value is.white is.begins_at_once) ∙ ap (λ (r : List ℕ). Some (value, r)) (sym none)
argument_found a_text value behind bytes (is, none) =
    ap (λ (r : List ℕ). some_front r []) (ap (skip_while is_gap) is.bytes_are ∙ skip_front is_gap is.gaps value is.in_front is.begins_at_once)
    ∙ cond-false (is_empty value) _ _ (not_empty value is.some) ∙ ap (λ (r : List ℕ). Some (value, r)) (sym none)
