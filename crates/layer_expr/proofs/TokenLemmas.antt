-- How the tokens of bytes begin.
use Rattle.std.proofs.Common.{◌≡◌, ℕ, suc, ◌+◌, ◌-◌, ◌<◌, ◌≤◌, Bool, true, false, List, [], ◌∷◌, length, get_or, take, drop, refl, ap, sym, subst, ◌∙◌, add-one, arith, drop-cons, drop-drop, length-drop}
use Rattle.std.specs.Prelude.{slice_range, take_while}
use Rattle.std.specs.Char.{is_ascii_alphabetic}
use Rattle.std.proofs.lemmas.Bool.{cond-true, cond-false}
use Rattle.std.proofs.lemmas.Bool.Decides.{nat_tests}
use Rattle.std.proofs.lemmas.List.Sums.{take_while-cons}
use Rattle.layer_expr.specs.Name.{is_name_byte}
use Rattle.overlay_terms.specs.Blank.{is_blank}
use Rattle.layer_expr.specs.Token.{name, tokens_after}

-- the name that begins the bytes
abbrev pub name_front : List ℕ → List ℕ
name_front bytes = take_while is_name_byte bytes

pub name_more : (b : ℕ) (bs : List ℕ) → is_name_byte b ≡ true → name_front (b ∷ bs) ≡ b ∷ name_front bs
name_more b bs h = take_while-cons is_name_byte b bs ∙ cond-true (is_name_byte b) _ _ h

pub name_stop : (b : ℕ) (bs : List ℕ) → is_name_byte b ≡ false → name_front (b ∷ bs) ≡ []
name_stop b bs h = take_while-cons is_name_byte b bs ∙ cond-false (is_name_byte b) _ _ h

-- a letter may go on a name, and is no white space
pub letter_goes_on : (b : ℕ) → is_ascii_alphabetic b ≡ true → is_name_byte b ≡ true
letter_goes_on b h = grind (arith, nat_tests)

pub letter_not_blank : (b : ℕ) → is_ascii_alphabetic b ≡ true → is_blank b ≡ false
letter_not_blank b h = grind (arith, nat_tests)

-- the front of the bytes that is a name
front_taken_by : (b : ℕ) (bs : List ℕ) (t : Bool) → is_name_byte b ≡ t → name_front bs ≡ take (length (name_front bs)) bs → name_front (b ∷ bs) ≡ take (length (name_front (b ∷ bs))) (b ∷ bs)
front_taken_by b bs true h ih = name_more b bs h ∙ ap (λ s. b ∷ s) ih ∙ ap (λ s. take (length s) (b ∷ bs)) (sym (name_more b bs h))
front_taken_by b bs false h ih = name_stop b bs h ∙ ap (λ s. take (length s) (b ∷ bs)) (sym (name_stop b bs h))

pub front_taken : (s : List ℕ) → name_front s ≡ take (length (name_front s)) s
front_taken [] = refl
front_taken (b ∷ bs) = front_taken_by b bs (is_name_byte b) refl (front_taken bs)

-- after a name that goes on, the tokens are those after its end
behind_front_by : (at b : ℕ) (bs : List ℕ) (t : Bool) → is_name_byte b ≡ t → tokens_after true (at + 1) bs ≡ tokens_after false (at + 1 + length (name_front bs)) (drop (length (name_front bs)) bs) → tokens_after true at (b ∷ bs) ≡ tokens_after false (at + length (name_front (b ∷ bs))) (drop (length (name_front (b ∷ bs))) (b ∷ bs))
behind_front_by at b bs true h ih =
    let here : tokens_after true at (b ∷ bs) ≡ tokens_after true (at + 1) bs = rw h in
    let moved : at + 1 + length (name_front bs) ≡ at + suc (length (name_front bs)) = omega arith in
    here ∙ ih ∙ ap (λ n. tokens_after false n (drop (length (name_front bs)) bs)) moved ∙ ap (λ s. tokens_after false (at + length s) (drop (length s) (b ∷ bs))) (sym (name_more b bs h))
behind_front_by at b bs false h ih =
    let here : tokens_after true at (b ∷ bs) ≡ tokens_after false at (b ∷ bs) = rw h in
    let moved : at ≡ at + 0 = omega arith in
    here ∙ ap (λ n. tokens_after false n (b ∷ bs)) moved ∙ ap (λ s. tokens_after false (at + length s) (drop (length s) (b ∷ bs))) (sym (name_stop b bs h))

pub behind_front : (at : ℕ) (s : List ℕ) → tokens_after true at s ≡ tokens_after false (at + length (name_front s)) (drop (length (name_front s)) s)
behind_front at [] = refl
behind_front at (b ∷ bs) = behind_front_by at b bs (is_name_byte b) refl (behind_front (at + 1) bs)

letter_front : (at b : ℕ) (bs : List ℕ) → is_ascii_alphabetic b ≡ true → tokens_after false at (b ∷ bs) ≡ record { at = at; kind = name (name_front (b ∷ bs)) } ∷ tokens_after true (at + 1) bs
letter_front at b bs h = rw (letter_not_blank b h, h)

split_at : (xs : List ℕ) (i : ℕ) → i < length xs → drop i xs ≡ get_or xs i 0 ∷ drop (i + 1) xs
split_at xs i h = rw (add-one, drop-cons xs i 0)

letter_token : (at b : ℕ) (bs : List ℕ) → is_ascii_alphabetic b ≡ true → tokens_after false at (b ∷ bs) ≡ record { at = at; kind = name (take (length (name_front (b ∷ bs))) (b ∷ bs)) } ∷ tokens_after false (at + length (name_front (b ∷ bs))) (drop (length (name_front (b ∷ bs))) (b ∷ bs))
letter_token at b bs h =
    let going : is_name_byte b ≡ true = letter_goes_on b h in
    let here : tokens_after true at (b ∷ bs) ≡ tokens_after true (at + 1) bs = rw going in
    letter_front at b bs h
    ∙ ap (λ s. record { at = at; kind = name s } ∷ tokens_after true (at + 1) bs) (front_taken (b ∷ bs))
    ∙ ap (λ ts. record { at = at; kind = name (take (length (name_front (b ∷ bs))) (b ∷ bs)) } ∷ ts) (sym here ∙ behind_front at (b ∷ bs))

-- a name begins with a letter and has the bytes up to its end
pub name_at : (xs : List ℕ) (i e : ℕ) → i < length xs → is_ascii_alphabetic (get_or xs i 0) ≡ true → e ≡ i + length (name_front (drop i xs)) → tokens_after false i (drop i xs) ≡ record { at = i; kind = name (slice_range xs i e) } ∷ tokens_after false e (drop e xs)
name_at xs i e h letter end =
    let whole = subst (λ s. tokens_after false i s ≡ record { at = i; kind = name (take (length (name_front s)) s) } ∷ tokens_after false (i + length (name_front s)) (drop (length (name_front s)) s)) (sym (split_at xs i h)) (letter_token i (get_or xs i 0) (drop (i + 1) xs) letter) in
    let size : length (name_front (drop i xs)) ≡ e - i = omega arith in
    let rest : drop (length (name_front (drop i xs))) (drop i xs) ≡ drop e xs = drop-drop (length (name_front (drop i xs))) i xs ∙ ap (λ n. drop n xs) (omega arith) in
    whole
    ∙ ap (λ n. record { at = i; kind = name (take n (drop i xs)) } ∷ tokens_after false (i + length (name_front (drop i xs))) (drop (length (name_front (drop i xs))) (drop i xs))) size
    ∙ ap (λ n. record { at = i; kind = name (slice_range xs i e) } ∷ tokens_after false n (drop (length (name_front (drop i xs))) (drop i xs))) (sym end)
    ∙ ap (λ s. record { at = i; kind = name (slice_range xs i e) } ∷ tokens_after false e s) rest

front_short_by : (b : ℕ) (bs : List ℕ) (t : Bool) → is_name_byte b ≡ t → length (name_front bs) ≤ length bs → length (name_front (b ∷ bs)) ≤ length (b ∷ bs)
front_short_by b bs true h ih = rw (name_more b bs h) (omega arith)
front_short_by b bs false h ih = rw (name_stop b bs h) (omega arith)

front_short : (s : List ℕ) → length (name_front s) ≤ length s
front_short [] = omega arith
front_short (b ∷ bs) = front_short_by b bs (is_name_byte b) refl (front_short bs)

pub name_within : (xs : List ℕ) (i e : ℕ) → i < length xs → is_ascii_alphabetic (get_or xs i 0) ≡ true → e ≡ i + length (name_front (drop i xs)) → (i < e) × (e ≤ length xs)
name_within xs i e h letter end =
    let front : name_front (drop i xs) ≡ get_or xs i 0 ∷ name_front (drop (i + 1) xs) = ap name_front (split_at xs i h) ∙ name_more (get_or xs i 0) (drop (i + 1) xs) (letter_goes_on (get_or xs i 0) letter) in
    let some : length (name_front (drop i xs)) ≡ suc (length (name_front (drop (i + 1) xs))) = ap length front in
    let most : length (name_front (drop i xs)) ≤ length (drop i xs) = front_short (drop i xs) in
    (omega arith, omega (arith, length-drop i xs))
