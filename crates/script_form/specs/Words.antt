-- Words, numbers and texts of a line.
use Rattle.std.specs.Prelude.{ℕ, ℤ, pos, neg_ℤ, ◌==◌, Bool, not, ◌&&◌, List, [], ◌∷◌, length, drop}
use Rattle.std.specs.Prelude.{Option, Some, None, option_map, option_and_then, if◌then◌else◌, take_while}
use Rattle.std.specs.List.{list_all, prefix_len}
use Rattle.overlay_terms.specs.Blank.{is_blank}
use Rattle.overlay_terms.specs.Bytes.{digits_number}
use Rattle.script_form.specs.Lines.{is_gap}

-- the bytes from the first on that fails the test
abbrev pub skip_while : (ℕ → Bool) → List ℕ → List ℕ
skip_while test bytes = drop (prefix_len test bytes) bytes

-- a word goes on to the next gap
abbrev pub is_word_byte : ℕ → Bool
is_word_byte b = not (is_gap b)

-- a byte of a name before a `=`
abbrev pub is_name_side : ℕ → Bool
is_name_side b = is_word_byte b && not (b == 61)

-- whether there is no byte
abbrev pub is_empty : List ℕ → Bool
is_empty bytes = length bytes == 0

-- a number: an optional sign and 1 to 18 digits
abbrev pub number_of : List ℕ → Option ℤ
number_of [] = None
number_of (b ∷ bs) =
    if b == 45 then option_map (λ n. neg_ℤ (pos n)) (digits_number 18 bs)
    else option_map (λ n. pos n) (digits_number 18 (if b == 43 then bs else b ∷ bs))

-- ==== In front of bytes

-- bytes in front, if there are some, and what comes after them
abbrev pub some_front : List ℕ → List ℕ → Option (List ℕ × List ℕ)
some_front front after = if is_empty front then None else Some (front, after)

-- after gaps, all bytes up to the first that fails a test
abbrev pub front_at : (ℕ → Bool) → List ℕ → Option (List ℕ × List ℕ)
front_at test bytes = some_front (take_while test (skip_while is_gap bytes)) (skip_while test (skip_while is_gap bytes))

-- the next word, and what comes after it
abbrev pub word_at : List ℕ → Option (List ℕ × List ℕ)
word_at bytes = front_at is_word_byte bytes

-- what comes before the sign `=` of a definition, and what comes after it
abbrev pub left_side_at : List ℕ → Option (List ℕ × List ℕ)
left_side_at bytes = front_at is_name_side bytes

-- a word as a number, with what comes after it
abbrev pub number_in : List ℕ × List ℕ → Option (ℤ × List ℕ)
number_in (word, after) = option_map (λ n. (n, after)) (number_of word)

-- the next word as a number, and what comes after it
abbrev pub number_at : List ℕ → Option (ℤ × List ℕ)
number_at bytes = option_and_then number_in (word_at bytes)

-- where nothing but gaps is left, the number is 1
abbrev pub number_or_one_at : List ℕ → Option (ℤ × List ℕ)
number_or_one_at bytes = if list_all is_gap bytes then Some (pos 1, []) else number_at bytes

-- after the `=` and the white space that follows it
abbrev pub after_sign : List ℕ → Option (List ℕ × List ℕ)
after_sign [] = None
after_sign (b ∷ bs) = if b == 61 then Some (skip_while is_blank bs, []) else None

-- what comes after the sign `=`, to the end of the line
abbrev pub right_side_at : List ℕ → Option (List ℕ × List ℕ)
right_side_at bytes = after_sign (skip_while is_gap bytes)

-- the rest of the line, from its first byte that is no blank
abbrev pub text_at : List ℕ → Option (List ℕ × List ℕ)
text_at bytes = some_front (skip_while is_gap bytes) []
