-- Numbers as Well-Known Text writes them: an optional sign, digits, and perhaps a point among them or beside them.
use Rattle.std.specs.Prelude.{ℕ, ℤ, pos, neg_ℤ, ◌==◌, nat_le, Bool, ◌&&◌, ◌||◌, List, [], ◌∷◌, count_by, if◌then◌else◌}
use Rattle.std.specs.List.{list_all, list_any, before_first, after_first}
use Rattle.std.specs.Char.{is_ascii_digit}
use Rattle.overlay_terms.specs.Bytes.{begins, digits_value}

-- `-` and `+`, and the point
abbrev pub is_sign : ℕ → Bool
is_sign b = b == 43 || b == 45

-- the byte `.`, after which the digits of a fraction come
abbrev pub is_point : ℕ → Bool
is_point b = b == 46

-- what follows the sign, if there is one
abbrev pub unsigned : List ℕ → List ℕ
unsigned [] = []
unsigned (b ∷ bs) = if is_sign b then bs else b ∷ bs

-- digits with at most one point among them or beside them, and one digit at least
abbrev pub is_unsigned : List ℕ → Bool
is_unsigned bs =
    list_all (λ b. is_ascii_digit b || is_point b) bs && nat_le (count_by is_point bs) 1 && list_any is_ascii_digit bs

-- whether a run of digits, signs and points is a number
abbrev pub is_number : List ℕ → Bool
is_number bs = is_unsigned (unsigned bs)

-- the bytes before the point, and after it; all and none where there is no point
abbrev pub before_point : List ℕ → List ℕ
before_point bs = before_first is_point bs

-- the bytes after the point; none where there is no point
abbrev pub after_point : List ℕ → List ℕ
after_point bs = after_first is_point bs

-- whether a number is whole: every digit after its point is 0
abbrev pub is_whole : List ℕ → Bool
is_whole bs = list_all (λ b. b == 48) (after_point (unsigned bs))

-- whether a number begins with a minus sign
abbrev pub is_negative : List ℕ → Bool
is_negative bs = begins (λ b. b == 45) bs

-- a size with the sign of a number
abbrev pub with_sign : List ℕ → ℕ → ℤ
with_sign bs size = if is_negative bs then neg_ℤ (pos size) else pos size

-- the whole number that a number is, without what follows its point
abbrev pub number_value : List ℕ → ℤ
number_value bs = with_sign bs (digits_value (before_point (unsigned bs)))
