use Rattle.std.specs.Prelude.{ℕ, Bool, false, ◌&&◌, ◌||◌, ◌==◌, nat_le, List, [], ◌∷◌, length}
use Rattle.std.specs.List.{list_all}
use Rattle.std.specs.Char.{is_ascii_alphabetic, is_ascii_alphanumeric}

-- what may follow the first byte
abbrev pub is_name_byte : ℕ → Bool
is_name_byte b = is_ascii_alphanumeric b || b == 95

-- whether bytes begin with a letter
abbrev pub first_is_letter : List ℕ → Bool
first_is_letter [] = false
first_is_letter (first ∷ rest) = is_ascii_alphabetic first

-- the most bytes of a name
abbrev pub name_max : ℕ
name_max = 32

-- 1 to 32 bytes: a letter, then letters, digits and `_`
abbrev pub is_name : List ℕ → Bool
is_name bytes = first_is_letter bytes && nat_le (length bytes) name_max && list_all is_name_byte bytes
