-- Bytes of a text: the first of them, and digits.
use Rattle.std.specs.Prelude.{ℕ, ◌+◌, ◌*◌, ◌-◌, ◌&&◌, [], ◌∷◌, if◌then◌else◌}
use Rattle.std.specs.Prelude.{nat_le, Bool, false, List, length, fold, Option, Some, None}
use Rattle.std.specs.List.{list_all}
use Rattle.std.specs.Char.{is_ascii_digit}

-- whether the bytes begin with one that passes the test
abbrev pub begins : (ℕ → Bool) → List ℕ → Bool
begins test [] = false
begins test (b ∷ bs) = test b

-- what digits are worth
abbrev pub digits_value : List ℕ → ℕ
digits_value ds = fold (λ n d. 10 * n + (d - 48)) 0 ds

-- whether the bytes are digits, one at least and so many at most
abbrev pub are_digits : ℕ → List ℕ → Bool
are_digits most ds = nat_le 1 (length ds) && nat_le (length ds) most && list_all is_ascii_digit ds

-- the number that the bytes spell, if they are digits, one at least and so many at most
abbrev pub digits_number : ℕ → List ℕ → Option ℕ
digits_number most ds = if are_digits most ds then Some (digits_value ds) else None
