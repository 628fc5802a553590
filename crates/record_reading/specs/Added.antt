-- Values that are read one after another.
use Rattle.std.specs.Prelude.{◌≡◌, ℕ, ℤ, List, [], ◌∷◌, ◌++◌, Option, Some, None}
use Rattle.std.specs.Int.{w32, cast_signed}
use Rattle.byteorder.specs.Endian.{big_number}
use Rattle.store_terms.specs.Fields.{Field}

-- the value at the front of some bytes, with what follows it, is added to some values
abbrev pub IsAdded : {A : Type 0} → Field A → List ℕ → List ℕ → List A → List A → Type 0
IsAdded {A} f bytes rest old new = (x : A) × (f.read bytes ≡ Some (x, rest)) × (new ≡ old ++ x ∷ [])

-- the value, if there is one, before some bytes
abbrev pub before : {A : Type 0} → List ℕ → Option A → Option (A × List ℕ)
before rest None = None
before rest (Some x) = Some (x, rest)

-- the signed number that the first four bytes spell
abbrev pub number_in : List ℕ → ℤ
number_in bytes = cast_signed w32 (big_number 4 bytes)
