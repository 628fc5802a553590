-- Values at the front of some bytes, with what follows them, or why there is none.
use Rattle.std.specs.Prelude.{ℕ, zero, suc, ◌+◌, ℤ, nat_lt, List, [], ◌∷◌, length, take, drop, Result, Ok, Err, if◌then◌else◌}
use Rattle.std.specs.Int.{w64, cast_signed}
use Rattle.byteorder.specs.Endian.{little_number}
use Rattle.block_reading.specs.declared.fault.BlockFault.{BlockFault}

infixl 10 ◌>>!◌
-- what f makes of a value, where there is one
abbrev pub ◌>>!◌ : {A B : Type 0} → Result A BlockFault → (A → Result B BlockFault) → Result B BlockFault
(Ok x) >>! f = f x
(Err fault) >>! f = Err fault

-- how values of a kind are read
abbrev pub Reading : Type 0 → Type 0
Reading A = List ℕ → Result (A × List ℕ) BlockFault

-- a number of n bytes, the lowest byte first; a fault where the bytes end before it
abbrev pub number : BlockFault → ℕ → Reading ℕ
number fault n bytes = if nat_lt (length bytes) n then Err fault else Ok (little_number n bytes, drop n bytes)

-- a number of 8 bytes in two's complement
abbrev pub signed : BlockFault → Reading ℤ
signed fault bytes = number fault 8 bytes >>! λ n. Ok (cast_signed w64 n.0, n.1)

-- so many bytes as they are
abbrev pub taken : BlockFault → ℕ → Reading (List ℕ)
taken fault n bytes = if nat_lt (length bytes) n then Err fault else Ok (take n bytes, drop n bytes)

-- so many values, one after another, each read by its number, from one on
abbrev pub many : {A : Type 0} → (ℕ → Reading A) → ℕ → ℕ → Reading (List A)
many read at zero bytes = Ok ([], bytes)
many read at (suc n) bytes = read at bytes >>! λ a. many read (at + 1) n a.1 >>! λ b. Ok (a.0 ∷ b.0, b.1)
