-- Numbers as bytes, their lowest byte first.
use Rattle.std.specs.Prelude.{ℕ, ℤ, min, List, flat_map}
use Rattle.std.specs.Int.{w128, cast_unsigned, to_le_bytes}
use Rattle.byteorder.specs.Endian.{little_bytes}

-- a count as a number of 32 bits, or the greatest of these
abbrev pub small : ℕ → ℕ
small count = min count 4294967295

-- numbers of 4 bytes each
abbrev pub words : List ℕ → List ℕ
words numbers = flat_map (little_bytes 4) numbers

-- a signed number of 16 bytes, in two's complement
abbrev pub wide : ℤ → List ℕ
wide number = to_le_bytes w128 (cast_unsigned w128 number)
