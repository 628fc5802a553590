-- What comes after some bytes, to their end.
use Rattle.std.proofs.Common.{◌≡◌, ℕ, ◌-◌, List, length, take, drop, arith, length-drop}
use Rattle.std.proofs.lemmas.List.{take_all}

pub tail_is : (k : ℕ) (bytes : List ℕ) → take (length bytes - k) (drop k bytes) ≡ drop k bytes
tail_is k bytes = take_all (length bytes - k) (drop k bytes) (omega (arith, length-drop k bytes))
