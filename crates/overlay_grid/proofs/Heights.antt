-- Numbers in 128 bits.
use Rattle.std.proofs.Common.{ℕ, ℤ, pos, ◌^◌, ◌<◌, arith, to_z}
use Rattle.std.specs.Int.{w128}
use Rattle.std.proofs.lemmas.Int.{ints, to_z_pos}
use Rattle.overlay_terms.proofs.Bounds.{Reads}

-- a number of 64 bits
pub place_reads : (j : ℕ) → j < 2 ^ 64 → Reads (2 ^ 64) (to_z w128 j) (pos j)
place_reads j h = record { is = to_z_pos w128 j (omega arith); within = record { low = omega (arith, ints); high = omega (arith, ints) } }
