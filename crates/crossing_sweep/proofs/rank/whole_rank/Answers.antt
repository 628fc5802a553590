use Rattle.std.proofs.Common.{◌≡◌, ℤ, pos, inl, ◌+ℤ◌, ◌*ℤ◌, to_z, of_z, arith}
use Rattle.std.specs.Int.{w64}
use Rattle.std.proofs.lemmas.Int.{ints, to_z-of_z}
use Rattle.crossing_sweep.specs.Rank.{IsFloor}
use Rattle.crossing_sweep.proofs.rank.whole_rank.Goals as goal

-- a whole number is its own floor
floor_of_one : (n x : ℤ) → n ≡ x → IsFloor n x (pos 1)
floor_of_one n x e = record { low = omega (arith, ints, e); high = omega (arith, ints, e) }

pub numbered-requires-clause-row_small : goal.numbered-requires-clause-row_small
numbered-requires-clause-row_small c = record {
  low = omega (arith, ints, c.y.ensures.in_range.0);
  high = omega (arith, ints, c.y.ensures.in_range.1);
}

pub returns : goal.returns
returns c =
    let is : to_z w64 (of_z w64 c.numbered.result) ≡ (pos 4194304 *ℤ c.x.result) +ℤ c.y.result = grind (arith, ints, to_z-of_z) in
    ∣ record {
      across = c.x.result;
      row = c.y.result;
      is = is;
      floor = floor_of_one c.x.result c.args.p.x c.x.ensures.value;
      place = inl (record { upright = omega (arith, ints, c.x.ensures.value); floor = floor_of_one c.y.result c.args.p.y c.y.ensures.value; small = c.y.ensures.in_range });
    } ∣₁
