use Rattle.std.proofs.Common.{◌≡◌, ℤ, pos, inl, ◌+ℤ◌, ◌*ℤ◌, ◌<ℤ◌, to_z, of_z, sym, arith}
use Rattle.std.specs.Int.{w64, w128}
use Rattle.std.proofs.lemmas.Int.{ints, to_z-of_z}
use Rattle.exact_point.specs.Place.{place}
use Rattle.arrange.proofs.FoundLemmas.{place_positive}
use Rattle.crossing_sweep.specs.Rank.{IsFloor}
use Rattle.crossing_sweep.proofs.rank.rank_over.Goals as goal

-- a whole number is its own floor
floor_of_whole : (a x w : ℤ) → a *ℤ w ≡ x → pos 0 <ℤ w → IsFloor a x w
floor_of_whole a x w e h = record { low = omega (arith, ints, e); high = omega (arith, ints, e, h) }

pub numbered-requires-clause-row_small : goal.numbered-requires-clause-row_small
numbered-requires-clause-row_small c = record {
  low = omega (arith, ints, c.floor.ensures.small.0);
  high = omega (arith, ints, c.floor.ensures.small.1);
}

pub returns : goal.returns
returns c =
    let p = place c.args.p.now in
    let ys : to_z w128 (of_z w128 p.y) ≡ p.y = grind (arith, ints, to_z-of_z) in
    let ws : to_z w128 (of_z w128 p.w) ≡ p.w = grind (arith, ints, to_z-of_z) in
    let is : to_z w64 (of_z w64 c.numbered.result) ≡ (pos 4194304 *ℤ c.args.across) +ℤ c.floor.result = grind (arith, ints, to_z-of_z) in
    ∣ record {
      across = c.args.across;
      row = c.floor.result;
      is = is;
      floor = floor_of_whole c.args.across p.x p.w c.requires.upright (place_positive c.args.p.now);
      place = inl (record { upright = c.requires.upright; floor = rw (sym ys, sym ws) c.floor.ensures.value; small = c.floor.ensures.small });
    } ∣₁
