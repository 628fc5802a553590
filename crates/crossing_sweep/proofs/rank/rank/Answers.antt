use Rattle.std.proofs.Common.{◌≡◌, ℤ, pos, inl, inr, ◌+ℤ◌, ◌*ℤ◌, ◌<ℤ◌, ◌≤ℤ◌, true, false, to_z, of_z, sym, ◌∙◌, refl, arith, int_eq}
use Rattle.std.specs.Int.{w64, w128}
use Rattle.std.proofs.lemmas.Bool.{false≢true}
use Rattle.std.proofs.lemmas.Int.{ints, to_z-of_z, by_lt_z}
use Rattle.exact_point.specs.Place.{place}
use Rattle.exact_point.proofs.PlaceOrder.{level_from, level_test}
use Rattle.crossing_sweep.specs.Rank.{IsFloor}
use Rattle.crossing_sweep.proofs.rank.rank.Goals as goal

pub numbered-requires-clause-row_small : goal.numbered-requires-clause-row_small
numbered-requires-clause-row_small c = record {
  low = omega (arith, ints, c.floor.ensures.small.0);
  high = omega (arith, ints, c.floor.ensures.small.1);
}

pub returns-then-is_whole : goal.returns-then-is_whole
returns-then-is_whole c =
    let p = place c.args.p.now in
    let xs : to_z w128 (of_z w128 p.x) ≡ p.x = grind (arith, ints, to_z-of_z) in
    let ys : to_z w128 (of_z w128 p.y) ≡ p.y = grind (arith, ints, to_z-of_z) in
    let ws : to_z w128 (of_z w128 p.w) ≡ p.w = grind (arith, ints, to_z-of_z) in
    let here : to_z w64 (of_z w64 c.floor-across.result) ≡ c.floor-across.result = grind (arith, ints, to_z-of_z) in
    let is : to_z w64 (of_z w64 c.numbered.result) ≡ (pos 4194304 *ℤ c.floor-across.result) +ℤ c.floor.result = grind (arith, ints, to_z-of_z) in
    let told : int_eq (c.floor-across.result *ℤ p.w) p.x ≡ true = rw (sym here, sym xs, sym ws) (sym c.is_whole.ensures ∙ c.if-is_whole.true) in
    ∣ record {
      across = c.floor-across.result;
      row = c.floor.result;
      is = is;
      floor = rw (sym xs, sym ws) c.floor-across.ensures.value;
      place = inl (record { upright = level_from (c.floor-across.result *ℤ p.w) p.x told; floor = rw (sym ys, sym ws) c.floor.ensures.value; small = c.floor.ensures.small });
    } ∣₁

-- a coordinate that is no whole number lies after the one before it
strictly_after : (a x : ℤ) → a ≤ℤ x → int_eq a x ≡ false → a <ℤ x
strictly_after a x low differ = by_lt_z a x (λ l. l) (λ m. absurd (false≢true (sym differ ∙ level_test a x (omega (arith, ints, low, m)))))

pub returns : goal.returns
returns c =
    let p = place c.args.p.now in
    let xs : to_z w128 (of_z w128 p.x) ≡ p.x = grind (arith, ints, to_z-of_z) in
    let ws : to_z w128 (of_z w128 p.w) ≡ p.w = grind (arith, ints, to_z-of_z) in
    let here : to_z w64 (of_z w64 c.floor-across.result) ≡ c.floor-across.result = grind (arith, ints, to_z-of_z) in
    let is : to_z w64 (of_z w64 c.numbered-2.result) ≡ (pos 4194304 *ℤ c.floor-across.result) +ℤ pos 2097152 = grind (arith, ints, to_z-of_z) in
    let told : int_eq (c.floor-across.result *ℤ p.w) p.x ≡ false = rw (sym here, sym xs, sym ws) (sym c.is_whole.ensures ∙ c.if-is_whole.false) in
    let floor : IsFloor c.floor-across.result p.x p.w = rw (sym xs, sym ws) c.floor-across.ensures.value in
    ∣ record {
      across = c.floor-across.result;
      row = pos 2097152;
      is = is;
      floor = floor;
      place = inr (record { after = strictly_after (c.floor-across.result *ℤ p.w) p.x floor.low told; last = refl });
    } ∣₁
