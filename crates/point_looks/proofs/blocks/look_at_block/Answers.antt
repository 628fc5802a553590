use Rattle.std.proofs.Common.{rules, refl, pos, ◌≡◌, ◌<ℤ◌, ◌∙◌, arith, to_z, of_z}
use Rattle.std.specs.Int.{w64}
use Rattle.std.proofs.lemmas.Int.{ints, to_z-of_z}
use Rattle.point_looks.specs.Spot.{point_of}
use Rattle.point_looks.proofs.LookLemmas.{floor_reads}
use Rattle.point_looks.proofs.BoundLemmas.{none_inside, none_on, as_many_inside, none_on_lower}
use Rattle.point_looks.proofs.blocks.look_at_block.Goals as goal

pub returns-then-misses-clause-inside : goal.returns-then-misses-clause-inside
returns-then-misses-clause-inside c =
    let positive : pos 0 <ℤ c.args.spot.now.at.w = omega (arith, ints, c.args.spot.now.at.w_low) in
    none_inside c.args.bounds.now (point_of c.args.spot.now) positive (c.misses.ensures c.if-misses.true) c.args.block.now c.requires

pub returns-then-misses-clause-edge : goal.returns-then-misses-clause-edge
returns-then-misses-clause-edge c =
    let positive : pos 0 <ℤ c.args.spot.now.at.w = omega (arith, ints, c.args.spot.now.at.w_low) in
    none_on c.args.bounds.now (point_of c.args.spot.now) positive (c.misses.ensures c.if-misses.true) c.args.block.now c.requires

pub returns-then-is_lower-clause-inside : goal.returns-then-is_lower-clause-inside
returns-then-is_lower-clause-inside c =
    let positive : pos 0 <ℤ c.args.spot.now.at.w = omega (arith, ints, c.args.spot.now.at.w_low) in
    let p = point_of c.args.spot.now in
    let x : to_z w64 (of_z w64 c.floor_x.result) ≡ c.floor_x.result = search (rules, to_z-of_z) in
    c.reach_odd.ensures ∙ as_many_inside c.args.bounds.now p positive _ (floor_reads _ c.floor_x.result p.x p.x p.w p.w x refl refl c.floor_x.ensures) (c.is_lower.ensures c.if-is_lower.true) c.args.block.now c.requires

pub returns-then-is_lower-clause-edge : goal.returns-then-is_lower-clause-edge
returns-then-is_lower-clause-edge c =
    let positive : pos 0 <ℤ c.args.spot.now.at.w = omega (arith, ints, c.args.spot.now.at.w_low) in
    none_on_lower c.args.bounds.now (point_of c.args.spot.now) positive (c.is_lower.ensures c.if-is_lower.true) c.args.block.now c.requires
