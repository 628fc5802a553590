use Rattle.std.proofs.Common.{rules, ◌≡◌, to_z, of_z}
use Rattle.std.specs.Int.{w64, w128}
use Rattle.std.proofs.lemmas.Int.{to_z-of_z}
use Rattle.point_looks.proofs.LookLemmas.{floor_reads, ceil_reads}
use Rattle.point_looks.proofs.spot.Spot.of.Goals as goal

pub invariant_of-result : goal.invariant_of-result
invariant_of-result c =
    let p = c.args.at in
    let x : to_z w128 (of_z w128 p.x) ≡ p.x = search (rules, to_z-of_z) in
    let y : to_z w128 (of_z w128 p.y) ≡ p.y = search (rules, to_z-of_z) in
    let w : to_z w128 (of_z w128 p.w) ≡ p.w = search (rules, to_z-of_z) in
    let fx : to_z w64 (of_z w64 c.floor.result) ≡ c.floor.result = search (rules, to_z-of_z) in
    let cx : to_z w64 (of_z w64 c.ceil.result) ≡ c.ceil.result = search (rules, to_z-of_z) in
    let fy : to_z w64 (of_z w64 c.floor-2.result) ≡ c.floor-2.result = search (rules, to_z-of_z) in
    let cy : to_z w64 (of_z w64 c.ceil-2.result) ≡ c.ceil-2.result = search (rules, to_z-of_z) in
    record {
      floor_of_x = floor_reads _ _ _ _ _ _ fx x w c.floor.ensures.value;
      ceil_of_x = ceil_reads _ _ _ _ _ _ cx x w c.ceil.ensures;
      floor_of_y = floor_reads _ _ _ _ _ _ fy y w c.floor-2.ensures.value;
      ceil_of_y = ceil_reads _ _ _ _ _ _ cy y w c.ceil-2.ensures;
    }
