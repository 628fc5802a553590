use Rattle.std.proofs.Common.{rules, ◌≡◌, pos, ◌-ℤ◌, to_z, of_z}
use Rattle.std.specs.Int.{w64, w128}
use Rattle.std.proofs.lemmas.Int.{to_z-of_z}
use Rattle.point_looks.proofs.FloorLemmas.{ceil_read}
use Rattle.point_looks.proofs.flooring.ceil.Goals as goal

pub returns : goal.returns
returns c =
    let e : to_z w64 (of_z w64 (pos 0 -ℤ to_z w64 (of_z w64 c.floor.result))) ≡ pos 0 -ℤ c.floor.result = search (rules, to_z-of_z) in
    let x : to_z w128 (of_z w128 (pos 0 -ℤ to_z w128 (of_z w128 c.args.x))) ≡ pos 0 -ℤ c.args.x = search (rules, to_z-of_z) in
    let w : to_z w128 (of_z w128 c.args.w) ≡ c.args.w = search (rules, to_z-of_z) in
    ceil_read _ c.floor.result _ _ c.args.x c.args.w e x w c.floor.ensures.value
