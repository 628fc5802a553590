use Rattle.std.proofs.Common.{◌≡◌, ℕ, ℤ, ◌/◌, ◌≤◌, unsigned_abs, to_z, of_z, sym, subst}
use Rattle.std.specs.Int.{w64}
use Rattle.std.proofs.lemmas.Int.{to_z-of_z}
use Rattle.overlay_terms.specs.Plane.{InRange}
use Rattle.crossing_sweep.specs.Rank.{IsFloor}
use Rattle.crossing_sweep.proofs.RankLemmas.{floor_of, floor_small, in_range, positive, reads, size_of}
use Rattle.crossing_sweep.proofs.rank.near_floor.Goals as goal

pub returns-clause-value : goal.returns-clause-value
returns-clause-value c =
    let w : ℤ = c.args.w in
    let v : ℤ = to_z w64 (of_z w64 w) in
    let d : ℕ = unsigned_abs v in
    let n : ℕ = c.near_from_lowest.result in
    let there : v ≡ w = to_z-of_z w64 w c.ranges.w in
    let few : n / d ≤ 2097152 = floor_small n d (positive w v there c.requires.w_low) c.near_from_lowest.ensures.small in
    subst (λ z. IsFloor z c.args.x w) (sym (reads (n / d) few)) (floor_of c.args.x w (to_z w64 (of_z w64 c.args.x)) v n d (to_z-of_z w64 c.args.x c.ranges.x) there c.near_from_lowest.ensures.value (size_of w v there c.requires.w_low) (positive w v there c.requires.w_low))

pub returns-clause-small : goal.returns-clause-small
returns-clause-small c =
    let w : ℤ = c.args.w in
    let v : ℤ = to_z w64 (of_z w64 w) in
    let d : ℕ = unsigned_abs v in
    let n : ℕ = c.near_from_lowest.result in
    let there : v ≡ w = to_z-of_z w64 w c.ranges.w in
    let few : n / d ≤ 2097152 = floor_small n d (positive w v there c.requires.w_low) c.near_from_lowest.ensures.small in
    subst InRange (sym (reads (n / d) few)) (in_range (n / d) few)
