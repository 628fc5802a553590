use Rattle.std.proofs.Common.{rules, ◌≡◌, arith, to_z, of_z}
use Rattle.std.specs.Int.{w64}
use Rattle.std.proofs.lemmas.Int.{ints, to_z-of_z}
use Rattle.point_looks.specs.Spot.{point_of}
use Rattle.point_looks.proofs.LookLemmas.{past_floor, before_ceil, is_less, below_behind, on_behind, below_before, on_before}
use Rattle.point_looks.proofs.seeing.see.Goals as goal

pub returns-then-spot-x-clause-below : goal.returns-then-spot-x-clause-below
returns-then-spot-x-clause-below c =
    let p = c.args.spot.now in
    let f : to_z w64 (of_z w64 p.floor_x) ≡ p.floor_x = search (rules, to_z-of_z) in
    let l : to_z w64 (of_z w64 c.x.result) ≡ c.args.seg.now.left.x = search (rules, to_z-of_z, c.x.ensures.value, c.left.ensures.value) in
    below_behind c.args.seg.now (point_of p) (past_floor p.floor_x p.at.x p.at.w c.args.seg.now.left.x (omega (arith, ints, p.at.w_low)) p.floor_of_x (is_less _ _ _ _ f l c.if-spot-x.true))

pub returns-then-spot-x-clause-on : goal.returns-then-spot-x-clause-on
returns-then-spot-x-clause-on c =
    let p = c.args.spot.now in
    let f : to_z w64 (of_z w64 p.floor_x) ≡ p.floor_x = search (rules, to_z-of_z) in
    let l : to_z w64 (of_z w64 c.x.result) ≡ c.args.seg.now.left.x = search (rules, to_z-of_z, c.x.ensures.value, c.left.ensures.value) in
    on_behind c.args.seg.now (point_of p) (past_floor p.floor_x p.at.x p.at.w c.args.seg.now.left.x (omega (arith, ints, p.at.w_low)) p.floor_of_x (is_less _ _ _ _ f l c.if-spot-x.true))

pub returns-then-x-spot-clause-below : goal.returns-then-x-spot-clause-below
returns-then-x-spot-clause-below c =
    let p = c.args.spot.now in
    let f : to_z w64 (of_z w64 p.ceil_x) ≡ p.ceil_x = search (rules, to_z-of_z) in
    let r : to_z w64 (of_z w64 c.x-2.result) ≡ c.args.seg.now.right.x = search (rules, to_z-of_z, c.x-2.ensures.value, c.right.ensures.value) in
    below_before c.args.seg.now (point_of p) (before_ceil p.ceil_x p.at.x p.at.w c.args.seg.now.right.x (omega (arith, ints, p.at.w_low)) p.ceil_of_x (is_less _ _ _ _ r f c.if-x-spot.true))

pub returns-then-x-spot-clause-on : goal.returns-then-x-spot-clause-on
returns-then-x-spot-clause-on c =
    let p = c.args.spot.now in
    let f : to_z w64 (of_z w64 p.ceil_x) ≡ p.ceil_x = search (rules, to_z-of_z) in
    let r : to_z w64 (of_z w64 c.x-2.result) ≡ c.args.seg.now.right.x = search (rules, to_z-of_z, c.x-2.ensures.value, c.right.ensures.value) in
    on_before c.args.seg.now (point_of p) (before_ceil p.ceil_x p.at.x p.at.w c.args.seg.now.right.x (omega (arith, ints, p.at.w_low)) p.ceil_of_x (is_less _ _ _ _ r f c.if-x-spot.true))
