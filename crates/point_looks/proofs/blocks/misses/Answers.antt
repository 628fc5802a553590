use Rattle.std.proofs.Common.{rules, inl, inr, ◌≡◌, arith, to_z, of_z}
use Rattle.std.specs.Int.{w64}
use Rattle.std.proofs.lemmas.Int.{ints, to_z-of_z}
use Rattle.point_looks.specs.Spot.{point_of}
use Rattle.point_looks.proofs.LookLemmas.{before_ceil, past_floor, is_less}
use Rattle.point_looks.proofs.blocks.misses.Goals as goal

pub returns-then-floor_x-bounds : goal.returns-then-floor_x-bounds
returns-then-floor_x-bounds c =
    let p = point_of c.args.spot.now in
    let b = c.args.bounds.now in
    let l : to_z w64 (of_z w64 b.low_x) ≡ b.low_x = search (rules, to_z-of_z) in
    let x : to_z w64 (of_z w64 c.floor_x.result) ≡ c.floor_x.result = search (rules, to_z-of_z) in
    λ _. inl (past_floor c.floor_x.result p.x p.w b.low_x (omega (arith, ints, c.args.spot.now.at.w_low)) c.floor_x.ensures (is_less _ _ _ _ x l c.if-floor_x-bounds.true))

pub returns-then-bounds-ceil_x : goal.returns-then-bounds-ceil_x
returns-then-bounds-ceil_x c =
    let p = point_of c.args.spot.now in
    let b = c.args.bounds.now in
    let h : to_z w64 (of_z w64 b.high_x) ≡ b.high_x = search (rules, to_z-of_z) in
    let x : to_z w64 (of_z w64 c.ceil_x.result) ≡ c.ceil_x.result = search (rules, to_z-of_z) in
    λ _. inr (inl (before_ceil c.ceil_x.result p.x p.w b.high_x (omega (arith, ints, c.args.spot.now.at.w_low)) c.ceil_x.ensures (is_less _ _ _ _ h x c.if-bounds-ceil_x.true)))

pub returns : goal.returns
returns c =
    let p = point_of c.args.spot.now in
    let b = c.args.bounds.now in
    let l : to_z w64 (of_z w64 b.low_y) ≡ b.low_y = search (rules, to_z-of_z) in
    let y : to_z w64 (of_z w64 c.floor_y.result) ≡ c.floor_y.result = search (rules, to_z-of_z) in
    λ t. inr (inr (past_floor c.floor_y.result p.y p.w b.low_y (omega (arith, ints, c.args.spot.now.at.w_low)) c.floor_y.ensures (is_less _ _ _ _ y l t)))
