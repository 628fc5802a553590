use Rattle.std.proofs.Common.{rules, ◌≡◌, ◌∙◌, sym, arith, to_z, of_z}
use Rattle.std.specs.Int.{w64}
use Rattle.std.proofs.lemmas.Int.{ints, to_z-of_z}
use Rattle.point_looks.specs.Spot.{point_of}
use Rattle.point_looks.proofs.LookLemmas.{below_above, reads_less}
use Rattle.point_looks.proofs.seeing.see_near.Goals as goal

pub returns-in-Greater-clause-below : goal.returns-in-Greater-clause-below
returns-in-Greater-clause-below c =
    let p = c.args.spot.now in
    let s = c.args.seg.now in
    let f : to_z w64 (of_z w64 p.floor_x) ≡ p.floor_x = search (rules, to_z-of_z) in
    let r : to_z w64 (of_z w64 c.x.result) ≡ s.right.x = search (rules, to_z-of_z, c.x.ensures.value, c.right.ensures.value) in
    reads_less _ _ _ _ f r ∙ below_above s (point_of p) p.floor_x (omega (arith, ints, p.at.w_low)) p.floor_of_x c.requires (sym c.side.ensures ∙ c.in-Greater.is)
