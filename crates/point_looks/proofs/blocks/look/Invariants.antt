use Rattle.std.proofs.Common.{◌≡◌, ◌*◌, take, drop}
use Rattle.overlay_terms.specs.Plane.{is_inside}
use Rattle.overlay_terms.specs.Laws.{is_on_any}
use Rattle.point_looks.specs.Spot.{point_of}
use Rattle.plane_base.specs.Bounds.{Cover}
use Rattle.point_looks.proofs.blocks.look.Given as goal

-- what is seen of the blocks so far
abbrev pub invariant-loop-b : goal.invariant-loop-b
invariant-loop-b l = record {
  rest : l.rest ≡ drop (32 * l.b-index) l.segs;
  cover : Cover (drop l.b-index l.bounds) l.rest;
  inside : l.seen.inside ≡ is_inside (take (32 * l.b-index) l.segs) (point_of l.spot);
  edge : l.seen.edge ≡ is_on_any (take (32 * l.b-index) l.segs) (point_of l.spot);
}
