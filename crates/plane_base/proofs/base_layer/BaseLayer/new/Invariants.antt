use Rattle.std.specs.Prelude.{All}
use Rattle.std.proofs.Common.{◌≡◌, take}
use Rattle.overlay_terms.specs.Plane.{segments_of}
use Rattle.plane_base.specs.BaseLayer.{PointsInRange}
use Rattle.plane_base.proofs.base_layer.BaseLayer.new.Given as goal

abbrev pub invariant-loop-ring : goal.invariant-loop-ring
invariant-loop-ring l = record {
  added : l.segs.items ≡ segments_of (take l.ring-index l.ring-items);
  in_range : All PointsInRange (take l.ring-index l.ring-items);
}
