use Rattle.std.proofs.Common.{◌≡◌, ◌%◌, ◌==◌, count_by, take}
use Rattle.std.specs.List.{list_any}
use Rattle.overlay_terms.specs.Plane.{is_below, is_on}
use Rattle.point_looks.specs.Spot.{point_of}
use Rattle.point_looks.proofs.seeing.look_at_all.Given as goal

-- what is seen of the segments so far
abbrev pub invariant-loop-seg : goal.invariant-loop-seg
invariant-loop-seg l = record {
  inside : l.seen.inside ≡ (count_by (λ s. is_below s (point_of l.spot)) (take l.seg-index l.segs) % 2 == 1);
  edge : l.seen.edge ≡ list_any (λ s. is_on s (point_of l.spot)) (take l.seg-index l.segs);
}
