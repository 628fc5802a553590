use Rattle.std.proofs.Common.{◌≡◌, length, take}
use Rattle.overlay_terms.specs.Laws.{is_on_any}
use Rattle.overlay_terms.specs.Plane.{is_inside}
use Rattle.overlay_grid.specs.Turning.{AreMarked, AreTurned}
use Rattle.overlay_grid.proofs.columns.mark_layer.Given as goal

-- what the first segments change is done
abbrev pub invariant-loop-seg : goal.invariant-loop-seg
invariant-loop-seg l = record {
  turns_len : length l.turns ≡ length l.initial.turns;
  edges_len : length l.edges ≡ length l.initial.edges;
  turned : AreTurned (is_inside (take l.seg-index l.segs)) l.layer l.rise l.initial.turns l.turns;
  marked : AreMarked (is_on_any (take l.seg-index l.segs)) l.rise l.initial.edges l.edges;
}
