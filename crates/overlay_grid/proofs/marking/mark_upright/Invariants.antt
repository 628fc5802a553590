use Rattle.std.proofs.Common.{◌≡◌, length}
use Rattle.overlay_terms.specs.Plane.{is_on}
use Rattle.overlay_grid.specs.Rising.{point_at}
use Rattle.overlay_grid.proofs.Marked.{AreMarkedBefore}
use Rattle.overlay_grid.proofs.marking.mark_upright.Given as goal

abbrev pub invariant-loop-j : goal.invariant-loop-j
invariant-loop-j l = record {
  len : length l.edges ≡ length l.initial.edges;
  marked : AreMarkedBefore (λ k. is_on l.seg (point_at l.rise k)) l.initial.edges l.edges l.j;
}
