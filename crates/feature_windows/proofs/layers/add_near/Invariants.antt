use Rattle.std.proofs.Common.{List, drop}
use Rattle.overlay_terms.specs.Plane.{WholePoint}
use Rattle.block_reading.specs.Block.{dealt}
use Rattle.near_steps.specs.Cores.{box_of}
use Rattle.feature_windows.specs.Layers.{AddsLike}
use Rattle.feature_windows.proofs.layers.add_near.Given as goal

-- whoever adds the rings that are left has added all
abbrev pub invariant-loop-count : goal.invariant-loop-count
invariant-loop-count l =
    (new : List (List WholePoint)) → AddsLike (box_of l.core) (dealt (drop l.count-index l.counts) l.rest) l.to new → AddsLike (box_of l.core) l.rings l.fn.to new
