use Rattle.std.proofs.Common.{◌≡◌, ℕ, ◌<◌, length}
use Rattle.near_steps.specs.Cores.{box_of}
use Rattle.feature_windows.specs.Shown.{rings_at}
use Rattle.feature_windows.specs.Layers.{LookLike}
use Rattle.feature_windows.proofs.layers.near.Given as goal

-- the first layers are there
abbrev pub invariant-loop-layer : goal.invariant-loop-layer
invariant-loop-layer l =
    (length l.list.items ≡ l.layer-index) × ((k : ℕ) → k < l.layer-index → LookLike (box_of l.core) (rings_at k l.layers) (rings_at k l.list.items))
