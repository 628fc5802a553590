use Rattle.std.proofs.Common.{◌≡◌, ℕ, ◌<◌, length}
use Rattle.near_steps.specs.Cores.{box_of}
use Rattle.feature_windows.specs.Shown.{rings_at}
use Rattle.feature_windows.specs.Layers.{layer_rings, LookLike}
use Rattle.feature_windows.proofs.halving.layers_of.Given as goal

-- the first layers are there
abbrev pub invariant-loop-layer : goal.invariant-loop-layer
invariant-loop-layer l =
    (length l.list.items ≡ l.layer) × ((k : ℕ) → k < l.layer → LookLike (box_of l.core) (layer_rings l.features l.members k) (rings_at k l.list.items))
