use Rattle.std.proofs.Common.{◌≡◌, take, flat_map}
use Rattle.versions.specs.Pending.{pending_of_layer}
use Rattle.versions.proofs.version.Version.pending.Given as goal

-- the tiles of the layers so far
abbrev pub invariant-loop-place : goal.invariant-loop-place
invariant-loop-place l = l.list.items ≡ flat_map (pending_of_layer l.self) (take l.place l.self.layers)
