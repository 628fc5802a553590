-- As many ports are open as pairs were gone through.
use Rattle.std.proofs.Common.{◌≡◌, length}
use Rattle.overlay_live.proofs.ports.open_ports.Given as goal

abbrev pub invariant-pairs : goal.invariant-pairs
invariant-pairs g l = length l.ports.items ≡ l.pair-index
