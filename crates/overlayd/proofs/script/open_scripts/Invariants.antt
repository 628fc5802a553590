-- As many scripts are opened as paths were gone through.
use Rattle.std.proofs.Common.{◌≡◌, length}
use Rattle.overlayd.proofs.script.open_scripts.Given as goal

abbrev pub invariant-paths : goal.invariant-paths
invariant-paths g l = length l.scripts.items ≡ l.path-index
