use Rattle.std.proofs.Common.{◌++◌, reverse}
use Rattle.feature_windows.specs.Windows.{AreWindows}
use Rattle.feature_windows.proofs.halving.windows.Given as goal

-- those that are done make up the core with those that are left
abbrev pub invariant-loop : goal.invariant-loop
invariant-loop l = AreWindows l.features l.members l.count l.core (l.done.items ++ reverse l.left.items)
