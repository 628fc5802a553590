use Rattle.std.proofs.Common.{◌≡◌, ◌++◌}
use Rattle.std.specs.List.{range_with_len}
use Rattle.versions.specs.Pending.{pending_in}
use Rattle.versions.proofs.version.Version.add_pending.Given as goal

-- the tiles of the columns so far are added
abbrev pub invariant-loop-column : goal.invariant-loop-column
invariant-loop-column l = l.list.items ≡ l.initial.list.items ++ pending_in l.self l.name (range_with_len 0 l.column)
