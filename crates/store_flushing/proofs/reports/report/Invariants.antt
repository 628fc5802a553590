use Rattle.std.proofs.Common.{◌≡◌}
use Rattle.store_flushing.proofs.reports.report.Given as goal

-- what failed has changed nothing
abbrev pub invariant-tries : goal.invariant-tries
invariant-tries g l = l.me ≡ l.initial.me
