use Rattle.std.proofs.Common.{rules}
use Rattle.layer_expr.proofs.name.is_well_formed.Goals as goal

-- found by search alone; written here so that a wrong body is refused without working out what to write
pub returns-then-bytes-le-NAME_MAX-clause-value : goal.returns-then-bytes-le-NAME_MAX-clause-value
returns-then-bytes-le-NAME_MAX-clause-value c = search rules
