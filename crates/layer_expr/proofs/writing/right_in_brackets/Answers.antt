use Rattle.std.proofs.Common.{rules}
use Rattle.layer_expr.proofs.writing.right_in_brackets.Goals as goal

-- found by search alone; written here so that a wrong body is refused without working out what to write
pub returns-else-is_times : goal.returns-else-is_times
returns-else-is_times c = search rules
