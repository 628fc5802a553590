use Rattle.std.proofs.Common.{rules}
use Rattle.layer_book.proofs.wanted_layers.with_expression.Goals as goal

-- found by search alone: it is here so that a wrong body is refused without working out what to write
pub returns-in-Derived : goal.returns-in-Derived
returns-in-Derived c = search rules
