use Rattle.std.proofs.Common.{subst}
use Rattle.std.proofs.lemmas.Option.{IfSome_then}
use Rattle.crossing_sweep.specs.StripInput.{StripInput}
use Rattle.crossing_sweep.specs.StripCrossed.{IsStripCrossed}
use Rattle.crossing_sweep.proofs.ColumnFound.{column_found}
use Rattle.crossing_sweep.proofs.pass.cross_while.Goals as goal

pub returns-clause-found : goal.returns-clause-found
returns-clause-found g c =
    IfSome_then c.in_ok-found.found c.in_ok-found.ensures.found (λ f is.
    column_found c.args.input.now c.args.cap c.args.listed f.rows.items f.names.items f.nodes f.tests.items c.of_column-strip_input.ensures.valid
    (subst (λ (i : StripInput). IsStripCrossed i c.args.cap c.args.listed f) c.of_column-strip_input.ensures.value is))
