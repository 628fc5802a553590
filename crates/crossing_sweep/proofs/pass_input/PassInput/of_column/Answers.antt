use Rattle.crossing_sweep.proofs.StripLemmas.{column_valid}
use Rattle.crossing_sweep.proofs.pass_input.PassInput.of_column.Goals as goal

pub invariant_of-result : goal.invariant_of-result
invariant_of-result c =
    rw (c.marked.ensures.value, c.steps.ensures.value, c.new.ensures, c.column-column.ensures.value) (column_valid c.args.input.now c.column-column.ensures.valid, c.marked.ensures.fits)
