use Rattle.std.proofs.Common.{ap, sym, subst}
use Rattle.overlay_terms.specs.Histories.{pieces_max, IsTileAt}
use Rattle.crossing_sweep.specs.StripInput.{part, StripInput}
use Rattle.strip_inputs.specs.Strips.{IsColumnOf}
use Rattle.tile_build.specs.Tile.{tile_of}
use Rattle.tile_build.proofs.shared_built.SharedBuilt.of.Goals as goal

pub invariant_of-result : goal.invariant_of-result
invariant_of-result c = (
  subst (λ (s : StripInput). IsTileAt pieces_max (part s c.args.column) (tile_of c.args.tile.value)) (sym c.in_ok-strip.ensures) c.requires.right,
  subst (λ (s : StripInput). IsColumnOf s c.args.column) (sym c.in_ok-strip.ensures) c.requires.column,
)

pub returns-clause-input : goal.returns-clause-input
returns-clause-input c = ap (λ (s : StripInput). part s c.args.column) c.in_ok-strip.ensures
