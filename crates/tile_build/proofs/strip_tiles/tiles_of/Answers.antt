use Rattle.std.proofs.Common.{◌≤◌, List, map, length, sym, subst, arith}
use Rattle.std.specs.Prelude.{All}
use Rattle.crossing_sweep.specs.Crossed.{IsRowSpan}
use Rattle.crossing_sweep.specs.NodeNames.{named_ends, AreNumbered}
use Rattle.crossing_sweep.specs.StripInput.{IsStripTile}
use Rattle.crossing_sweep.specs.declared.node_name.NodeName.{NodeName}
use Rattle.crossing_sweep.specs.declared.row.Row.{Row}
use Rattle.tile_build.proofs.strip_tiles.tiles_of.Goals as goal

pub split-requires-clause-spans : goal.split-requires-clause-spans
split-requires-clause-spans c =
    subst (λ (ns : List NodeName). All (IsRowSpan ns) c.deref-2.result.now) (sym c.deref.ensures.value)
    (subst (λ (rs : List Row). All (IsRowSpan c.args.found.names.items) rs) (sym c.deref-2.ensures.value) c.requires.spans)

pub split-requires-clause-numbered : goal.split-requires-clause-numbered
split-requires-clause-numbered c = subst AreNumbered (sym c.deref.ensures.value) c.requires.numbered

pub split-requires-clause-tile : goal.split-requires-clause-tile
split-requires-clause-tile c =
    let few : length c.args.found.rows.items ≤ 65536 = omega arith in
    subst (λ (ns : List NodeName). IsStripTile c.args.input.now (map (named_ends ns) c.deref-2.result.now)) (sym c.deref.ensures.value)
    (subst (λ (rs : List Row). IsStripTile c.args.input.now (map (named_ends c.args.found.names.items) rs)) (sym c.deref-2.ensures.value) (c.requires.tile few))

pub split-requires-clause-few : goal.split-requires-clause-few
split-requires-clause-few c = subst (λ (rs : List Row). length rs ≤ 65536) (sym c.deref-2.ensures.value) (omega arith)
