use Rattle.std.proofs.Common.{rules, subst, sym}
use Rattle.overlay_terms.specs.Histories.{pieces_max, IsTileAt}
use Rattle.tile_build.specs.Tile.{tile_of}
use Rattle.versions.proofs.NextVersion.{follows_same}
use Rattle.versions.proofs.version.Version.finish_with.Goals as goal

pub with_tile-requires-clause-right : goal.with_tile-requires-clause-right
with_tile-requires-clause-right c =
    subst (λ i. IsTileAt pieces_max i (tile_of c.in_ok-tile.tile.value)) (sym c.input-input.ensures.value)
    (subst (IsTileAt pieces_max c.args.built.now.0) (sym c.in_ok-tile.ensures.value) c.in_ok-tile.ensures.right)

pub returns-in_ok-with_tile-clause-kept : goal.returns-in_ok-with_tile-clause-kept
returns-in_ok-with_tile-clause-kept c =
    follows_same c.args.self.now c.in_ok-with_tile.field-0 c.args.name.now c.input-input.result.now c.args.built.now.0 c.args.built.now.1 (tile_of c.in_ok-tile.tile.value)
    c.input-input.ensures.value c.in_ok-tile.ensures.value c.in_ok-with_tile.ensures

-- found by search alone: it is here so that a wrong body is refused without working out what to write
pub returns-in_ok-with_tile-clause-exactly : goal.returns-in_ok-with_tile-clause-exactly
returns-in_ok-with_tile-clause-exactly c = search rules
