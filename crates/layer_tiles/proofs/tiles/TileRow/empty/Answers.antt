use Rattle.std.proofs.Common.{◌++◌, ◌∷◌, [], ◌≡◌, None, map, ap, ◌∙◌, arith, rules}
use Rattle.std.proofs.lemmas.List.{map_push, replicate_more}
use Rattle.overlay_terms.specs.Column.{column_count}
use Rattle.layer_tiles.specs.Table.{tile_in_slot}
use Rattle.layer_tiles.proofs.tiles.TileRow.empty.Goals as goal

pub loop-preserved : goal.loop-preserved
loop-preserved c =
    ap (map tile_in_slot) c.in_ok-push.ensures.items ∙ map_push tile_in_slot c.loop.slots.items _ ∙ (λ t. c.loop.invariant t ++ None ∷ []) ∙ replicate_more c.loop.counter None

pub returns : goal.returns
returns c =
    let all : c.loop.counter ≡ column_count = omega (arith, c.loop-test.false, c.loop.auto.counter-end) in
    search rules
