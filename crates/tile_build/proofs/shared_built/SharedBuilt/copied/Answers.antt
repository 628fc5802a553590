use Rattle.std.proofs.Common.{◌≡◌, ◌≤◌, ap, sym, subst, ◌∙◌, arith}
use Rattle.overlay_terms.specs.Histories.{pieces_max, IsTileAt}
use Rattle.crossing_sweep.specs.StripInput.{part, StripInput}
use Rattle.strip_inputs.proofs.Own.{own_part}
use Rattle.tile_build.specs.Tile.{tile_of}
use Rattle.tile_build.proofs.shared_built.SharedBuilt.copied.Goals as goal

pub invariant_of-result : goal.invariant_of-result
invariant_of-result c =
    let same : part c.in_ok-strip.strip c.column.result ≡ c.args.built.now.0 =
    (λ i. part (c.in_ok-strip.ensures i) (c.column.ensures.value i)) ∙ own_part c.input-input.result.now c.column.ensures.valid ∙ c.input-input.ensures.value in
    let tile : tile_of c.in_ok-tile.tile.value ≡ c.args.built.now.1 = ap tile_of c.in_ok-tile.ensures.ok ∙ c.in_ok-copy.ensures.same ∙ c.tile.ensures.value in
    let first = ap (λ (s : StripInput). s.strip.first) c.in_ok-strip.ensures in
    let last = ap (λ (s : StripInput). s.strip.last) c.in_ok-strip.ensures in (
      subst (λ i. IsTileAt pieces_max i (tile_of c.in_ok-tile.tile.value)) (sym same) (subst (IsTileAt pieces_max c.args.built.now.0) (sym tile) c.input-input.ensures.right),
      (omega (arith, first, c.column.ensures.value), omega (arith, last, c.column.ensures.value)),
    )

pub returns : goal.returns
returns c =
    let same : part c.in_ok-strip.strip c.column.result ≡ c.args.built.now.0 =
    (λ i. part (c.in_ok-strip.ensures i) (c.column.ensures.value i)) ∙ own_part c.input-input.result.now c.column.ensures.valid ∙ c.input-input.ensures.value in
    let tile : tile_of c.in_ok-tile.tile.value ≡ c.args.built.now.1 = ap tile_of c.in_ok-tile.ensures.ok ∙ c.in_ok-copy.ensures.same ∙ c.tile.ensures.value in
    λ i. (same i, tile i)
