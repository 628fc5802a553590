use Rattle.std.proofs.Common.{◌≡◌, ◌+◌, ◌<◌, ℕ, IfSome, length, get_or, subst}
use Rattle.overlay_terms.specs.Histories.{Tile}
use Rattle.overlay_terms.specs.Tiles.{Input}
use Rattle.crossing_sweep.specs.StripInput.{part, StripInput}
use Rattle.version_book.proofs.StripLemmas.{all_next}
use Rattle.tile_workers.proofs.worker.finish_whole.Goals as goal

pub finish_strip-requires-clause-tiles : goal.finish_strip-requires-clause-tiles
finish_strip-requires-clause-tiles g c =
    let input : StripInput = c.input.result.now in
    let each = subst (λ o. IfSome o (λ list. length list.items + input.strip.first ≡ input.strip.last + 1)) c.in-Some.is c.in_ok-done.ensures.each in
    let inputs = subst (λ o. IfSome o (λ list. (i : ℕ) (d : Input × Tile) → i < length list.items → (get_or list.items i d).0 ≡ part input (input.strip.first + i))) c.in-Some.is c.in_ok-done.ensures.inputs in
    all_next c.args.strip.now input c.deref.result.now c.in-Some.built.items c.requires.whole c.input.ensures.value c.deref.ensures.value each inputs
