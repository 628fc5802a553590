use Rattle.std.proofs.Common.{◌≡◌, ℕ, ◌<◌, ◌≤◌, length, Bool, true, false, IsTrue, ◌↔◌, IfSome, ⊎_elim, ap, subst, sym, ◌∙◌, arith}
use Rattle.std.proofs.lemmas.Bool.{cases_lt}
use mathlib.Core.Bool.{true≢false}
use Rattle.overlay_terms.specs.Histories.{Tile}
use Rattle.overlay_terms.specs.Tiles.{Input}
use Rattle.crossing_sweep.specs.StripInput.{part}
use Rattle.version_book.specs.Strips.{AreNext, HandedStrip}
use Rattle.version_book.proofs.StripLemmas.{one_next}
use Rattle.tile_workers.proofs.worker.finish_apart.Goals as goal

-- a strip of which not each tile is spent has a next one
not_past : (b : Bool) (last next : ℕ) → (IsTrue b ↔ (last < next)) → b ≡ false → next ≤ last
not_past b last next is e = ⊎_elim (λ h. absurd (true≢false (sym (is.1 h) ∙ e))) (λ h. h) (cases_lt last next)

pub build_next-requires : goal.build_next-requires
build_next-requires g c = not_past c.is_spent.result c.tiles.strip.input.strip.last c.tiles.strip.next c.is_spent.ensures c.tiles-test.true

pub finish_strip-requires : goal.finish_strip-requires
finish_strip-requires g c =
    let left = not_past c.is_spent.result c.tiles.strip.input.strip.last c.tiles.strip.next c.is_spent.ensures c.tiles-test.true in
    let input = subst (λ o. IfSome o (λ (built : Input × Tile). built.0 ≡ part c.tiles.strip.input c.tiles.strip.next)) c.in-Some.is c.in-Ok.ensures in
    record {
      book = c.tiles.invariant ∙ c.requires;
      tiles = subst (AreNext c.tiles.strip) (sym c.from_ref.ensures.value) (one_next c.tiles.strip c.in-Some.built left input);
    }

pub tiles-preserved : goal.tiles-preserved
tiles-preserved g c = c.finish_strip.ensures.same ∙ c.tiles.invariant

pub tiles-smaller : goal.tiles-smaller
tiles-smaller g c =
    let left = not_past c.is_spent.result c.tiles.strip.input.strip.last c.tiles.strip.next c.is_spent.ensures c.tiles-test.true in
    let finished = c.in-Ok-finish_strip.ensures.finished.1 in
    let one : 1 ≡ length c.from_ref.result.now = sym c.from_ref.ensures.len in
    omega (arith, left, finished.some (omega (arith, one)), ap (λ (s : HandedStrip). s.next) finished.spent, ap (λ (s : HandedStrip). s.input.strip.last) finished.spent)
