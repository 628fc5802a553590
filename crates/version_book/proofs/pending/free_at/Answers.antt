use Rattle.std.proofs.Common.{rules, arith, below_more, ◌≡◌, ℕ, ◌<◌, ◌≤◌, ◌+◌, true, None, ⊎_elim, refl, sym, ◌∙◌, subst}
use Rattle.std.specs.Prelude.{IsTrue, IfSome, is_some}
use Rattle.std.proofs.lemmas.Bool.{cases_lt, false≢true}
use Rattle.overlay_terms.specs.Column.{column_count}
use Rattle.overlay_terms.specs.Layers.{Layer}
use Rattle.overlay_terms.specs.Commands.{stands_as_derived}
use Rattle.overlay_terms.specs.Histories.{tile_at}
use Rattle.layer_book.specs.Layer.{IsBook, named_layer}
use Rattle.version_book.specs.Free.{AreHeld}
use Rattle.version_book.specs.HeldTiles.{is_held}
use Rattle.version_book.proofs.RowLooks.{derived_here, no_tile_there, tile_there}
use Rattle.version_book.proofs.pending.free_at.Goals as goal
use Rattle.version_book.proofs.pending.free_at.Goals.{else-not-has-via-then-not-has+else-not-has-2, else-not-has-via-else-not-has}

pub returns-in_default-clause-none : goal.returns-in_default-clause-none
returns-in_default-clause-none c =
    let version = c.args.version.now in
    let held : Layer → Type 0 = λ layer. IsTrue (stands_as_derived version.layers layer.name) → AreHeld version c.args.held.now.list.items layer.name in
    subst (λ o. IfSome o held) c.in_default.ensures.layer tt

pub returns-then-not-is_derived-clause-none : goal.returns-then-not-is_derived-clause-none
returns-then-not-is_derived-clause-none c =
    let version = c.args.version.now in
    let layers = version.layers in
    let held : Layer → Type 0 = λ layer. IsTrue (stands_as_derived layers layer.name) → AreHeld version c.args.held.now.list.items layer.name in
    let layer : Layer = named_layer (c.in-Some.name.now, c.in-Some.layer.now) in
    let book : IsBook layers = subst IsBook c.layers.ensures.value c.len.ensures.valid in
    subst (λ o. IfSome o held) c.in-Some.ensures.layer
    (λ yes. absurd (false≢true (sym (derived_here layers c.args.place layer book c.in-Some.ensures.layer ∙ sym c.is_derived.ensures ∙ c.if-not-is_derived.true) ∙ yes)))

pub returns-then-is_built-clause-none : goal.returns-then-is_built-clause-none
returns-then-is_built-clause-none c =
    let version = c.args.version.now in
    let held : Layer → Type 0 = λ layer. IsTrue (stands_as_derived version.layers layer.name) → AreHeld version c.args.held.now.list.items layer.name in
    subst (λ o. IfSome o held) c.in-Some.ensures.layer
    (λ _ k low none. absurd (false≢true (subst (λ o. IsTrue (is_some o)) none (c.is_built.ensures.0 c.if-is_built.true k low))))

pub returns-then-not-has-2-clause-some : goal.returns-then-not-has-2-clause-some
returns-then-not-has-2-clause-some c =
    let version = c.args.version.now in
    let layers = version.layers in
    let name = c.in-Some.name.now in
    let column = c.column_around-column.result in
    let layer : Layer = named_layer (name, c.in-Some.layer.now) in
    let book : IsBook layers = subst IsBook c.layers.ensures.value c.len.ensures.valid in
    let stands : stands_as_derived layers name ≡ true = derived_here layers c.args.place layer book c.in-Some.ensures.layer ∙ sym c.is_derived.ensures ∙ c.if-not-is_derived.false in
    let there : column < column_count = search rules in
    record {
      pending = (stands, no_tile_there (tile_at version.tiles name) column c.in-Some.row.now c.in-Some.ensures.row there (sym c.has.ensures ∙ c.if-not-has.true));
      there = there;
      free = sym c.has-then-not-has.ensures ∙ c.if-not-has-2.true;
    }

pub loop-step-preserved : goal.loop-step-preserved
loop-step-preserved c =
    let name = c.in-Some.name.now in
    let tiles = tile_at c.args.version.now.tiles name in
    let held : ℕ → Type 0 = λ k. tiles k ≡ None → is_held name k c.args.held.now.list.items ≡ true in
    let column = c.column_around-column.result in
    let number = c.if-from-lt-COLUMN_COUNT.first + c.loop-step.step in
    let there : column < column_count = search rules in
    let here : held column = elim c.else-not-has.branch [
      | else-not-has-via-then-not-has+else-not-has-2 w ↦ λ none. sym w.has-then-not-has.ensures ∙ w.if-not-has-2.false
      | else-not-has-via-else-not-has w ↦ λ none. absurd (tile_there tiles column c.in-Some.row.now c.in-Some.ensures.row there (sym c.has.ensures ∙ w.if-not-has.false) none)
    ] in
    record {
      ahead = λ k near. below_more (λ n. c.if-from-lt-COLUMN_COUNT.first ≤ n → n < column_count → held n) number c.loop-step.invariant.ahead
          (λ _ low. subst held (c.column_around-column.ensures.ahead low) here) k (omega (arith, near));
      behind = λ k near. below_more (λ n. (k : ℕ) → k + column_count ≡ n → held k) number c.loop-step.invariant.behind
          (λ k is. subst held (omega (arith, is, c.column_around-column.ensures.behind (omega (arith, is)))) here) k (omega (arith, near));
    }

pub returns-clause-none : goal.returns-clause-none
returns-clause-none c =
    let version = c.args.version.now in
    let held : Layer → Type 0 = λ layer. IsTrue (stands_as_derived version.layers layer.name) → AreHeld version c.args.held.now.list.items layer.name in
    let first = c.if-from-lt-COLUMN_COUNT.first in
    let all = c.loop-step-test.false in
    subst (λ o. IfSome o held) c.in-Some.ensures.layer
    (λ _ k low. ⊎_elim (λ before. c.loop-step.invariant.behind (k + column_count) (omega (arith, before, all)) k refl)
    (λ from. c.loop-step.invariant.ahead k (omega (arith, low, all)) from low) (cases_lt k first))
