use Rattle.std.proofs.Common.{◌<◌, ◌≤◌, length, subst}
use Rattle.std.proofs.lemmas.List.{take_all}
use Rattle.std.specs.Prelude.{IsTrue, IfSome}
use Rattle.std.specs.List.{All}
use Rattle.overlay_terms.specs.Layers.{Name, Layer}
use Rattle.overlay_terms.specs.Commands.{stands_as_derived}
use Rattle.layer_book.proofs.Answering.{layer_there}
use Rattle.version_book.specs.Free.{AreHeld}
use Rattle.book_history.proofs.Holding.{one_more, of_named}
use Rattle.version_book.proofs.pending.free.Goals as goal

pub loop-place-preserved : goal.loop-place-preserved
loop-place-preserved c =
    let layers = c.args.version.now.layers in
    let i = c.loop-place.place in
    let held : Layer → Type 0 = λ layer. IsTrue (stands_as_derived layers layer.name) → AreHeld c.args.version.now c.args.held.now.list.items layer.name in
    let inside : i < length layers =
    subst (λ ls. i < length ls) c.layers.ensures.value (subst (λ n. i < n) c.len-place-end.ensures.value c.loop-place-test.true) in
    let there = layer_there layers i inside in
    one_more held layers i there.0 there.1 c.loop-place.invariant (subst (λ o. IfSome o held) there.1 c.in_default-free_at.ensures.none)

pub returns-clause-none : goal.returns-clause-none
returns-clause-none c name stands =
    let version = c.args.version.now in
    let layers = version.layers in
    let held : Name → Type 0 = λ n. IsTrue (stands_as_derived layers n) → AreHeld version c.args.held.now.list.items n in
    let i = c.loop-place.place in
    let whole : length layers ≤ i =
    subst (λ ls. length ls ≤ i) c.layers.ensures.value (subst (λ n. n ≤ i) c.len-place-end.ensures.value c.loop-place-test.false) in
    of_named held layers name (subst (All (λ (layer : Layer). held layer.name)) (take_all i layers whole) c.loop-place.invariant) stands stands
