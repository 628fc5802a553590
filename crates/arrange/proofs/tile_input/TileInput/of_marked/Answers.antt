use Rattle.std.proofs.Common.{◌≡◌, ◌≤◌, List, map, length, ap, sym, refl, subst, arith}
use Rattle.std.specs.Prelude.{not}
use Rattle.std.proofs.lemmas.List.Filters.{length-filter_both}
use Rattle.overlay_terms.specs.Column.{touches}
use Rattle.overlay_terms.specs.Layers.{Marked}
use Rattle.overlay_terms.specs.TileLaws.{IsInput}
use Rattle.overlay_terms.specs.Trees.{Steps}
use Rattle.arrange.specs.Marked.{marked_of, kept_in, segments_max}
use Rattle.arrange.proofs.tile_input.TileInput.of_marked.Goals as goal

pub invariant_of-result : goal.invariant_of-result
invariant_of-result c =
    let all : List Marked = map marked_of c.args.marked.now in
    let same : map marked_of c.in_ok-marked.marked.items ≡ kept_in c.args.column all = c.in_ok-marked.ensures in
    let as_many : length (map marked_of c.in_ok-marked.marked.items) ≡ length (kept_in c.args.column all) = ap length same in
    let fewer : length (kept_in c.args.column all) ≤ length all =
    omega (arith, length-filter_both (λ (m : Marked). touches c.args.column m.segment) (λ (m : Marked). not (touches c.args.column m.segment)) (λ m. refl) all) in
    let steps : Steps → Type 0 = λ s. IsInput (record { column = c.args.column; marked = kept_in c.args.column all; steps = s }) in
    let marked : List Marked → Type 0 = λ ms. IsInput (record { column = c.args.column; marked = ms; steps = c.in_ok-steps.steps }) in
    (subst marked (sym same) (subst steps (sym c.in_ok-steps.ensures) c.requires.valid), omega (arith, as_many, fewer, c.requires.few))
