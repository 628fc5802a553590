use Rattle.std.proofs.Common.{map, not, ap, sym, ◌∙◌}
use Rattle.overlay_terms.specs.Column.{columns}
use Rattle.overlay_terms.specs.Tiles.{input_of}
use Rattle.overlay_terms.specs.SameInput.{same_input}
use Rattle.overlay_terms.specs.Commands.{stands_as_derived}
use Rattle.overlay_terms.specs.Touched.{name_of}
use Rattle.layer_book.specs.Command.{command}
use Rattle.layer_book.proofs.OverNames.{over_derived}
use Rattle.layer_book.proofs.TouchedLemmas.{none_touched, all_touched, changed_touched}
use Rattle.layer_book.proofs.layers.Layers.touched_columns.Goals as goal

pub returns-then-not-is_over : goal.returns-then-not-is_over
returns-then-not-is_over c =
    none_touched c.args.self.now (command c.args.change.now) c.args.name.now c.requires.book.sound.orderly c.requires.accepted (sym c.requires.over ∙ c.if-not-is_over.true)

pub returns-then-not-stands_as_derived : goal.returns-then-not-stands_as_derived
returns-then-not-stands_as_derived c =
    let change = command c.args.change.now in
    all_touched c.args.self.now change c.args.name.now
    (over_derived c.args.self.now c.args.name.now (name_of change) (sym c.requires.over ∙ c.if-not-is_over.false))
    (sym (c.stands_as_derived.ensures ∙ ap (λ ls. stands_as_derived ls c.args.name.now) c.requires.made) ∙ c.if-not-stands_as_derived.true)

pub changed_columns-requires-clause-before : goal.changed_columns-requires-clause-before
changed_columns-requires-clause-before c =
    over_derived c.args.self.now c.args.name.now (name_of (command c.args.change.now)) (sym c.requires.over ∙ c.if-not-is_over.false)

pub returns : goal.returns
returns c =
    let change = command c.args.change.now in
    c.in_ok-row.ensures
    ∙ ap (λ ls. map (λ k. not (same_input (input_of ls c.args.name.now k) (input_of c.args.self.now c.args.name.now k))) columns) c.requires.made
    ∙ changed_touched c.args.self.now change c.args.name.now
    (over_derived c.args.self.now c.args.name.now (name_of change) (sym c.requires.over ∙ c.if-not-is_over.false))
    (sym (c.stands_as_derived.ensures ∙ ap (λ ls. stands_as_derived ls c.args.name.now) c.requires.made) ∙ c.if-not-stands_as_derived.false)
