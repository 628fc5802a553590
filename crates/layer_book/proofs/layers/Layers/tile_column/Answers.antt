use Rattle.std.proofs.Common.{Some, None, not, is_some, sym, ap, ◌∙◌, if◌then◌else◌}
use Rattle.layer_book.specs.Layer.{content}
use Rattle.layer_book.specs.declared.fault.LayerFault.TheVariants.{NotDerived, BadColumn}
use Rattle.layer_book.proofs.Lookups.{as_derived}
use Rattle.layer_book.proofs.TileRefusals.{refusal_is}
use Rattle.layer_book.proofs.layers.Layers.tile_column.Goals as goal

pub returns-in_default-clause-refused : goal.returns-in_default-clause-refused
returns-in_default-clause-refused c = refusal_is c.args.self.now c.args.name.now _ None c.in_default.ensures.valid.sound.orderly c.in_default.ensures.value

pub returns-then-not-is_derived-clause-refused : goal.returns-then-not-is_derived-clause-refused
returns-then-not-is_derived-clause-refused c =
    refusal_is c.args.self.now c.args.name.now c.args.column (Some (content c.in-Some.layer.now)) c.in-Some.ensures.valid.sound.orderly c.in-Some.ensures.value
    ∙ ap (λ b. if not b then Some NotDerived else (if is_some c.args.column then None else Some BadColumn)) (sym c.is_derived.ensures ∙ c.if-not-is_derived.true)

pub returns-in-Some-column-clause-accepted : goal.returns-in-Some-column-clause-accepted
returns-in-Some-column-clause-accepted c =
    refusal_is c.args.self.now c.args.name.now c.args.column (Some (content c.in-Some.layer.now)) c.in-Some.ensures.valid.sound.orderly c.in-Some.ensures.value
    ∙ ap (λ b. if not b then Some NotDerived else (if is_some c.args.column then None else Some BadColumn)) (sym c.is_derived.ensures ∙ c.if-not-is_derived.false)
    ∙ ap (λ o. if is_some o then None else Some BadColumn) c.in-Some-column.is

pub returns-in-Some-column-clause-derived : goal.returns-in-Some-column-clause-derived
returns-in-Some-column-clause-derived c =
    as_derived c.args.self.now c.args.name.now (Some (content c.in-Some.layer.now)) c.in-Some.ensures.valid.sound.orderly c.in-Some.ensures.value
    ∙ sym c.is_derived.ensures ∙ c.if-not-is_derived.false

pub returns-in-None-clause-refused : goal.returns-in-None-clause-refused
returns-in-None-clause-refused c =
    refusal_is c.args.self.now c.args.name.now c.args.column (Some (content c.in-Some.layer.now)) c.in-Some.ensures.valid.sound.orderly c.in-Some.ensures.value
    ∙ ap (λ b. if not b then Some NotDerived else (if is_some c.args.column then None else Some BadColumn)) (sym c.is_derived.ensures ∙ c.if-not-is_derived.false)
    ∙ ap (λ o. if is_some o then None else Some BadColumn) c.in-None.is
