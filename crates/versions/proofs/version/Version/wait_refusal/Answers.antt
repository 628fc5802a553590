use Rattle.std.proofs.Common.{Some, None, not, ap, sym, ◌∙◌, if◌then◌else◌}
use Rattle.layer_book.specs.Layer.{content}
use Rattle.layer_book.specs.declared.fault.LayerFault.TheVariants.{NotDerived}
use Rattle.versions.specs.declared.fault.VersionFault.TheVariants.{Layer}
use Rattle.versions.proofs.WaitRefusals.{refusal_is}
use Rattle.versions.proofs.version.Version.wait_refusal.Goals as goal

pub returns-in-None : goal.returns-in-None
returns-in-None c =
    refusal_is c.args.self.now c.args.name.now c.layers.result.now None c.in-None.ensures.valid.sound.orderly c.layers.ensures.value c.in-None.ensures.value

pub returns-then-is_derived : goal.returns-then-is_derived
returns-then-is_derived c =
    ap (λ b. if not b then Some (Layer NotDerived) else None) (sym c.if-is_derived.true ∙ c.is_derived.ensures)
    ∙ refusal_is c.args.self.now c.args.name.now c.layers.result.now (Some (content c.in-Some.layer.now)) c.in-Some.ensures.valid.sound.orderly c.layers.ensures.value c.in-Some.ensures.value

pub returns-else-is_derived : goal.returns-else-is_derived
returns-else-is_derived c =
    ap (λ b. if not b then Some (Layer NotDerived) else None) (sym c.if-is_derived.false ∙ c.is_derived.ensures)
    ∙ refusal_is c.args.self.now c.args.name.now c.layers.result.now (Some (content c.in-Some.layer.now)) c.in-Some.ensures.valid.sound.orderly c.layers.ensures.value c.in-Some.ensures.value
