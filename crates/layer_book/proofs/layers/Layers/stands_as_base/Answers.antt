use Rattle.std.proofs.Common.{Some, None, not, ap, sym, ◌∙◌}
use Rattle.layer_book.specs.Layer.{content}
use Rattle.layer_book.proofs.Lookups.{as_base}
use Rattle.layer_book.proofs.layers.Layers.stands_as_base.Goals as goal

pub returns-in-Some : goal.returns-in-Some
returns-in-Some c =
    ap not c.is_derived.ensures ∙ sym (as_base c.args.self.now c.args.name.now (Some (content c.in-Some.layer.now)) c.in-Some.ensures.valid.sound.orderly c.in-Some.ensures.value)

pub returns-in-None : goal.returns-in-None
returns-in-None c = sym (as_base c.args.self.now c.args.name.now None c.in-None.ensures.valid.sound.orderly c.in-None.ensures.value)
