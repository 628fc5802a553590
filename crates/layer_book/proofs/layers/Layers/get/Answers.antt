use Rattle.std.proofs.Common.{◌≡◌, ◌∙◌, ap, slice_get}
use Rattle.std.specs.Option.{option_map}
use Rattle.overlay_terms.specs.Layers.{Layer}
use Rattle.layer_book.proofs.Wanted.{content_there}
use Rattle.layer_book.proofs.layers.Layers.get.Goals as goal

pub returns-in-Some-clause-value : goal.returns-in-Some-clause-value
returns-in-Some-clause-value c =
    ap (option_map (λ (layer : Layer). layer.content)) (c.in-Some.ensures ∙ ap (slice_get c.args.self.now) c.index_of.ensures) ∙ content_there c.args.self.now c.args.name.now

pub returns-in-None-clause-value : goal.returns-in-None-clause-value
returns-in-None-clause-value c =
    ap (option_map (λ (layer : Layer). layer.content)) (c.in-None.ensures ∙ ap (slice_get c.args.self.now) c.index_of.ensures) ∙ content_there c.args.self.now c.args.name.now
