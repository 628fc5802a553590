use Rattle.std.proofs.Common.{◌∙◌, rules, tests}
use Rattle.std.proofs.lemmas.Iterator.{YieldsList-from_slice}
use Rattle.std.proofs.lemmas.Iterator.Search.{any_from_yields_List}
use Rattle.overlay_terms.specs.Commands.{uses}
use Rattle.layer_book.specs.Sketch.{entry_layer}
use Rattle.layer_book.proofs.Sketches.{any_entry}
use Rattle.layer_book.proofs.sketch.Sketch.is_used.Goals as goal

pub returns : goal.returns
returns c =
    let items = c.args.self.now.entries.items in
    let name = c.args.name.now in
    let chain = YieldsList-from_slice items (c.iter.ensures.rest ∙ c.as_slice-entries.ensures.value) in
    any_from_yields_List (λ e. uses name (entry_layer e).content) _ _ _ c.any.ensures.ran chain (λ x b q k. search (rules, tests))
    ∙ any_entry (λ layer. uses name layer.content) items
