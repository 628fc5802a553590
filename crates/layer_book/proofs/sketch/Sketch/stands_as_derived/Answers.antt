use Rattle.std.proofs.Common.{◌∙◌, rules, tests, ◌&&◌, bytes_eq}
use Rattle.std.proofs.lemmas.Iterator.{YieldsList-from_slice}
use Rattle.std.proofs.lemmas.Iterator.Search.{any_from_yields_List}
use Rattle.overlay_terms.specs.Commands.{is_derived}
use Rattle.layer_book.specs.Sketch.{entry_layer}
use Rattle.layer_book.proofs.Sketches.{any_entry}
use Rattle.layer_book.proofs.sketch.Sketch.stands_as_derived.Goals as goal

pub returns : goal.returns
returns c =
    let items = c.args.self.now.entries.items in
    let name = c.args.name.now in
    let chain = YieldsList-from_slice items (c.iter.ensures.rest ∙ c.as_slice-entries.ensures.value) in
    any_from_yields_List (λ e. bytes_eq (entry_layer e).name name && is_derived (entry_layer e).content) _ _ _ c.any.ensures.ran chain (λ x b q k. search (rules, tests))
    ∙ any_entry (λ layer. bytes_eq layer.name name && is_derived layer.content) items
