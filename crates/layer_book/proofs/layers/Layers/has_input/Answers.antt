use Rattle.std.proofs.Common.{◌≡◌, map, subst, IsTrue}
use Rattle.std.specs.Prelude.{◌↔◌}
use Rattle.overlay_terms.specs.Tiles.{input_of}
use Rattle.arrange.specs.Marked.{marked_of}
use Rattle.layer_book.proofs.HavingLemmas.{own_part}
use Rattle.layer_book.proofs.layers.Layers.has_input.Goals as goal

pub returns : goal.returns
returns c =
    let layers = c.args.self.now in
    let name = c.args.name.now in
    let input = c.args.input.now in
    let same = own_part input c.column.result (map marked_of c.marked.result.now) c.steps.result.now c.column.ensures.value c.marked.ensures.value c.steps.ensures.value c.column.ensures.valid in
    subst (λ k. IsTrue c.has_part.result ↔ (input ≡ input_of layers name k)) c.column.ensures.value
    (subst (λ i. IsTrue c.has_part.result ↔ (i ≡ input_of layers name c.column.result)) same c.has_part.ensures)
