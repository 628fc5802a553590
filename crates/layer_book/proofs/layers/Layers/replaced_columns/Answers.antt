use Rattle.std.proofs.Common.{not, Some, map, filter, ap, sym, subst, ◌∙◌}
use Rattle.std.specs.Cmp.Lexicographic.{pointwise}
use Rattle.overlay_terms.specs.Plane.{segments_of}
use Rattle.overlay_terms.specs.Column.{columns, touches}
use Rattle.overlay_terms.specs.SameInput.{same_segment}
use Rattle.overlay_terms.specs.Commands as terms
use Rattle.layer_book.specs.Command.{command}
use Rattle.layer_book.specs.Layer.{content}
use Rattle.layer_book.specs.Touching.{AreOfAllOver}
use Rattle.layer_book.proofs.ReplacedLemmas.{put_touches}
use Rattle.layer_book.proofs.layers.Layers.replaced_columns.Goals as goal

pub returns-in-Some-Base : goal.returns-in-Some-Base
returns-in-Some-Base c =
    let layers = c.args.self.now in
    let name = c.in-Put.name in
    let new = c.in-Put.rings.value in
    let old = c.in-Some-Base.old.value in
    let row = c.differing_columns.result in
    let found = ap (λ l. Some (content l)) (sym c.in-Some-Base.field-0-is) ∙ c.in-Some-Base.ensures.value in
    let news = c.segs.ensures.value ∙ ap segments_of c.deref.ensures in
    let olds = c.segs-in-Some-Base.ensures.value ∙ ap segments_of c.deref-in-Some-Base.ensures in
    let told = c.differing_columns.ensures ∙ (λ i. map (λ k. not (pointwise same_segment (filter (touches k) (news i)) (filter (touches k) (olds i)))) columns) in
    subst (λ (change : terms.Command). AreOfAllOver layers change row) (sym (ap command c.in-Put.is))
    (λ own over. told ∙ put_touches name old new layers c.in-Some-Base.ensures.valid.sound.orderly found own over)
