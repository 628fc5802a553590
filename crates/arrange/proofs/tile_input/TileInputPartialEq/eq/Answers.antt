use Rattle.std.proofs.Common.{◌≡◌, map, sym, ◌∙◌}
use Rattle.std.specs.Cmp.Derive.Mapped.{pointwise-map}
use Rattle.std.specs.Cmp.Lexicographic.{pointwise}
use Rattle.arrange.specs.Marked.{marked_of}
use Rattle.overlay_terms.specs.SameInput.{same_marked}
use Rattle.overlay_terms.proofs.Tests.{three_tests}
use Rattle.arrange.proofs.tile_input.TileInputPartialEq.eq.Goals as goal

pub returns : goal.returns
returns c =
    let a = c.self.inside in
    let b = c.other.inside in
    let marked : c.eq-marked.result ≡ pointwise same_marked (map marked_of a.marked.items) (map marked_of b.marked.items) =
    c.eq-marked.ensures ∙ sym (pointwise-map marked_of same_marked a.marked.items b.marked.items) in
    rw (← c.self.view_is, ← c.other.view_is) (three_tests c.eq-column.ensures marked c.eq-steps.ensures)
