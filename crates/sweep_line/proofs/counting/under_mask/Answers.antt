use Rattle.std.proofs.Common.{map, ap, ◌∙◌}
use Rattle.overlay_terms.specs.Tiles.{below_bits, midpoint}
use Rattle.arrange.specs.Marked.{marked_of}
use Rattle.exact_point.specs.Place.{place}
use Rattle.exact_point.specs.PlaceOf.{place_of}
use Rattle.sweep_line.proofs.counting.under_mask.Goals as goal

pub returns : goal.returns
returns c k l =
    let marked = map marked_of c.args.marked.now in
    c.mask_below.ensures k l
    ∙ ap (λ p. below_bits marked (midpoint p (place c.known_point-2.result)) k) c.known_point.ensures.value
    ∙ ap (λ r. below_bits marked (midpoint (place_of c.args.piece.now.from) r) k) c.known_point-2.ensures.value
