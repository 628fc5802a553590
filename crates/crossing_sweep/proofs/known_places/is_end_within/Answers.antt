use Rattle.std.proofs.Common.{rules, ◌≡◌, ◌+◌, to_z, of_z}
use Rattle.std.specs.Int.{w64}
use Rattle.overlay_terms.specs.Column.{border}
use Rattle.exact_point.proofs.Readings.{whole_is}
use Rattle.crossing_sweep.proofs.KnownEnds.{whole_within}
use Rattle.crossing_sweep.proofs.known_places.is_end_within.Goals as goal

pub returns : goal.returns
returns c =
    let k = c.args.strip in
    let x : to_z w64 (of_z w64 c.x-x.result) ≡ c.args.vertex.x = whole_is c.x-x.ensures.in_range c.x-x.ensures.value in
    let left : to_z w64 (of_z w64 c.border.result) ≡ border k.first = whole_is c.border.ensures.in_range c.border.ensures.value in
    let right : to_z w64 (of_z w64 c.end.result) ≡ border (k.last + 1) = search rules in
    rw (x, left, right) (whole_within k c.args.vertex)
