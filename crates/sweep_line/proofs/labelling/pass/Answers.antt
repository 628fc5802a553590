use Rattle.std.proofs.Common.{refl}
use Rattle.exact_point.specs.Place.{place}
use Rattle.sweep_line.proofs.PassLemmas.{label_of, passes}
use Rattle.sweep_line.proofs.labelling.pass.Goals as goal

pub returns : goal.returns
returns c =
    passes c.args.piece.now c.args.status.now c.leave.new.self _ (place c.known_point-at.result) c.place_of-place.result c.under-under.result (label_of c.args.piece.now c.under-under.result)
    c.known_point-at.ensures.value c.leave.ensures
    (record {
      bound = c.place_of-place.ensures.bound;
      point = c.place_of-place.ensures.partitioned;
      lowest = c.under-under.ensures.lowest;
      above = c.under-under.ensures.above;
    })
    refl c.in_ok-begin.ensures
