-- The test of a coordinate, and what may be asked about, have the one range.
use Rattle.std.proofs.Common.{arith}
use Rattle.std.proofs.lemmas.Int.{ints}
use Rattle.overlay_terms.proofs.Coordinates.{passes_in_range, in_range_passes}
use Rattle.range_laws.specs.Ranges.{OneRange, AsksInRange}

-- the denominator 1 leaves the bounds as they are
queries : AsksInRange
queries x y = (
  λ (first, last, low_x, high_x, low_y, high_y). ((low_x, high_x), (low_y, high_y)),
  λ h. (omega (arith, ints), omega (arith, ints), h.0.0, h.0.1, h.1.0, h.1.1),
)

pub one_range : OneRange
one_range = record {
  coordinates = λ z. (passes_in_range z, in_range_passes z);
  queries = queries;
}
