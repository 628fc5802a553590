-- The test of a coordinate says just that it is in range.
use Rattle.std.specs.Prelude.{◌≡◌, ℤ, pos, neg_ℤ, int_le, true}
use Rattle.std.proofs.lemmas.Bool.{and_parts, and_from}
use Rattle.overlay_terms.specs.Plane.{InRange, coordinate_max, is_coordinate}
use Rattle.overlay_terms.proofs.InputNumbers.{le_true, true_le}

pub passes_in_range : (z : ℤ) → is_coordinate z ≡ true → InRange z
passes_in_range z h =
    let parts = and_parts (int_le (neg_ℤ (pos coordinate_max)) z) (int_le z (pos coordinate_max)) h in
    (le_true (neg_ℤ (pos coordinate_max)) z parts.0, le_true z (pos coordinate_max) parts.1)

pub in_range_passes : (z : ℤ) → InRange z → is_coordinate z ≡ true
in_range_passes z h =
    and_from (int_le (neg_ℤ (pos coordinate_max)) z) (int_le z (pos coordinate_max))
    (true_le (neg_ℤ (pos coordinate_max)) z h.0) (true_le z (pos coordinate_max) h.1)
