-- The layouts are fields.
use Rattle.std.proofs.Common.{FitsSigned, ◌≡◌, ◌⊎◌, inl, inr, ℕ, ℤ, true, refl, arith}
use Rattle.std.proofs.lemmas.Int.{fits_signed_from_abs}
use Rattle.std.specs.Int.{w32}
use Rattle.overlay_terms.specs.Plane.{WholePoint, Segment, is_coordinate}
use Rattle.overlay_terms.proofs.Bounds.{abs_within}
use Rattle.overlay_terms.proofs.Coordinates.{passes_in_range}
use Rattle.exact_point.specs.NameCode.{name_back, name_from, name_parts}
use Rattle.store_terms.specs.Fields.{IsField, number}
use Rattle.store_terms.specs.BaseRecord.{coordinate, whole_point, ring, rings}
use Rattle.store_terms.specs.TileRecord.{segment, point_name, piece, named_tile}
use Rattle.store_terms.specs.Catalog.{extent, listed, catalog}
use Rattle.store_terms.proofs.FieldLemmas.{back_1, back_2, back_4, back_8, number_field, signed_field, both_field, made_field, sieved_field, counted_field, repeated_field, either_field, optional_field, one_of_three_field}

coordinate_fits : (z : ℤ) → is_coordinate z ≡ true → FitsSigned w32 z
coordinate_fits z h =
    let range = passes_in_range z h in
    let small = abs_within 1048576 z (record { low = range.0; high = range.1 }) in
    fits_signed_from_abs w32 z (omega arith)

pub coordinate_is : IsField coordinate
coordinate_is = signed_field is_coordinate coordinate_fits

pub whole_point_is : IsField whole_point
whole_point_is = made_field _ _ _ (λ p. refl) (λ p. refl) (both_field coordinate coordinate coordinate_is coordinate_is)

pub ring_is : IsField ring
ring_is = counted_field 2 whole_point (number_field 2 back_2) whole_point_is

pub rings_is : IsField rings
rings_is = sieved_field _ _ (counted_field 2 ring (number_field 2 back_2) ring_is)

pub segment_is : IsField segment
segment_is = sieved_field _ _ (made_field _ _ _ (λ p. refl) (λ p. refl) (both_field whole_point whole_point whole_point_is whole_point_is))

parts_back : (p : WholePoint ⊎ (Segment × Segment ⊎ Segment × ℕ)) → name_parts (name_from p) ≡ p
parts_back (inl v) = refl
parts_back (inr (inl crossed)) = refl
parts_back (inr (inr cut)) = refl

pub point_name_is : IsField point_name
point_name_is = made_field _ _ _ parts_back name_back (one_of_three_field whole_point _ _ whole_point_is (both_field segment segment segment_is segment_is) (both_field segment (number 1) segment_is (number_field 1 back_1)))

pub piece_is : IsField piece
piece_is = sieved_field _ _ (made_field _ _ _ (λ p. refl) (λ p. refl) (both_field segment _ segment_is (both_field point_name point_name point_name_is point_name_is)))

pub named_tile_is : IsField named_tile
named_tile_is = sieved_field _ _ (either_field _ (number 1) (both_field (number 1) _ (number_field 1 back_1) (counted_field 4 piece (number_field 4 back_4) piece_is)) (number_field 1 back_1))

pub extent_is : IsField extent
extent_is = made_field _ _ _ (λ p. refl) (λ p. refl) (both_field (number 8) (number 4) (number_field 8 back_8) (number_field 4 back_4))

pub listed_is : (n : ℕ) → IsField (listed n)
listed_is n = made_field _ _ _ (λ p. refl) (λ p. refl) (both_field _ _ (counted_field 1 (number 1) (number_field 1 back_1) (number_field 1 back_1)) (either_field extent _ extent_is (both_field extent _ extent_is (repeated_field n _ (optional_field extent extent_is)))))

pub catalog_is : (n : ℕ) → IsField (catalog n)
catalog_is n = counted_field 2 (listed n) (number_field 2 back_2) (listed_is n)
