-- A tile of four pieces is within a cap of four, and more than a cap of three.
use Rattle.std.proofs.Common.{◌≡◌, true, false, nat_le, [], ◌∷◌, refl, map, length, codes}
use Rattle.overlay_terms.specs.Histories.{pieces_max}
use Rattle.overlay_terms.proofs.Rows.Shared.{place, tile_among}
use Rattle.overlay_terms.proofs.Rows.FirstRun.{first_run}

four_pieces_are_within_four_and_beyond_three : map (nat_le (length (tile_among (place 5 5 ∷ place 5 10 ∷ place 10 5 ∷ place 10 10 ∷ []) first_run (codes "I") 16))) (3 ∷ 4 ∷ pieces_max ∷ []) ≡ false ∷ true ∷ true ∷ []
four_pieces_are_within_four_and_beyond_three = refl

a_tile_holds_at_most_65536 : pieces_max ≡ 65536
a_tile_holds_at_most_65536 = refl
