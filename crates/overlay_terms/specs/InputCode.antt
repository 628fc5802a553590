-- Inputs of tiles, and tiles, as data that a model's value may hold.
use Rattle.std.specs.Prelude.{ℕ, ℤ, ◌⊎◌, ◌≡◌, List, refl}
use Rattle.std.proofs.Common.{inl, inr}
use Rattle.std.specs.Coded.{Coded, code_by, coded_list, coded⊎, coded×, coded_ℕ, coded_ℤ}
use Rattle.overlay_terms.specs.Plane.{Point, Segment, WholePoint}
use Rattle.overlay_terms.specs.Layers.{Marked}
use Rattle.overlay_terms.specs.LayerCode.{whole_code}
use Rattle.overlay_terms.specs.Trees.{Steps}
use Rattle.overlay_terms.specs.TreeCode.{steps_code}
use Rattle.overlay_terms.specs.Tiles.{Input}
use Rattle.overlay_terms.specs.Histories.{Tile, pieces, oversize}

abbrev pub segment_code : Coded Segment
segment_code =
    code_by (WholePoint × WholePoint) (coded× whole_code whole_code) (λ s. (s.left, s.right)) (λ p. record { left = p.0; right = p.1 }) (λ _. refl)

abbrev pub point_code : Coded Point
point_code =
    code_by (ℤ × (ℤ × ℤ)) (coded× coded_ℤ (coded× coded_ℤ coded_ℤ)) (λ p. (p.x, (p.y, p.w))) (λ t. record { x = t.0; y = t.1.0; w = t.1.1 }) (λ _. refl)

abbrev pub marked_code : Coded Marked
marked_code =
    code_by (ℕ × Segment) (coded× coded_ℕ segment_code) (λ m. (m.layer, m.segment)) (λ p. record { layer = p.0; segment = p.1 }) (λ _. refl)

abbrev pub input_code : Coded Input
input_code =
    code_by (ℕ × (List Marked × Steps)) (coded× coded_ℕ (coded× (coded_list marked_code) steps_code)) (λ i. (i.column, (i.marked, i.steps))) (λ t. record { column = t.0; marked = t.1.0; steps = t.1.1 }) (λ _. refl)

abbrev pub ends_code : Coded (Point × Point)
ends_code = coded× point_code point_code

abbrev pub tile_parts : Tile → List (Point × Point) ⊎ ℕ
tile_parts (pieces ends) = inl ends
tile_parts oversize = inr 0

abbrev pub tile_from : List (Point × Point) ⊎ ℕ → Tile
tile_from (inl ends) = pieces ends
tile_from (inr k) = oversize

pub tile_back : (t : Tile) → tile_from (tile_parts t) ≡ t
tile_back (pieces ends) = refl
tile_back oversize = refl

abbrev pub tile_code : Coded Tile
tile_code = code_by (List (Point × Point) ⊎ ℕ) (coded⊎ (coded_list ends_code) coded_ℕ) tile_parts tile_from tile_back

abbrev pub built_code : Coded (Input × Tile)
built_code = coded× input_code tile_code
