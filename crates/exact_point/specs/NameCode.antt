-- Names of places, and pieces by them, as data that a model's value may hold.
use Rattle.std.specs.Prelude.{ℕ, ◌⊎◌, ◌≡◌, refl}
use Rattle.std.proofs.Common.{inl, inr}
use Rattle.std.specs.Coded.{Coded, code_by, coded⊎, coded×, coded_ℕ}
use Rattle.overlay_terms.specs.Plane.{Segment, WholePoint}
use Rattle.overlay_terms.specs.LayerCode.{whole_code}
use Rattle.overlay_terms.specs.InputCode.{segment_code}
use Rattle.exact_point.specs.NamedPiece.{NamedPiece}
use Rattle.exact_point.specs.declared.point_name.PointName.{PointName}
use Rattle.exact_point.specs.declared.point_name.PointName.TheVariants.{Vertex, Cross, Border}

-- a name of a place is one of three: a point; two segments; a segment, and the column whose border cuts it
abbrev pub name_parts : PointName → WholePoint ⊎ (Segment × Segment ⊎ Segment × ℕ)
name_parts (Vertex v) = inl v
name_parts (Cross a b) = inr (inl (a, b))
name_parts (Border s k) = inr (inr (s, k))

-- the name of a place that has these parts
abbrev pub name_from : WholePoint ⊎ (Segment × Segment ⊎ Segment × ℕ) → PointName
name_from (inl v) = Vertex v
name_from (inr (inl crossed)) = Cross crossed.0 crossed.1
name_from (inr (inr cut)) = Border cut.0 cut.1

pub name_back : (name : PointName) → name_from (name_parts name) ≡ name
name_back (Vertex v) = refl
name_back (Cross a b) = refl
name_back (Border s k) = refl

abbrev pub name_code : Coded PointName
name_code =
    code_by (WholePoint ⊎ (Segment × Segment ⊎ Segment × ℕ)) (coded⊎ whole_code (coded⊎ (coded× segment_code segment_code) (coded× segment_code coded_ℕ))) name_parts name_from name_back

abbrev pub piece_code : Coded NamedPiece
piece_code =
    code_by (Segment × (PointName × PointName)) (coded× segment_code (coded× name_code name_code)) (λ p. (p.support, (p.from, p.to))) (λ t. record { support = t.0; from = t.1.0; to = t.1.1 }) (λ _. refl)
