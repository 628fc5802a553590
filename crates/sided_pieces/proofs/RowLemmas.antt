-- The rows of a pass, as pieces with their sides.
use Rattle.std.proofs.Common.{◌≡◌, ℕ, ◌≤◌, Bool, List, map, length, ap, sym, subst, ◌∙◌}
use Rattle.std.specs.Prelude.{All, IsTrue}
use Rattle.std.proofs.lemmas.Simd.{map-map}
use Rattle.std.proofs.lemmas.List.Elements.{All-map}
use Rattle.overlay_terms.specs.Plane.{is_on}
use Rattle.crossing_sweep.specs.StripCrossed.{IsStripCrossed}
use Rattle.crossing_sweep.specs.StripInput.{StripInput, IsStripTile}
use Rattle.crossing_sweep.specs.declared.node_name.NodeName.{NodeName}
use Rattle.crossing_sweep.specs.declared.pass.Crossed.{Crossed}
use Rattle.crossing_sweep.specs.declared.row.Row.{Row}
use Rattle.swept_area.specs.Swept.{Sided}
use Rattle.swept_area.specs.SweptLaws.{IsSegment}
use Rattle.swept_area.specs.declared.piece.SidedPiece.{SidedPiece}
use Rattle.sided_pieces.specs.Sided.{sided_of, named, ends_of, AreSided, HasSide, IsOnItsSupport}

-- both ends lie on the support
AreOn : Sided → Type 0
AreOn a = IsTrue (is_on a.support a.from) × IsTrue (is_on a.support a.to)

-- pieces that are the rows of a pass, where these are no more than its cap, are those of the strip with their sides
pub sided_rows : (input : StripInput) (cap : ℕ) (listed : Bool) (found : Crossed) (pieces : List SidedPiece) → IsStripCrossed input cap listed found → length found.rows.items ≤ cap
    → map sided_of pieces ≡ map (named found.names.items) found.rows.items → All (λ p. IsSegment p.support) pieces → AreSided input (map sided_of pieces)
unfolding AreOn
sided_rows input cap listed found pieces is few same segments = record { tile = tile; supports = supports; sides = sides }
  where
    rows : List Row
    rows = found.rows.items

    names : List NodeName
    names = found.names.items

    tile : IsStripTile input (map ends_of (map sided_of pieces))
    tile = subst (IsStripTile input) (sym (ap (map ends_of) same ∙ map-map ends_of (named names) rows)) (is.tile few)

    first : All (λ a. IsSegment a.support) (map sided_of pieces)
    first = All-map (λ (a : Sided). IsSegment a.support) sided_of pieces segments

    on : All AreOn (map sided_of pieces)
    on = subst (All AreOn) (sym same) (All-map AreOn (named names) rows (λ i d l. ((is.spans i d l).from_on, (is.spans i d l).to_on)))

    supports : All IsOnItsSupport (map sided_of pieces)
    supports = λ i d l. record { first = first i d l; from_on = (on i d l).0; to_on = (on i d l).1 }

    sides : All (HasSide input.marked input.steps) (map sided_of pieces)
    sides = subst (All (HasSide input.marked input.steps)) (sym same) (All-map (HasSide input.marked input.steps) (named names) rows is.sides)
