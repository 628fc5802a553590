-- Pieces on their way into the list: each with the place of its left end, in the order of the list.
use Rattle.std.specs.Prelude.{◌≡◌, ◌<◌, ◌+◌, ◌&&◌, ℕ, ◌-ℤ◌}
use Rattle.std.specs.Prelude.{pos, Bool, refl, IsTrue, List, get_or, length, All, Any, Contains}
use Rattle.std.specs.Cmp.{IsTotalOrder, IsEquivalence, IsPartialEquivalence, IsPartialOrder}
use Rattle.std.specs.Cmp.{eq_by_cmp_equiv, partial_equiv_from_equiv, partial_order_from_agreeing_total}
use Rattle.std.specs.Ordering.{eq_by_cmp, as_partial_cmp, ordering_then, int_cmp}
use Rattle.std.specs.declared.cmp.Ordering.{Ordering}
use Rattle.std.specs.declared.cmp.Ordering.TheVariants.{Less}
use Rattle.std.proofs.lemmas.Cmp.{on_total, then_total}
use Rattle.overlay_terms.specs.Plane.{Point, Segment, whole_cmp, same_place, is_on}
use Rattle.overlay_terms.specs.Column.{is_in_column}
use Rattle.overlay_terms.specs.Trees.{mask_bits}
use Rattle.overlay_terms.specs.Layers.{layers_max}
use Rattle.overlay_terms.specs.Tiles.{IsPiece, midpoint, Input}
use Rattle.exact_point.specs.Crossing.{turn_of}
use Rattle.exact_point.specs.Place.{place, hpoint_cmp, hpoint_cmp_total}
use Rattle.exact_point.specs.PlaceOf.{place_of}
use Rattle.exact_point.specs.PointName.{HasPlace}
use Rattle.exact_point.proofs.OnSegment.{leads}
use Rattle.arrange.specs.Arrangement.{input_segments, on_bits}
use Rattle.arrange.specs.NamedPlaces.{spot, names_along, IsFound}
use Rattle.arrange.specs.Directions.{Step, step_cmp_total}
use Rattle.arrange.specs.declared.piece.Elementary.{Elementary}
use Rattle.arrange.specs.declared.named_place.NamedPlace.{NamedPlace}
use Rattle.arrange.specs.declared.placed_piece.PlacedPiece.{PlacedPiece}

-- by the left end, then by direction, the vertical one last
abbrev pub placed_cmp : PlacedPiece → PlacedPiece → Ordering
placed_cmp a b = ordering_then (hpoint_cmp a.at b.at) (int_cmp (pos 0) (turn_of a.piece.support b.piece.support))

step_of : PlacedPiece → Step
step_of h = record {
  across = h.piece.support.right.x -ℤ h.piece.support.left.x;
  up = h.piece.support.right.y -ℤ h.piece.support.left.y;
  forward = leads h.piece.support h.ahead;
}

pub placed_total : IsTotalOrder placed_cmp
unfolding step_of
placed_total = then_total (on_total (λ h. h.at) hpoint_cmp_total) (on_total step_of step_cmp_total)

-- the same left end and direction
abbrev pub same_placed : PlacedPiece → PlacedPiece → Bool
same_placed = eq_by_cmp placed_cmp

pub same_placed_equiv : IsEquivalence same_placed
same_placed_equiv = eq_by_cmp_equiv placed_total

pub same_placed_laws : IsPartialEquivalence same_placed
same_placed_laws = partial_equiv_from_equiv same_placed_equiv

pub placed_po : IsPartialOrder same_placed (as_partial_cmp placed_cmp)
placed_po = partial_order_from_agreeing_total placed_cmp placed_total (λ p q. refl) (λ p q. refl)

-- a piece from one point to another on its support, which begins in the column
pub record IsMadeAt (input : Input) (e : Elementary) (p r : Point) : Type 0 where
  pub from_on : IsTrue (is_on e.support p)
  pub to_on : IsTrue (is_on e.support r)
  pub piece : IsPiece (input_segments input) p r
  pub supported : piece.support ≡ e.support
  pub begins : IsTrue (is_in_column input.column p)
  pub mask : (k : ℕ) → k < layers_max → mask_bits e.mask k ≡ on_bits input.marked (midpoint p r) k

-- a piece with its left end's place
pub record IsPlaced (input : Input) (h : PlacedPiece) : Type 0 where
  pub from_named : HasPlace h.piece.from
  pub to_named : HasPlace h.piece.to
  pub placed : place h.at ≡ place_of h.piece.from
  pub made : IsMadeAt input h.piece (place_of h.piece.from) (place_of h.piece.to)

-- a piece has two points as its ends
abbrev pub has_ends : Point → Point → Elementary → Bool
has_ends p r e = same_place p (place_of e.from) && same_place r (place_of e.to)

-- pieces that begin in the column, and all of these on some of the segments
pub record HoldsPieces (input : Input) (supports : List Segment) (placed : List PlacedPiece) : Type 0 where
  pub sound : All (IsPlaced input) placed
  pub complete : (p r : Point) (piece : IsPiece (input_segments input) p r) → Contains supports piece.support
      → IsTrue (is_in_column input.column p)
      → Any (λ h. IsTrue (has_ends p r h.piece)) placed

-- neighbours among the places along a segment of the input
pub record AreNeighbours (input : Input) (s : Segment) (a b : NamedPlace) : Type 0 where
  pub among : Contains (input_segments input) s
  pub ahead : whole_cmp s.left s.right ≡ Less
  pub from_found : IsFound input.column s (names_along input s) a
  pub to_found : IsFound input.column s (names_along input s) b
  pub piece : IsPiece (input_segments input) (spot a) (spot b)
  pub supported : piece.support ≡ s

-- a piece from one place to another
abbrev pub RunsBetween : NamedPlace → NamedPlace → PlacedPiece → Type 0
RunsBetween a b h = (spot a ≡ place_of h.piece.from) × (spot b ≡ place_of h.piece.to)

-- a further piece: the one between two neighbours, if it begins in the column
pub record HoldsOneMore (input : Input) (a b : NamedPlace) (before placed : List PlacedPiece) : Type 0 where
  pub sound : All (IsPlaced input) before → All (IsPlaced input) placed
  pub kept : (h : PlacedPiece) → Contains before h → Contains placed h
  pub covered : IsTrue (is_in_column input.column (spot a)) → Any (RunsBetween a b) placed

-- further pieces: those between the neighbours among the first places that begin in the column
pub record HoldsNeighbours (input : Input) (places : List NamedPlace) (i : ℕ)
    (before placed : List PlacedPiece) : Type 0 where
  pub sound : All (IsPlaced input) before → All (IsPlaced input) placed
  pub kept : (h : PlacedPiece) → Contains before h → Contains placed h
  pub covered : (j : ℕ) (d : NamedPlace) → j + 1 < i → j + 1 < length places
      → IsTrue (is_in_column input.column (spot (get_or places j d)))
      → Any (RunsBetween (get_or places j d) (get_or places (j + 1) d)) placed
