-- A pair at the places of a piece of the boundary is one too.
use Rattle.std.specs.Prelude.{ℕ, pos, ◌<ℤ◌, IsTrue, List, map}
use Rattle.std.proofs.Common.{sym, ◌∙◌}
use Rattle.std.proofs.lemmas.Bool.{and_parts}
use Rattle.overlay_terms.specs.Plane.{Point, Segment, same_place}
use Rattle.overlay_terms.specs.Trees.{Steps}
use Rattle.overlay_terms.specs.Layers.{Marked}
use Rattle.overlay_terms.specs.Tiles.{IsPiece, IsBoundary}
use Rattle.overlay_terms.proofs.PlaceLemmas.{IsSamePlace, places_alike}
use Rattle.exact_point.proofs.PlaceOrder.{on_same, alike_left, alike_right}
use Rattle.exact_point.proofs.SameMiddle.{in_column_alike, under_level, over_side_level}
use Rattle.tile_laws.specs.SameTile.{same_pair, IsPositivePair}
use Rattle.exact_point.proofs.SameNodes.{node_alike}

module _ (p r u v : Point) (hu : pos 0 <ℤ u.w) (hv : pos 0 <ℤ v.w) (e : IsTrue (same_place p u)) (f : IsTrue (same_place r v)) where
  -- a pair at the places of a piece is a piece
  piece_there : (segments : List Segment) → IsPiece segments p r → IsPiece segments u v
  piece_there segments piece =
      let hp : pos 0 <ℤ p.w = piece.from_positive in
      let hr : pos 0 <ℤ r.w = piece.to_positive in
      record {
        support = piece.support;
        among = piece.among;
        from_positive = hu;
        to_positive = hv;
        from_on = sym (on_same piece.support p u hp hu e) ∙ piece.from_on;
        to_on = sym (on_same piece.support r v hr hv f) ∙ piece.to_on;
        from_node = sym (node_alike p u hp hu e segments) ∙ piece.from_node;
        to_node = sym (node_alike r v hr hv f segments) ∙ piece.to_node;
        in_order = sym (alike_right u r v hu hr hv f) ∙ sym (alike_left p u r hp hu hr e) ∙ piece.in_order;
        none_between = λ q positive on after before.
            piece.none_between q positive on (alike_left p u q hp hu positive e ∙ after) (alike_right q r v positive hr hv f ∙ before);
      }

  -- a pair at the places of a piece of the boundary is one too
  boundary_there : (marked : List Marked) (steps : Steps) (k : ℕ) → IsBoundary marked steps k p r → IsBoundary marked steps k u v
  boundary_there marked steps k boundary =
      let hp : pos 0 <ℤ p.w = boundary.piece.from_positive in
      let hr : pos 0 <ℤ r.w = boundary.piece.to_positive in
      let first : IsSamePlace p u = places_alike p u hp hu e in
      let second : IsSamePlace r v = places_alike r v hr hv f in
      record {
        piece = piece_there (map (λ m. m.segment) marked) boundary.piece;
        column = sym (in_column_alike p u hp hu e k) ∙ boundary.column;
        sides = λ level. boundary.sides (under_level p r u v first second marked steps ∙ level ∙ sym (over_side_level p r u v first second marked steps));
      }

-- the same for pairs
pub boundary_alike : (marked : List Marked) (steps : Steps) (k : ℕ) (a b : Point × Point) → IsPositivePair b → IsTrue (same_pair a b) → IsBoundary marked steps k a.0 a.1 → IsBoundary marked steps k b.0 b.1
boundary_alike marked steps k a b h e =
    let parts = and_parts (same_place a.0 b.0) (same_place a.1 b.1) e in
    boundary_there a.0 a.1 b.0 b.1 h.0 h.1 parts.0 parts.1 marked steps k
