-- Whether two points are the ends of a piece of the boundary can be decided by the candidates for nodes.
use Rattle.std.specs.Prelude.{◌≡◌, ℕ, pos, ◌<ℤ◌, ◌⊎◌, Bool, true, false, not, ◌&&◌, IsTrue, List, map, All, Contains}
use Rattle.std.specs.List.{list_any}
use Rattle.std.specs.Ordering.{is_lt}
use Rattle.std.specs.declared.cmp.Ordering.TheVariants.{Less}
use Rattle.std.proofs.Common.{inl, inr, ap, sym, ◌∙◌}
use Rattle.std.proofs.lemmas.Bool.{and_parts, and_from, both_ways, not-true, not_from_false, false_from_ne_true}
use Rattle.std.proofs.lemmas.List.Elements.{All-contains}
use Rattle.std.proofs.lemmas.List.Folds.{Any-from_list_any}
use Rattle.overlay_terms.specs.Plane.{Point, Segment, point_cmp}
use Rattle.overlay_terms.specs.Column.{is_in_column}
use Rattle.overlay_terms.specs.Trees.{Steps}
use Rattle.overlay_terms.specs.Layers.{Marked}
use Rattle.overlay_terms.specs.Tiles.{IsPiece, under_of, over_of, IsBoundary}
use Rattle.overlay_terms.specs.TileLaws.{IsProper}
use Rattle.overlay_terms.proofs.InputLists.{any_from_Contains}
use Rattle.overlay_terms.proofs.Lists.{any_contains}
use Rattle.overlay_terms.proofs.Tests.{less_told}
use Rattle.exact_point.proofs.PlaceOrder.{alike_left, alike_right}
use Rattle.tile_laws.proofs.Candidates.{candidates, IsAmong, node_among}
use Rattle.tile_laws.proofs.NodesOver.{IsNodeOn, is_node_on, node_on_from, node_on_test, node_on_same}
use Rattle.tile_laws.proofs.Ranks.{Told, yes, no, told}
use Rattle.tile_laws.proofs.Gathered.{Decided, holds, fails}

module _ (segments : List Segment) (proper : All IsProper segments) where
  -- a node on a segment, strictly between two points
  abbrev is_between : Point → Point → Segment → Point → Bool
  is_between p r s c = is_node_on segments s c && (is_lt (point_cmp p c) && is_lt (point_cmp c r))

  -- two nodes on a segment in order, no candidate strictly between them
  abbrev is_piece_on : Point → Point → Segment → Bool
  is_piece_on p r s =
      (is_node_on segments s p && is_node_on segments s r) && (is_lt (point_cmp p r) && not (list_any (is_between p r s) (candidates segments s)))

  -- the same on some segment
  abbrev is_piece : Point → Point → Bool
  is_piece p r = list_any (is_piece_on p r) segments

  -- the candidate at the place of a node between passes the test
  between_passes : (p r : Point) (s : Segment) → pos 0 <ℤ p.w → pos 0 <ℤ r.w → (q : Point) (h : IsNodeOn segments s q) → point_cmp p q ≡ Less → point_cmp q r ≡ Less → (a : IsAmong (candidates segments s) q) → is_between p r s a.point ≡ true
  between_passes p r s hp hr q h after before a =
      and_from (is_node_on segments s a.point) (is_lt (point_cmp p a.point) && is_lt (point_cmp a.point r))
      (node_on_test segments s a.point (node_on_same segments s q a.point h a.positive a.at))
      (and_from (is_lt (point_cmp p a.point)) (is_lt (point_cmp a.point r)) (ap is_lt (sym (alike_right p q a.point hp h.positive a.positive a.at) ∙ after)) (ap is_lt (sym (alike_left q a.point r h.positive a.positive hr a.at) ∙ before)))

  -- what passes the test is a piece
  piece_from : (p r : Point) (s : Segment) → Contains segments s → is_piece_on p r s ≡ true → IsPiece segments p r
  piece_from p r s among e =
      let halves = and_parts (is_node_on segments s p && is_node_on segments s r) (is_lt (point_cmp p r) && not (list_any (is_between p r s) (candidates segments s))) e in
      let ends = and_parts (is_node_on segments s p) (is_node_on segments s r) halves.0 in
      let rest = and_parts (is_lt (point_cmp p r)) (not (list_any (is_between p r s) (candidates segments s))) halves.1 in
      let from : IsNodeOn segments s p = node_on_from segments s p ends.0 in
      let to : IsNodeOn segments s r = node_on_from segments s r ends.1 in
      record {
        support = s;
        among = among;
        from_positive = from.positive;
        to_positive = to.positive;
        from_on = from.on_segment;
        to_on = to.on_segment;
        from_node = from.node;
        to_node = to.node;
        in_order = less_told (point_cmp p r) rest.0;
        none_between = λ q positive on after before node.
            let a : IsAmong (candidates segments s) q = node_among segments s (All-contains IsProper segments s proper among).first q on node in
            let h : IsNodeOn segments s q = record { positive = positive; on_segment = on; node = node } in
            both_ways (list_any (is_between p r s) (candidates segments s)) (not-true _ rest.1)
            (any_from_Contains (is_between p r s) (candidates segments s) a.point a.among (between_passes p r s from.positive to.positive q h after before a));
      }

  -- no candidate lies strictly between the ends of a piece
  none_passes : (p r : Point) (piece : IsPiece segments p r) → list_any (is_between p r piece.support) (candidates segments piece.support) ≡ false
  none_passes p r piece =
      false_from_ne_true (list_any (is_between p r piece.support) (candidates segments piece.support))
      (λ h.
      let found = Any-from_list_any (is_between p r piece.support) (candidates segments piece.support) h in
      let halves = and_parts (is_node_on segments piece.support found.1) (is_lt (point_cmp p found.1) && is_lt (point_cmp found.1 r)) found.4 in
      let order = and_parts (is_lt (point_cmp p found.1)) (is_lt (point_cmp found.1 r)) halves.1 in
      let here : IsNodeOn segments piece.support found.1 = node_on_from segments piece.support found.1 halves.0 in
      piece.none_between found.1 here.positive here.on_segment (less_told (point_cmp p found.1) order.0) (less_told (point_cmp found.1 r) order.1) here.node)

  -- a piece passes the test
  piece_passes : (p r : Point) (piece : IsPiece segments p r) → is_piece p r ≡ true
  piece_passes p r piece =
      let s : Segment = piece.support in
      any_from_Contains (is_piece_on p r) segments s piece.among
      (and_from (is_node_on segments s p && is_node_on segments s r) (is_lt (point_cmp p r) && not (list_any (is_between p r s) (candidates segments s)))
      (and_from (is_node_on segments s p) (is_node_on segments s r)
      (node_on_test segments s p (record { positive = piece.from_positive; on_segment = piece.from_on; node = piece.from_node }))
      (node_on_test segments s r (record { positive = piece.to_positive; on_segment = piece.to_on; node = piece.to_node })))
      (and_from (is_lt (point_cmp p r)) (not (list_any (is_between p r s) (candidates segments s))) (ap is_lt piece.in_order) (not_from_false (list_any (is_between p r s) (candidates segments s)) (none_passes p r piece))))

  -- so it can be decided whether two points are the ends of a piece
  pub decide_piece : (p r : Point) → IsPiece segments p r ⊎ (IsPiece segments p r → ⊥)
  decide_piece p r = by (told (is_piece p r)) where
    by : Told (is_piece p r) → IsPiece segments p r ⊎ (IsPiece segments p r → ⊥)
    by (yes e) =
        let found = Any-from_list_any (is_piece_on p r) segments e in
        inl (piece_from p r found.1 (any_contains (λ s. IsTrue (is_piece_on p r s)) segments found) found.4)
    by (no e) = inr (λ piece. both_ways (is_piece p r) e (piece_passes p r piece))

-- and whether they are those of a piece of the boundary
pub decide_boundary : (marked : List Marked) (steps : Steps) (k : ℕ) → All IsProper (map (λ m. m.segment) marked) → (a : Point × Point) → Decided (λ (a : Point × Point). IsBoundary marked steps k a.0 a.1) a
decide_boundary marked steps k proper a = by_piece (decide_piece (map (λ m. m.segment) marked) proper a.0 a.1) where
  by_sides : IsPiece (map (λ m. m.segment) marked) a.0 a.1 → IsTrue (is_in_column k a.0) → Told (under_of marked steps a.0 a.1) → Told (over_of marked steps a.0 a.1) → Decided (λ (a : Point × Point). IsBoundary marked steps k a.0 a.1) a
  by_sides piece column (yes u) (yes o) = fails (λ h. h.sides (u ∙ sym o))
  by_sides piece column (yes u) (no o) = holds (record { piece = piece; column = column; sides = λ same. both_ways (under_of marked steps a.0 a.1) (same ∙ o) u })
  by_sides piece column (no u) (yes o) = holds (record { piece = piece; column = column; sides = λ same. both_ways (under_of marked steps a.0 a.1) u (same ∙ o) })
  by_sides piece column (no u) (no o) = fails (λ h. h.sides (u ∙ sym o))

  by_column : IsPiece (map (λ m. m.segment) marked) a.0 a.1 → Told (is_in_column k a.0) → Decided (λ (a : Point × Point). IsBoundary marked steps k a.0 a.1) a
  by_column piece (yes e) = by_sides piece e (told (under_of marked steps a.0 a.1)) (told (over_of marked steps a.0 a.1))
  by_column piece (no e) = fails (λ h. both_ways (is_in_column k a.0) e h.column)

  by_piece : IsPiece (map (λ m. m.segment) marked) a.0 a.1 ⊎ (IsPiece (map (λ m. m.segment) marked) a.0 a.1 → ⊥) → Decided (λ (a : Point × Point). IsBoundary marked steps k a.0 a.1) a
  by_piece (inl piece) = by_column piece (told (is_in_column k a.0))
  by_piece (inr n) = fails (λ h. n h.piece)
