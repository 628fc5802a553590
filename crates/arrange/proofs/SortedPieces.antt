-- Placed pieces in order, each once, are the pieces that begin in the column.
use Rattle.std.proofs.Common.{◌≡◌, ℤ, pos, ◌<ℤ◌, ◌⊎◌, inl, inr, true, List, map, refl, sym, ap, ◌∙◌, subst, arith}
use Rattle.std.specs.Prelude.{IsTrue, All, Any, Contains}
use Rattle.std.specs.List.{AllPairs, dedup}
use Rattle.std.specs.List.Sorted.{IsSorted, IsPermutation}
use Rattle.std.specs.Cmp.{int_ranked}
use Rattle.std.specs.Ordering.{int_cmp, ordering_then}
use Rattle.std.proofs.lemmas.Bool.{and_parts, and_from}
use Rattle.std.proofs.lemmas.List.Elements.{All-contains, All-map, All-weaker}
use Rattle.std.proofs.lemmas.List.Sorted.{Contains-permutation, All-permutation}
use Rattle.std.proofs.lemmas.List.Kept.{Any-dedup, IsStrictlySortedBy-dedup}
use Rattle.std.specs.declared.cmp.Ordering.{Ordering}
use Rattle.std.specs.declared.cmp.Ordering.TheVariants.{Less, Equal, Greater}
use Rattle.overlay_terms.specs.Plane.{Point, Segment, whole_cmp, point_cmp, same_place, is_on}
use Rattle.overlay_terms.specs.Tiles.{is_node, Input}
use Rattle.overlay_terms.proofs.Lists.{any_from, any_contains, contains_map}
use Rattle.overlay_terms.proofs.PointOrder.{both_equal}
use Rattle.overlay_terms.proofs.Pairs.{pairs_map}
use Rattle.exact_point.specs.Crossing.{turn_of}
use Rattle.exact_point.specs.Place.{place, hpoint_cmp}
use Rattle.exact_point.specs.PlaceOf.{place_of}
use Rattle.exact_point.proofs.PlaceOrder.{Way, before, at, after, way_of, same_from_equal, same_through, same_turned}
use Rattle.exact_point.proofs.OnLine.{no_turn_back}
use Rattle.arrange.specs.Arrangement.{input_segments, IsElementary, ComesBefore, ArePieces}
use Rattle.arrange.specs.PlacedPieces.{placed_cmp, placed_total, same_placed, same_placed_equiv, IsMadeAt, IsPlaced, has_ends, HoldsPieces}
use Rattle.arrange.specs.declared.piece.Elementary.{Elementary}
use Rattle.arrange.specs.declared.placed_piece.PlacedPiece.{PlacedPiece}
use Rattle.arrange.proofs.SortedPlaces.{strict_pairs, all_deduped, equal_from_test}
use Rattle.arrange.proofs.PieceLemmas.{no_shorter}

less_cases : (o i : Ordering) → ordering_then o i ≡ Less → (o ≡ Less) ⊎ ((o ≡ Equal) × (i ≡ Less))
less_cases Less i e = inl refl
less_cases Equal i e = inr (refl, e)
less_cases Greater i e = absurd (cc)

less_ranked : (x y : ℤ) → int_cmp x y ≡ Less → x <ℤ y
less_ranked x y e = int_ranked x y Less (sym e)

equal_ranked : (x y : ℤ) → int_cmp x y ≡ Equal → x ≡ y
equal_ranked x y e = int_ranked x y Equal (sym e)

-- the order of the places, as that of their names
by_names : (input : Input) (a b : PlacedPiece) → IsPlaced input a → IsPlaced input b → hpoint_cmp a.at b.at ≡ point_cmp (place_of a.piece.from) (place_of b.piece.from)
by_names input a b h g = ap (λ p. point_cmp p (place b.at)) h.placed ∙ ap (point_cmp (place_of a.piece.from)) g.placed

comes_before : (input : Input) (a b : PlacedPiece) → IsPlaced input a → IsPlaced input b → placed_cmp a b ≡ Less → ComesBefore a.piece b.piece
comes_before input a b h g e = by (less_cases (hpoint_cmp a.at b.at) (int_cmp (pos 0) (turn_of a.piece.support b.piece.support)) e) where
  by : (hpoint_cmp a.at b.at ≡ Less) ⊎ ((hpoint_cmp a.at b.at ≡ Equal) × (int_cmp (pos 0) (turn_of a.piece.support b.piece.support) ≡ Less)) → ComesBefore a.piece b.piece
  by (inl f) = inl (sym (by_names input a b h g) ∙ f)
  by (inr f) = inr (sym (by_names input a b h g) ∙ f.0, less_ranked (pos 0) (turn_of a.piece.support b.piece.support) f.1)

-- on supports in one direction, no piece from the same place is shorter
not_shorter : (input : Input) (d e : Elementary) (p r p' r' : Point) → whole_cmp d.support.left d.support.right ≡ Less → whole_cmp e.support.left e.support.right ≡ Less
    → IsMadeAt input d p r → IsMadeAt input e p' r' → IsTrue (same_place p p') → turn_of e.support d.support ≡ pos 0 → point_cmp r' r ≡ Less → ⊥
not_shorter input d e p r p' r' ahead other m n same turn short =
    let N : Segment → Type 0 = λ t. (q : Point) → pos 0 <ℤ q.w → IsTrue (is_on t q) → point_cmp p q ≡ Less → point_cmp q r ≡ Less → IsTrue (is_node (input_segments input) q) → ⊥ in
    let C : Segment → Type 0 = λ t. Contains (input_segments input) t in
    no_shorter d.support ahead (input_segments input) (subst C m.supported m.piece.among) p r m.piece.from_positive m.piece.to_positive m.from_on m.to_on m.piece.in_order (subst N m.supported m.piece.none_between)
    e.support other turn p' r' n.piece.from_positive n.piece.to_positive same n.from_on n.to_on n.piece.in_order short n.piece.to_node

-- pieces from one place in one direction are one piece
one_piece : (input : Input) (a b : PlacedPiece) → IsPlaced input a → IsPlaced input b → same_placed a b ≡ true
    → IsTrue (same_place (place_of a.piece.from) (place_of b.piece.from)) × IsTrue (same_place (place_of a.piece.to) (place_of b.piece.to))
one_piece input a b h g e = (same_from, by (way_of (place_of a.piece.to) (place_of b.piece.to) h.made.piece.to_positive g.made.piece.to_positive)) where
  parts : (hpoint_cmp a.at b.at ≡ Equal) × (int_cmp (pos 0) (turn_of a.piece.support b.piece.support) ≡ Equal)
  parts = both_equal (hpoint_cmp a.at b.at) (int_cmp (pos 0) (turn_of a.piece.support b.piece.support)) (equal_from_test (placed_cmp a b) e)

  same_from : IsTrue (same_place (place_of a.piece.from) (place_of b.piece.from))
  same_from = same_from_equal (place_of a.piece.from) (place_of b.piece.from) h.made.piece.from_positive g.made.piece.from_positive (sym (by_names input a b h g) ∙ parts.0)

  turn : turn_of a.piece.support b.piece.support ≡ pos 0
  turn = sym (equal_ranked (pos 0) (turn_of a.piece.support b.piece.support) parts.1)

  by : Way (place_of a.piece.to) (place_of b.piece.to) → IsTrue (same_place (place_of a.piece.to) (place_of b.piece.to))
  by (before f) =
      absurd (not_shorter input b.piece a.piece (place_of b.piece.from) (place_of b.piece.to) (place_of a.piece.from) (place_of a.piece.to) b.ahead a.ahead g.made h.made
      (same_turned (place_of a.piece.from) (place_of b.piece.from) same_from) turn f)
  by (at f) = f
  by (after f) =
      absurd (not_shorter input a.piece b.piece (place_of a.piece.from) (place_of a.piece.to) (place_of b.piece.from) (place_of b.piece.to) a.ahead b.ahead h.made g.made
      same_from (no_turn_back a.piece.support b.piece.support turn) f)

elementary : (input : Input) (h : PlacedPiece) → IsPlaced input h → IsElementary input h.piece
elementary input h g = record {
  from_named = g.from_named;
  to_named = g.to_named;
  from_on = g.made.from_on;
  to_on = g.made.to_on;
  piece = g.made.piece;
  begins = g.made.begins;
  mask = g.made.mask;
}

module _ (input : Input) (placed sorted : List PlacedPiece) (h : HoldsPieces input (input_segments input) placed) (moved : IsPermutation placed sorted) (up : IsSorted placed_cmp sorted) where
  abbrev once : List PlacedPiece
  once = dedup same_placed sorted

  sorted_sound : All (IsPlaced input) sorted
  sorted_sound = All-permutation (IsPlaced input) placed sorted moved h.sound

  once_sound : All (IsPlaced input) once
  once_sound = all_deduped (IsPlaced input) same_placed sorted sorted_sound

  strict : AllPairs (λ a b. placed_cmp a b ≡ Less) once
  strict = strict_pairs placed_cmp once (IsStrictlySortedBy-dedup placed_total (λ x y. refl) sorted up)

  -- a piece of the list is still there
  there : (p r : Point) → pos 0 <ℤ p.w → pos 0 <ℤ r.w → Any (λ g. IsTrue (has_ends p r g.piece)) placed → Any (λ e. IsTrue (has_ends p r e)) (map (λ (g : PlacedPiece). g.piece) once)
  there p r hp hr a =
      let in_sorted : Contains sorted a.1 = Contains-permutation placed sorted a.1 moved (any_contains (λ g. IsTrue (has_ends p r g.piece)) placed a) in
      let b = Any-dedup same_placed_equiv sorted a.1 in_sorted in
      let in_once : Contains once b.1 = any_contains (λ y. same_placed a.1 y ≡ true) once b in
      let first = All-contains (IsPlaced input) sorted a.1 sorted_sound in_sorted in
      let second = All-contains (IsPlaced input) once b.1 once_sound in_once in
      let ends = one_piece input a.1 b.1 first second b.4 in
      let parts = and_parts (same_place p (place_of a.1.piece.from)) (same_place r (place_of a.1.piece.to)) a.4 in
      any_from (λ e. IsTrue (has_ends p r e)) (map (λ (g : PlacedPiece). g.piece) once) b.1.piece (contains_map (λ (g : PlacedPiece). g.piece) once b.1 in_once)
      (and_from (same_place p (place_of b.1.piece.from)) (same_place r (place_of b.1.piece.to))
      (same_through p (place_of a.1.piece.from) (place_of b.1.piece.from) hp first.made.piece.from_positive second.made.piece.from_positive parts.0 ends.0)
      (same_through r (place_of a.1.piece.to) (place_of b.1.piece.to) hr first.made.piece.to_positive second.made.piece.to_positive parts.1 ends.1))

  pub pieces_once : ArePieces input (map (λ (g : PlacedPiece). g.piece) once)
  pieces_once = record {
    sound = All-map (IsElementary input) (λ (g : PlacedPiece). g.piece) once (All-weaker (IsPlaced input) (λ g. IsElementary input g.piece) (elementary input) once once_sound);
    ordered = pairs_map ComesBefore (λ (g : PlacedPiece). g.piece) once
        (λ i j d l m. comes_before input _ _ (once_sound i d (omega (arith, l, m))) (once_sound j d m) (strict i j d l m));
    complete = λ p r piece begins. there p r piece.from_positive piece.to_positive (h.complete p r piece piece.among begins);
  }
