-- What is made of two neighbours among the places along a segment is a piece.
use Rattle.std.proofs.Common.{◌≡◌, ℕ, pos, ◌+◌, ◌<◌, ◌*ℤ◌, ◌<ℤ◌, int_le, int_lt, Bool, true, false, ◌&&◌, List, [], ◌∷◌, ◌++◌, map, sym, ap, ◌∙◌, subst}
use Rattle.std.specs.Prelude.{IsTrue, Contains}
use Rattle.std.proofs.lemmas.Bool.{and_parts, and_from, both_ways}
use Rattle.std.proofs.lemmas.List.Elements.{All-push, Contains-append_left}
use Rattle.std.proofs.lemmas.List.Quantifiers.{Any-push}
use Rattle.std.specs.declared.cmp.Ordering.TheVariants.{Less}
use Rattle.overlay_terms.specs.Plane.{Point, Segment, whole_cmp, point_cmp, is_on}
use Rattle.overlay_terms.specs.Column.{border, is_in_column}
use Rattle.overlay_terms.specs.Trees.{mask_bits}
use Rattle.overlay_terms.specs.Layers.{Marked}
use Rattle.overlay_terms.specs.Tiles.{is_node, midpoint, Input}
use Rattle.overlay_terms.specs.TileLaws.{IsInput}
use Rattle.overlay_terms.proofs.Lists.{contains_map}
use Rattle.exact_point.specs.PlaceOf.{place_of}
use Rattle.arrange.specs.Arrangement.{input_segments, on_bits}
use Rattle.arrange.specs.NamedPlaces.{spot, names_along, IsFound}
use Rattle.arrange.specs.Marked.{marked_of}
use Rattle.arrange.specs.Masks.{holding_bits}
use Rattle.arrange.specs.PlacedPieces.{IsMadeAt, IsPlaced, AreNeighbours, RunsBetween, HoldsOneMore}
use Rattle.arrange.specs.declared.marked_seg.MarkedSeg.{MarkedSeg}
use Rattle.arrange.specs.declared.named_place.NamedPlace.{NamedPlace}
use Rattle.arrange.specs.declared.piece.Elementary.{Elementary}
use Rattle.arrange.specs.declared.placed_piece.PlacedPiece.{PlacedPiece}
use Rattle.arrange.proofs.MaskLemmas.{middle_mask}
use Rattle.arrange.proofs.PieceLemmas.{middle_held}
use Rattle.arrange.proofs.AlongPieces.{proper_among}

-- the segments of the code are among those of the input
there : (input : Input) (items : List MarkedSeg) (m : MarkedSeg) → map marked_of items ≡ input.marked → Contains items m → Contains input.marked (marked_of m)
there input items m e c = let Q : List Marked → Type 0 = λ ms. Contains ms (marked_of m) in subst Q e (contains_map marked_of items m c)

-- a place of the closed column left of the right border lies in the column
pub begins_by : (input : Input) (s : Segment) (a : NamedPlace) (k : ℕ) (b : Bool) → IsFound input.column s (names_along input s) a → k ≡ input.column
    → b ≡ int_lt (spot a).x (border (k + 1) *ℤ (spot a).w) → b ≡ true → IsTrue (is_in_column input.column (spot a))
begins_by input s a k b found e f g =
    let parts = and_parts (int_le (border input.column *ℤ (spot a).w) (spot a).x) (int_le (spot a).x (border (input.column + 1) *ℤ (spot a).w)) found.in_column in
    and_from (int_le (border input.column *ℤ (spot a).w) (spot a).x) (int_lt (spot a).x (border (input.column + 1) *ℤ (spot a).w)) parts.0
    (ap (λ j. int_lt (spot a).x (border (j + 1) *ℤ (spot a).w)) (sym e) ∙ sym f ∙ g)

-- one that does not lie left of it does not
pub begins_not : (input : Input) (a : NamedPlace) (k : ℕ) (b : Bool) → k ≡ input.column → b ≡ int_lt (spot a).x (border (k + 1) *ℤ (spot a).w) → b ≡ false
    → IsTrue (is_in_column input.column (spot a)) → ⊥
begins_not input a k b e f g c =
    let parts = and_parts (int_le (border input.column *ℤ (spot a).w) (spot a).x) (int_lt (spot a).x (border (input.column + 1) *ℤ (spot a).w)) c in
    both_ways (int_lt (spot a).x (border (input.column + 1) *ℤ (spot a).w))
    (ap (λ j. int_lt (spot a).x (border (j + 1) *ℤ (spot a).w)) (sym e) ∙ sym f ∙ g) parts.1

module _ (input : Input) (s : Segment) (a b : NamedPlace) (n : AreNeighbours input s a b) (valid : IsInput input) (items : List MarkedSeg) (same : map marked_of items ≡ input.marked)
    (mask : ℕ) (bits : (k : ℕ) → k < 32 → mask_bits mask k ≡ holding_bits items (spot a) (spot b) k) (begins : IsTrue (is_in_column input.column (spot a))) where
  abbrev new : Elementary
  new = record { support = s; from = a.name; to = b.name; mask = mask }

  none : (q : Point) → pos 0 <ℤ q.w → IsTrue (is_on s q) → point_cmp (spot a) q ≡ Less → point_cmp q (spot b) ≡ Less → IsTrue (is_node (input_segments input) q) → ⊥
  none =
      let Q : Segment → Type 0 = λ t. (q : Point) → pos 0 <ℤ q.w → IsTrue (is_on t q) → point_cmp (spot a) q ≡ Less → point_cmp q (spot b) ≡ Less → IsTrue (is_node (input_segments input) q) → ⊥ in
      subst Q n.supported n.piece.none_between

  -- the segments that hold both ends are those that hold the middle
  middle : (m : MarkedSeg) → Contains items m → (is_on m.seg (spot a) && is_on m.seg (spot b)) ≡ is_on m.seg (midpoint (spot a) (spot b))
  middle m c =
      let other : Contains (input_segments input) m.seg = contains_map (λ (m : Marked). m.segment) input.marked (marked_of m) (there input items m same c) in
      middle_held s n.ahead (input_segments input) n.among (spot a) (spot b) n.piece.from_positive n.piece.to_positive n.from_found.on_segment n.to_found.on_segment n.piece.in_order none
      m.seg other (proper_among input m.seg valid other).first

  made_there : IsMadeAt input new (spot a) (spot b)
  made_there = record {
    from_on = n.from_found.on_segment;
    to_on = n.to_found.on_segment;
    piece = n.piece;
    supported = n.supported;
    begins = begins;
    mask = λ k l. bits k l ∙ middle_mask items (spot a) (spot b) k middle ∙ ap (λ ms. on_bits ms (midpoint (spot a) (spot b)) k) same;
  }

  made_named : IsMadeAt input new (place_of a.name) (place_of b.name)
  made_named =
      let F : Point → Type 0 = λ p. IsMadeAt input new p (spot b) in
      let T : Point → Type 0 = λ r. IsMadeAt input new (place_of a.name) r in
      subst T n.to_found.told (subst F n.from_found.told made_there)

  -- the piece is added
  pub one_more : (before : List PlacedPiece) (ahead : whole_cmp s.left s.right ≡ Less) → HoldsOneMore input a b before (before ++ record { at = a.at; piece = new; ahead = ahead } ∷ [])
  one_more before ahead =
      let h : PlacedPiece = record { at = a.at; piece = new; ahead = ahead } in
      record {
        sound = λ all. All-push (IsPlaced input) before h all (record { from_named = n.from_found.named; to_named = n.to_found.named; placed = n.from_found.told; made = made_named });
        kept = λ g c. Contains-append_left before (h ∷ []) g c;
        covered = λ i. Any-push (RunsBetween a b) before h (n.from_found.told, n.to_found.told);
      }

-- no piece begins there
pub no_more : (input : Input) (a b : NamedPlace) (placed : List PlacedPiece) → (IsTrue (is_in_column input.column (spot a)) → ⊥) → HoldsOneMore input a b placed placed
no_more input a b placed out = record { sound = λ all. all; kept = λ h c. c; covered = λ i. absurd (out i) }
