-- Which pieces are in the list, segment by segment and place by place.
use Rattle.std.proofs.Common.{◌≡◌, ◌≢◌, ℕ, pos, ◌+◌, ◌<◌, ◌≤◌, ◌<ℤ◌, ◌⊎◌, inl, inr, List, [], ◌∷◌, ◌++◌, length, get_or, sym, ap, ◌∙◌, subst, arith}
use Rattle.std.specs.Prelude.{IsTrue, Any, Contains}
use Rattle.std.proofs.lemmas.Bool.{and_from, cases_eq}
use Rattle.std.proofs.lemmas.List.{get_or_read}
use Rattle.std.proofs.lemmas.List.Elements.{Contains-push_cases}
use Rattle.std.specs.declared.cmp.Ordering.TheVariants.{Less}
use Rattle.overlay_terms.specs.Plane.{Point, Segment, point_cmp, same_place, is_on}
use Rattle.overlay_terms.specs.Column.{is_in_column}
use Rattle.overlay_terms.specs.Tiles.{is_node, IsPiece, Input}
use Rattle.overlay_terms.specs.TileLaws.{IsInput}
use Rattle.overlay_terms.proofs.Lists.{any_from, any_contains}
use Rattle.exact_point.specs.PlaceOf.{place_of}
use Rattle.exact_point.proofs.SameMiddle.{in_column_alike}
use Rattle.arrange.specs.Arrangement.{input_segments}
use Rattle.arrange.specs.NamedPlaces.{spot, AreAlong}
use Rattle.arrange.specs.PlacedPieces.{has_ends, AreNeighbours, RunsBetween, HoldsPieces, HoldsOneMore, HoldsNeighbours}
use Rattle.arrange.specs.declared.named_place.NamedPlace.{NamedPlace}
use Rattle.arrange.specs.declared.placed_piece.PlacedPiece.{PlacedPiece}
use Rattle.arrange.proofs.SortedPlaces.{spot_positive}
use Rattle.arrange.proofs.NeighbourLemmas.{neighbours_piece, neighbours_support}
use Rattle.arrange.proofs.AlongPieces.{known_among, proper_among, ends_next}

-- an element that is kept
pub any_kept : (P : PlacedPiece → Type 0) (xs ys : List PlacedPiece) → ((h : PlacedPiece) → Contains xs h → Contains ys h) → Any P xs → Any P ys
any_kept P xs ys keep a = any_from P ys a.1 (keep a.1 (any_contains P xs a)) a.4

-- a piece between two places has two points at these as its ends
told_ends : (p r : Point) (a b : NamedPlace) (h : PlacedPiece) → RunsBetween a b h → IsTrue (same_place p (spot a)) → IsTrue (same_place r (spot b)) → IsTrue (has_ends p r h.piece)
told_ends p r a b h ends first second =
    let F : Point → Type 0 = λ z. IsTrue (same_place p z) in
    let T : Point → Type 0 = λ z. IsTrue (same_place r z) in
    and_from (same_place p (place_of h.piece.from)) (same_place r (place_of h.piece.to)) (subst F ends.0 first) (subst T ends.1 second)

-- neighbours in the list of places along a segment of the input
pub next_places : (input : Input) (s : Segment) → IsInput input → Contains (input_segments input) s → (list : List NamedPlace) → AreAlong input s list
    → (i j : ℕ) (a b : NamedPlace) → i + 1 ≡ j → j < length list → a ≡ get_or list i a → b ≡ get_or list j b → AreNeighbours input s a b
next_places input s valid among list along i j a b e within is_a is_b =
    let inside : i + 1 < length list = omega (arith, e, within) in
    let first : get_or list i a ≡ a = sym is_a in
    let second : get_or list (i + 1) a ≡ b = ap (λ n. get_or list n a) e ∙ sym (get_or_read list j b within is_b a) in
    let known = known_among input s valid among in
    let here : AreNeighbours input s (get_or list i a) (get_or list (i + 1) a) = record {
      among = among;
      ahead = (proper_among input s valid among).first;
      from_found = along.sound i a (omega (arith, inside));
      to_found = along.sound (i + 1) a inside;
      piece = neighbours_piece input s among known list along i a inside;
      supported = neighbours_support input s among known list along i a inside;
    } in
    let F : NamedPlace → Type 0 = λ z. AreNeighbours input s z (get_or list (i + 1) a) in
    let T : NamedPlace → Type 0 = λ z. AreNeighbours input s a z in
    subst T second (subst F first here)

-- nothing has been added
pub none_yet : (input : Input) (places : List NamedPlace) (i : ℕ) (placed : List PlacedPiece) → i ≤ 1 → HoldsNeighbours input places i placed placed
none_yet input places i placed h = record { sound = λ all. all; kept = λ h c. c; covered = λ j d l. absurd (omega (arith, h, l)) }

-- one more pair of neighbours
pub next_pair : (input : Input) (places : List NamedPlace) (i j : ℕ) (a b : NamedPlace) (before placed more : List PlacedPiece) → i + 1 ≡ j → j < length places → a ≡ get_or places i a → b ≡ get_or places j b
    → HoldsNeighbours input places j before placed → HoldsOneMore input a b placed more → HoldsNeighbours input places (j + 1) before more
next_pair input places i j a b before placed more e within is_a is_b so_far new = record {
  sound = λ all. new.sound (so_far.sound all);
  kept = λ h c. new.kept h (so_far.kept h c);
  covered = λ n d l m begins. by n d l m begins (cases_eq n i);
} where
  by : (n : ℕ) (d : NamedPlace) → n + 1 < j + 1 → n + 1 < length places → IsTrue (is_in_column input.column (spot (get_or places n d))) → (n ≡ i) ⊎ (n ≢ i)
      → Any (RunsBetween (get_or places n d) (get_or places (n + 1) d)) more
  by n d l m begins (inl f) =
      let first : get_or places n d ≡ a = ap (λ k. get_or places k d) f ∙ sym (get_or_read places i a (omega (arith, e, within)) is_a d) in
      let same_index : n + 1 ≡ j = omega (arith, f, e) in
      let second : get_or places (n + 1) d ≡ b = ap (λ k. get_or places k d) same_index ∙ sym (get_or_read places j b within is_b d) in
      let C : NamedPlace → Type 0 = λ z. IsTrue (is_in_column input.column (spot z)) in
      let F : NamedPlace → Type 0 = λ z. Any (RunsBetween z b) more in
      let T : NamedPlace → Type 0 = λ z. Any (RunsBetween (get_or places n d) z) more in
      subst T (sym second) (subst F (sym first) (new.covered (subst C first begins)))
  by n d l m begins (inr f) =
      any_kept (RunsBetween (get_or places n d) (get_or places (n + 1) d)) placed more new.kept (so_far.covered n d (omega (arith, f, l, e)) m begins)

module _ (input : Input) (s : Segment) (valid : IsInput input) (among : Contains (input_segments input) s) (list : List NamedPlace) (along : AreAlong input s list)
    (before placed : List PlacedPiece) (i : ℕ) (whole_list : length list ≤ i) (so_far : HoldsNeighbours input list i before placed) where
  -- a piece on the segment is in the list
  listed_there : (p r : Point) (piece : IsPiece (input_segments input) p r) → piece.support ≡ s → IsTrue (is_in_column input.column p) → Any (λ h. IsTrue (has_ends p r h.piece)) placed
  listed_there p r piece is begins =
      let O : Segment → Type 0 = λ t. IsTrue (is_on t p) × IsTrue (is_on t r) in
      let N : Segment → Type 0 = λ t. (q : Point) → pos 0 <ℤ q.w → IsTrue (is_on t q) → point_cmp p q ≡ Less → point_cmp q r ≡ Less → IsTrue (is_node (input_segments input) q) → ⊥ in
      let on = subst O is (piece.from_on, piece.to_on) in
      let next = ends_next input s valid among list along p r piece.from_positive piece.to_positive on.0 on.1 piece.from_node piece.to_node piece.in_order (subst N is piece.none_between) begins in
      let a : NamedPlace = get_or list next.at next.default in
      let b : NamedPlace = get_or list (next.at + 1) next.default in
      let begins_a = sym (in_column_alike p (spot a) piece.from_positive (spot_positive a) next.first input.column) ∙ begins in
      let one = so_far.covered next.at next.default (omega (arith, next.within, whole_list)) next.within begins_a in
      any_from (λ h. IsTrue (has_ends p r h.piece)) placed one.1 (any_contains (RunsBetween a b) placed one) (told_ends p r a b one.1 one.4 next.first next.second)

  pub segment_held : (supports : List Segment) → HoldsPieces input supports before → HoldsPieces input (supports ++ s ∷ []) placed
  segment_held supports h = record {
    sound = so_far.sound h.sound;
    complete = λ p r piece c begins. by p r piece begins c (Contains-push_cases supports s piece.support c);
  } where
    by : (p r : Point) (piece : IsPiece (input_segments input) p r) → IsTrue (is_in_column input.column p) → Contains (supports ++ s ∷ []) piece.support
        → Contains supports piece.support ⊎ (s ≡ piece.support) → Any (λ h. IsTrue (has_ends p r h.piece)) placed
    by p r piece begins c (inl d) = any_kept (λ h. IsTrue (has_ends p r h.piece)) before placed so_far.kept (h.complete p r piece d begins)
    by p r piece begins c (inr e) = listed_there p r piece (sym e) begins

-- the pieces on a segment that is there already are in the list
pub listed_already : (input : Input) (supports : List Segment) (s : Segment) (placed : List PlacedPiece) → Contains supports s → HoldsPieces input supports placed → HoldsPieces input (supports ++ s ∷ []) placed
listed_already input supports s placed there h = record {
  sound = h.sound;
  complete = λ p r piece c begins. by p r piece begins (Contains-push_cases supports s piece.support c);
} where
  by : (p r : Point) (piece : IsPiece (input_segments input) p r) → IsTrue (is_in_column input.column p) → Contains supports piece.support ⊎ (s ≡ piece.support)
      → Any (λ h. IsTrue (has_ends p r h.piece)) placed
  by p r piece begins (inl c) = h.complete p r piece c begins
  by p r piece begins (inr e) = let Q : Segment → Type 0 = λ t. Contains supports t in h.complete p r piece (subst Q e there) begins
