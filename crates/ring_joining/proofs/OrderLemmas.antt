-- The ends of pieces in order, and which piece follows which by them.
use Rattle.std.proofs.Common.{◌≡◌, ◌⊎◌, ℕ, suc, ◌+◌, ◌<◌, ◌≤◌, ◌==◌, Bool, cond, true, false, List, [], ◌∷◌, ◌++◌, length, get_or, set, drop, inl, inr, refl, sym, ap, subst, ◌∙◌, arith}
use Rattle.std.specs.Prelude.{All}
use Rattle.std.proofs.lemmas.Bool.{cases_eq, ne_eqb}
use Rattle.std.proofs.lemmas.Bool.Decides.{Decides-eqb}
use Rattle.std.proofs.lemmas.List.{append_assoc, append-nil, drop_more, drop_all, get_or-set_same, get_or-set_other}
use Rattle.std.proofs.lemmas.List.Elements.{All-cons}
use Rattle.std.proofs.lemmas.List.Sorted.{All-permutation, length_permutation}
use Rattle.ring_joining.specs.declared.piece.NumberedPiece.{NumberedPiece}
use Rattle.ring_joining.specs.declared.ending.PieceEnd.{PieceEnd}
use Rattle.ring_joining.specs.Outline.{no_piece, piece_at}
use Rattle.ring_joining.specs.Following.{IsBalanced, next_of, AreNexts, place_of, end_of, ends_from, ends_of, AreSortedEnds, piece_in, AreDistinct, ArePaired, IsInOrder}
use Rattle.ring_joining.proofs.CountLemmas.{times, times_is, times_moved, found, single, same_places, by_first}

abbrev no_end : PieceEnd
no_end = record { place = 0; rank = 0; piece = 0 }

piece_is : (b : Bool) (p : NumberedPiece) (i : ℕ) → (end_of b p i).piece ≡ i
piece_is true p i = refl
piece_is false p i = refl

place_is : (b : Bool) (p : NumberedPiece) (i : ℕ) → (end_of b p i).place ≡ place_of b p
place_is true p i = refl
place_is false p i = refl

length_ends : (b : Bool) (i : ℕ) (ps : List NumberedPiece) → length (ends_from b i ps) ≡ length ps
length_ends b i [] = refl
length_ends b i (p ∷ ps) = ap suc (length_ends b (i + 1) ps)

-- a place is as often among the ends as among the pieces
times_places : (b : Bool) (i : ℕ) (ps : List NumberedPiece) (v : ℕ) → times (λ e. e.place == v) (ends_from b i ps) ≡ times (λ p. place_of b p == v) ps
times_places b i [] v = refl
times_places b i (p ∷ ps) v =
    let rest : ℕ = times (λ (e : PieceEnd). e.place == v) (ends_from b (i + 1) ps) in
    ap (λ (n : ℕ). cond (n == v) (1 + rest) rest) (place_is b p i)
    ∙ ap (λ (n : ℕ). cond (place_of b p == v) (1 + n) n) (times_places b (i + 1) ps v)

-- a piece is there once
none_below : (b : Bool) (i : ℕ) (ps : List NumberedPiece) (j : ℕ) → j < i → times (λ e. e.piece == j) (ends_from b i ps) ≡ 0
none_below b i [] j h = refl
none_below b i (p ∷ ps) j h =
    let rest : ℕ = times (λ (e : PieceEnd). e.piece == j) (ends_from b (i + 1) ps) in
    ap (λ (n : ℕ). cond (n == j) (1 + rest) rest) (piece_is b p i)
    ∙ ap (λ (t : Bool). cond t (1 + rest) rest) (ne_eqb i j (λ e. absurd (omega (arith, h, e))))
    ∙ none_below b (i + 1) ps j (omega (arith, h))

one_each : (b : Bool) (i : ℕ) (ps : List NumberedPiece) (j : ℕ) → i ≤ j → j < i + length ps → times (λ e. e.piece == j) (ends_from b i ps) ≡ 1
one_each b i [] j l m = absurd (omega (arith, l, m))
one_each b i (p ∷ ps) j l m = ap (λ (n : ℕ). cond (n == j) (1 + rest) rest) (piece_is b p i) ∙ by (cases_eq i j) (one_each b (i + 1) ps j)
  where
    rest : ℕ
    rest = times (λ (e : PieceEnd). e.piece == j) (ends_from b (i + 1) ps)

    by : (i ≡ j) ⊎ (i ≡ j → ⊥) → (i + 1 ≤ j → j < i + 1 + length ps → rest ≡ 1) → cond (i == j) (1 + rest) rest ≡ 1
    by (inl e) more = ap (λ (t : Bool). cond t (1 + rest) rest) ((Decides-eqb i j).1 e) ∙ ap (λ (n : ℕ). 1 + n) (none_below b (i + 1) ps j (omega (arith, e)))
    by (inr o) more = ap (λ (t : Bool). cond t (1 + rest) rest) (ne_eqb i j o) ∙ more (omega (arith, l, o)) (omega (arith, m))

-- each end is that of its piece
abbrev IsEndOf : Bool → (ℕ → NumberedPiece) → ℕ → PieceEnd → Type 0
IsEndOf b f n e = (e.piece < n) × (e.place ≡ place_of b (f e.piece))

ends_known : (b : Bool) (f : ℕ → NumberedPiece) (n i : ℕ) (ps : List NumberedPiece) → i + length ps ≤ n → ((k : ℕ) → k < length ps → f (i + k) ≡ get_or ps k no_piece)
    → All (IsEndOf b f n) (ends_from b i ps)
ends_known b f n i [] l g = λ k d m. absurd (omega (arith, m))
ends_known b f n i (p ∷ ps) l g =
    All-cons (IsEndOf b f n) (end_of b p i) (ends_from b (i + 1) ps) (here b)
    (ends_known b f n (i + 1) ps (omega (arith, l)) (λ k m. ap f (omega arith) ∙ g (suc k) (omega (arith, m))))
  where
    first : f i ≡ p
    first = ap f (omega arith) ∙ g 0 (omega arith)

    here : (b : Bool) → IsEndOf b f n (end_of b p i)
    here true = (omega (arith, l), sym (ap (λ (q : NumberedPiece). q.from) first))
    here false = (omega (arith, l), sym (ap (λ (q : NumberedPiece). q.to) first))

module _ (b : Bool) (pieces : List NumberedPiece) (ends : List PieceEnd) (h : AreSortedEnds b pieces ends) where
  pub as_many : length ends ≡ length pieces
  as_many = length_permutation (ends_of b pieces) ends h.moved ∙ length_ends b 0 pieces

  end_known : (k : ℕ) → k < length ends → IsEndOf b (piece_at pieces) (length pieces) (get_or ends k no_end)
  end_known k l =
      All-permutation (IsEndOf b (piece_at pieces) (length pieces)) (ends_of b pieces) ends h.moved
      (ends_known b (piece_at pieces) (length pieces) 0 pieces (omega arith) (λ i m. ap (piece_at pieces) (omega arith))) k no_end l

  one_end : (j : ℕ) → j < length pieces → times (λ e. e.piece == j) ends ≡ 1
  one_end j l = times_moved (λ e. e.piece == j) (ends_of b pieces) ends h.moved ∙ one_each b 0 pieces j (omega arith) (omega (arith, l))

  pub ends_distinct : AreDistinct ends
  ends_distinct =
      record {
        known = λ k l. omega (arith, as_many, (end_known k l).0);
        apart = λ k l m n e.
            single (λ x. x.piece == piece_in ends l) ends k l no_end (one_end (piece_in ends l) (end_known l n).0) m n ((Decides-eqb (piece_in ends k) (piece_in ends l)).1 e)
            ((Decides-eqb (piece_in ends l) (piece_in ends l)).1 refl);
      }

  -- where a piece stands
  pub stands : (i : ℕ) → i < length pieces → (k : ℕ) × (k < length ends) × (piece_in ends k ≡ i)
  stands i l = by (found (λ e. e.piece == i) ends no_end (omega (arith, one_end i l)))
    where
      by : (k : ℕ) × (k < length ends) × ((piece_in ends k == i) ≡ true) → (k : ℕ) × (k < length ends) × (piece_in ends k ≡ i)
      by (k, m, e) = (k, m, (Decides-eqb (piece_in ends k) i).0 e)

  at_place : (v : ℕ) → times (λ e. e.place == v) ends ≡ times (λ p. place_of b p == v) pieces
  at_place v = times_moved (λ e. e.place == v) (ends_of b pieces) ends h.moved ∙ times_places b 0 pieces v

module _ (pieces : List NumberedPiece) (starts ends : List PieceEnd) (nexts : List ℕ) (s : AreSortedEnds true pieces starts) (e : AreSortedEnds false pieces ends) (pairs : ArePaired starts ends nexts) where
  pub alike : length starts ≡ length ends
  alike = as_many true pieces starts s ∙ sym (as_many false pieces ends e)

  next_is : (i k : ℕ) → k < length ends → piece_in ends k ≡ i → next_of nexts i ≡ piece_in starts k
  next_is i k l f = ap (next_of nexts) (sym f) ∙ pairs.pairs k l

  one_place : IsBalanced pieces → (k : ℕ) → k < length starts → (get_or starts k no_end).place ≡ (get_or ends k no_end).place
  one_place balanced k l =
      same_places (λ (x : PieceEnd). x.place) starts ends (by_first (λ (x : PieceEnd). x.place) (λ (x : PieceEnd). x.rank) starts s.in_order)
      (by_first (λ (x : PieceEnd). x.place) (λ (x : PieceEnd). x.rank) ends e.in_order) same k no_end l
    where
      same : (v : ℕ) → times (λ (x : PieceEnd). x.place == v) starts ≡ times (λ (x : PieceEnd). x.place == v) ends
      same v =
          at_place true pieces starts s v ∙ times_is (λ (p : NumberedPiece). p.from == v) pieces ∙ balanced v
          ∙ sym (times_is (λ (p : NumberedPiece). p.to == v) pieces) ∙ sym (at_place false pieces ends e v)

  pub nexts_are : IsBalanced pieces → AreNexts pieces nexts
  nexts_are balanced =
      record {
        count = pairs.count ∙ as_many false pieces ends e;
        known = λ i l. known i (stands false pieces ends e i l);
        once = λ i j l m f. once i j f (stands false pieces ends e i l) (stands false pieces ends e j m);
        meet = λ i l. meet i (stands false pieces ends e i l);
      }
    where
      known : (i : ℕ) → (k : ℕ) × (k < length ends) × (piece_in ends k ≡ i) → next_of nexts i < length pieces
      known i (k, l, f) = rw (next_is i k l f) (end_known true pieces starts s k (omega (arith, l, alike))).0

      once : (i j : ℕ) → next_of nexts i ≡ next_of nexts j → (k : ℕ) × (k < length ends) × (piece_in ends k ≡ i) → (k : ℕ) × (k < length ends) × (piece_in ends k ≡ j) → i ≡ j
      once i j f (k, l, g) (m, n, o) =
          let same : k ≡ m = (ends_distinct true pieces starts s).apart k m (omega (arith, l, alike)) (omega (arith, n, alike)) (sym (next_is i k l g) ∙ f ∙ next_is j m n o) in
          sym g ∙ ap (piece_in ends) same ∙ o

      meet : (i : ℕ) → (k : ℕ) × (k < length ends) × (piece_in ends k ≡ i) → (piece_at pieces i).to ≡ (piece_at pieces (next_of nexts i)).from
      meet i (k, l, f) =
          ap (λ (j : ℕ). (piece_at pieces j).to) (sym f) ∙ sym (end_known false pieces ends e k l).1 ∙ sym (one_place balanced k (omega (arith, l, alike)))
          ∙ (end_known true pieces starts s k (omega (arith, l, alike))).1 ∙ ap (λ (j : ℕ). (piece_at pieces j).from) (sym (next_is i k l f))

-- ---- lists made one by one
pub end_more : (b : Bool) (pieces : List NumberedPiece) (number : ℕ) (xs ys : List PieceEnd) (e : PieceEnd) → number < length pieces → e ≡ end_of b (piece_at pieces number) number
    → ys ≡ xs ++ e ∷ [] → xs ++ ends_from b number (drop number pieces) ≡ ends_of b pieces → ys ++ ends_from b (number + 1) (drop (number + 1) pieces) ≡ ends_of b pieces
end_more b pieces number xs ys e l f g h =
    ap (λ (zs : List PieceEnd). zs ++ ends_from b (number + 1) (drop (number + 1) pieces)) g
    ∙ append_assoc xs (e ∷ []) (ends_from b (number + 1) (drop (number + 1) pieces))
    ∙ ap (λ (z : PieceEnd). xs ++ z ∷ ends_from b (number + 1) (drop (number + 1) pieces)) f
    ∙ ap (λ (ps : List NumberedPiece). xs ++ ends_from b number ps) (sym (drop_more pieces number no_piece l))
    ∙ h

pub all_ends : (b : Bool) (pieces : List NumberedPiece) (number : ℕ) (xs : List PieceEnd) → length pieces ≤ number → xs ++ ends_from b number (drop number pieces) ≡ ends_of b pieces → xs ≡ ends_of b pieces
all_ends b pieces number xs l h =
    sym (append-nil xs) ∙ ap (λ (ps : List NumberedPiece). xs ++ ends_from b number ps) (sym (drop_all number pieces l)) ∙ h

pub pair_more : (starts ends : List PieceEnd) (nexts : List ℕ) (k : ℕ) → AreDistinct ends → k < length ends → length nexts ≡ length ends
    → ((j : ℕ) → j < k → next_of nexts (piece_in ends j) ≡ piece_in starts j)
    → (j : ℕ) → j < k + 1 → next_of (set nexts (piece_in ends k) (piece_in starts k)) (piece_in ends j) ≡ piece_in starts j
pair_more starts ends nexts k distinct l alike h j m = by (cases_eq j k)
  where
    by : (j ≡ k) ⊎ (j ≡ k → ⊥) → next_of (set nexts (piece_in ends k) (piece_in starts k)) (piece_in ends j) ≡ piece_in starts j
    by (inl e) =
        subst (λ (i : ℕ). next_of (set nexts (piece_in ends k) (piece_in starts k)) (piece_in ends i) ≡ piece_in starts i) (sym e)
        (get_or-set_same nexts (piece_in ends k) (piece_in starts k) 0 (omega (arith, distinct.known k l, alike)))
    by (inr o) =
        get_or-set_other nexts (piece_in ends k) (piece_in ends j) (piece_in starts k) 0 (λ e. o (distinct.apart j k (omega (arith, m, l)) l e))
        ∙ h j (omega (arith, m, o))

pub order_length : (pieces : List NumberedPiece) (nexts : List ℕ) → IsInOrder pieces nexts → length nexts ≡ length pieces
order_length pieces nexts h = h.paired.count ∙ as_many false pieces h.ends h.ends_are

pub nexts_from_order : (pieces : List NumberedPiece) (nexts : List ℕ) → IsInOrder pieces nexts → IsBalanced pieces → AreNexts pieces nexts
nexts_from_order pieces nexts h balanced = nexts_are pieces h.starts h.ends nexts h.starts_are h.ends_are h.paired balanced
