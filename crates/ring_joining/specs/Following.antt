-- Which piece follows which: the first by its end is followed by the first by its beginning, and so on.
use Rattle.std.specs.Prelude.{◌≡◌, ℕ, ◌+◌, ◌-◌, ◌<◌, ◌==◌, Bool, true, false, List, [], ◌∷◌, length, get_or, count_by, All, if◌then◌else◌}
use Rattle.std.specs.List.Sorted.{IsPermutation, IsSortedByKey}
use Rattle.std.specs.Ordering.{ordering_then, nat_cmp}
use Rattle.std.specs.declared.cmp.Ordering.{Ordering}
use Rattle.ring_joining.specs.Outline.{piece_at, in_ring}
use Rattle.ring_joining.specs.declared.piece.NumberedPiece.{NumberedPiece}
use Rattle.ring_joining.specs.declared.ending.PieceEnd.{PieceEnd}

-- each place has as many beginnings as ends
abbrev pub IsBalanced : List NumberedPiece → Type 0
IsBalanced pieces = (place : ℕ) → count_by (λ p. p.from == place) pieces ≡ count_by (λ p. p.to == place) pieces

-- the number of the piece that follows one
abbrev pub next_of : List ℕ → ℕ → ℕ
next_of nexts i = get_or nexts i 0

-- a ring goes on from each piece to its next, and from the last to the first
pub record Follows (nexts ring : List ℕ) : Type 0 where
  pub on : (k : ℕ) → k + 1 < length ring → in_ring ring (k + 1) ≡ next_of nexts (in_ring ring k)
  pub back : in_ring ring 0 ≡ next_of nexts (in_ring ring (length ring - 1))

-- for each piece one that begins where it ends, and for each another one
pub record AreNexts (pieces : List NumberedPiece) (nexts : List ℕ) : Type 0 where
  pub count : length nexts ≡ length pieces
  pub known : (i : ℕ) → i < length pieces → next_of nexts i < length pieces
  pub once : (i j : ℕ) → i < length pieces → j < length pieces → next_of nexts i ≡ next_of nexts j → i ≡ j
  pub meet : (i : ℕ) → i < length pieces → (piece_at pieces i).to ≡ (piece_at pieces (next_of nexts i)).from

-- where a piece begins, or else where it ends
abbrev pub place_of : Bool → NumberedPiece → ℕ
place_of is_first p = if is_first then p.from else p.to

-- the same with the rank there and the number of the piece
abbrev pub end_of : Bool → NumberedPiece → ℕ → PieceEnd
end_of is_first p i =
    if is_first then record { place = p.from; rank = p.from_rank; piece = i } else record { place = p.to; rank = p.to_rank; piece = i }

-- those of pieces that are numbered from i on
abbrev pub ends_from : Bool → ℕ → List NumberedPiece → List PieceEnd
ends_from is_first i [] = []
ends_from is_first i (p ∷ ps) = end_of is_first p i ∷ ends_from is_first (i + 1) ps

abbrev pub ends_of : Bool → List NumberedPiece → List PieceEnd
ends_of is_first pieces = ends_from is_first 0 pieces

-- ends go by place, and by rank where they are in one place
abbrev pub end_key : PieceEnd → ℕ × ℕ
end_key e = (e.place, e.rank)

abbrev pub key_cmp : ℕ × ℕ → ℕ × ℕ → Ordering
key_cmp x y = ordering_then (nat_cmp x.0 y.0) (nat_cmp x.1 y.1)

-- the beginnings of all pieces, or else their ends, in that order
pub record AreSortedEnds (is_first : Bool) (pieces : List NumberedPiece) (ends : List PieceEnd) : Type 0 where
  pub moved : IsPermutation (ends_of is_first pieces) ends
  pub in_order : IsSortedByKey end_key key_cmp ends

-- the number of the piece in a place of a list of ends
abbrev pub piece_in : List PieceEnd → ℕ → ℕ
piece_in ends k = (get_or ends k (record { place = 0; rank = 0; piece = 0 })).piece

-- ends of different pieces, whose numbers are below their count
pub record AreDistinct (ends : List PieceEnd) : Type 0 where
  pub known : (k : ℕ) → k < length ends → piece_in ends k < length ends
  pub apart : (k l : ℕ) → k < length ends → l < length ends → piece_in ends k ≡ piece_in ends l → k ≡ l

-- the piece with the first end is followed by the one with the first beginning, and so on
pub record ArePaired (starts ends : List PieceEnd) (nexts : List ℕ) : Type 0 where
  pub count : length nexts ≡ length ends
  pub pairs : (k : ℕ) → k < length ends → next_of nexts (piece_in ends k) ≡ piece_in starts k

pub record IsInOrder (pieces : List NumberedPiece) (nexts : List ℕ) : Type 0 where
  pub starts : List PieceEnd
  pub ends : List PieceEnd
  pub starts_are : AreSortedEnds true pieces starts
  pub ends_are : AreSortedEnds false pieces ends
  pub paired : ArePaired starts ends nexts

-- rings that go on from each piece to the one after it in the order of ends and beginnings
pub record AreByOrder (pieces : List NumberedPiece) (rings : List (List ℕ)) : Type 0 where
  pub nexts : List ℕ
  pub in_order : IsInOrder pieces nexts
  pub follow : All (Follows nexts) rings

-- pieces are passed by whole rings: a piece whose next was passed was passed too
abbrev pub IsWhole : List NumberedPiece → List ℕ → List Bool → Type 0
IsWhole pieces nexts passed = (i : ℕ) (d : Bool) → i < length pieces → get_or passed (next_of nexts i) d ≡ true → get_or passed i d ≡ true
