-- Pieces by the names of their ends: their test, and how they are read.
use Rattle.std.proofs.Common.{◌≡◌, ◌≤◌, ℕ, pos, ◌<ℤ◌, Bool, true, false, cond, not, ◌&&◌, ◌⊎◌, List, [], ◌∷◌, Option, Some, None, refl, ap, ◌∙◌, arith, inl, inr, ◌<◌, length, take, drop, ◌+◌, ◌-◌, sym}
use Rattle.std.specs.Prelude.{int_lt, nat_lt, slice_index}
use Rattle.std.specs.Ordering.{is_lt}
use Rattle.std.specs.declared.cmp.Ordering.{Ordering}
use Rattle.std.specs.declared.cmp.Ordering.TheVariants.{Less, Equal, Greater}
use Rattle.std.proofs.lemmas.Bool.{cases_lt, and_parts, and_from, not_from_false, lt-ltb, false_from_ne_true, cond-true, cond-false}
use Rattle.std.proofs.lemmas.List.{length-drop, drop-drop, take_all}
use Rattle.overlay_terms.specs.Plane.{Segment, WholePoint, whole_cmp, same_whole, point_cmp, is_on}
use Rattle.overlay_terms.specs.Column.{column_count, border}
use Rattle.overlay_terms.specs.Tiles.{is_parallel}
use Rattle.overlay_terms.proofs.InputNumbers.{lt_true, true_lt}
use Rattle.overlay_terms.proofs.PointOrder.{same_points}
use Rattle.exact_point.specs.NamedPiece.{NamedPiece}
use Rattle.exact_point.specs.NameCode.{name_from}
use Rattle.exact_point.specs.PlaceOf.{place_of, crossing_place}
use Rattle.exact_point.specs.PointName.{HasPlace, IsPlaceOf}
use Rattle.exact_point.specs.declared.point_name.PointName.{PointName}
use Rattle.exact_point.specs.declared.point_name.PointName.TheVariants.{Vertex, Cross, Border}
use Rattle.tile_build.specs.Piece.{IsBetween}
use Rattle.tile_build.proofs.EndLemmas.{at_left, at_right, whole_ends}
use Rattle.store_terms.specs.Fields.{◌>>?◌, Field, both}
use Rattle.store_terms.specs.BaseRecord.{whole_point}
use Rattle.store_terms.specs.TileRecord.{segment, point_name, has_place, is_piece, piece}
use Rattle.store_terms.proofs.NameTests.{back}
use Rattle.record_writing.proofs.PieceLemmas.{the_piece, passes}
use Rattle.record_reading.specs.Added.{before}
use Rattle.record_reading.proofs.PointLemmas.{point_short, point_cases}

less_so : (o : Ordering) → is_lt o ≡ true → o ≡ Less
less_so Less e = refl
less_so Equal e = absurd cc
less_so Greater e = absurd cc

-- a name that stands for a place passes its test
placed : (n : PointName) → HasPlace n → pos 0 <ℤ (place_of n).w → IsPlaceOf n (place_of n) → has_place n ≡ true
placed (Vertex v) has positive at = refl
placed (Cross a b) has positive at =
    and_from (not (is_parallel a b) && int_lt (pos 0) (crossing_place a b).w && is_on a (crossing_place a b)) (is_on b (crossing_place a b))
    (and_from (not (is_parallel a b) && int_lt (pos 0) (crossing_place a b).w) (is_on a (crossing_place a b))
    (and_from (not (is_parallel a b)) (int_lt (pos 0) (crossing_place a b).w) (not_from_false (is_parallel a b) at.not_parallel)
    (true_lt (pos 0) (crossing_place a b).w positive)) at.on_first) at.on_second
placed (Border s k) has positive at =
    and_from (nat_lt k column_count && int_lt s.left.x (border k)) (int_lt (border k) s.right.x)
    (and_from (nat_lt k column_count) (int_lt s.left.x (border k)) (lt-ltb k column_count has.known_column) (true_lt s.left.x (border k) has.after_left))
    (true_lt (border k) s.right.x has.before_right)

module _ (s : Segment) (f t : PointName) where
  -- what the test of a piece says
  pub tested : is_piece (the_piece s f t) ≡ true → (has_place f ≡ true) × (has_place t ≡ true) × IsBetween s f t
  tested e =
      let seven = and_parts
      (has_place f && has_place t && int_lt (pos 0) (place_of f).w && int_lt (pos 0) (place_of t).w
      && is_on s (place_of f) && is_on s (place_of t)) (is_lt (point_cmp (place_of f) (place_of t))) e in
      let six = and_parts
      (has_place f && has_place t && int_lt (pos 0) (place_of f).w && int_lt (pos 0) (place_of t).w
      && is_on s (place_of f)) (is_on s (place_of t)) seven.0 in
      let five = and_parts
      (has_place f && has_place t && int_lt (pos 0) (place_of f).w && int_lt (pos 0) (place_of t).w)
      (is_on s (place_of f)) six.0 in
      let four = and_parts (has_place f && has_place t && int_lt (pos 0) (place_of f).w)
      (int_lt (pos 0) (place_of t).w) five.0 in
      let three = and_parts (has_place f && has_place t) (int_lt (pos 0) (place_of f).w) four.0 in
      let two = and_parts (has_place f) (has_place t) three.0 in (
        two.0,
        two.1,
        record {
          from_named = back f two.0;
          to_named = back t two.1;
          from_positive = lt_true (pos 0) (place_of f).w three.1;
          to_positive = lt_true (pos 0) (place_of t).w four.1;
          from_on = five.1;
          to_on = six.1;
          in_order = less_so (point_cmp (place_of f) (place_of t)) seven.1;
        },
      )

  pub is_one : IsBetween s f t → IsPlaceOf f (place_of f) × IsPlaceOf t (place_of t) → is_piece (the_piece s f t) ≡ true
  is_one between at =
      passes s f t (placed f between.from_named between.from_positive at.0)
      (placed t between.to_named between.to_positive at.1) between

  pub is_none : (IsBetween s f t → ⊥) → is_piece (the_piece s f t) ≡ false
  is_none never = false_from_ne_true (is_piece (the_piece s f t)) (λ e. never (tested e).2)

abbrev both_names : Field (PointName × PointName)
both_names = both point_name point_name

abbrev with_names : Segment → (PointName × PointName) × List ℕ → Option ((Segment × (PointName × PointName)) × List ℕ)
with_names s b = Some ((s, b.0), b.1)

abbrev behind_segment : Segment × List ℕ → Option ((Segment × (PointName × PointName)) × List ℕ)
behind_segment a = both_names.read a.1 >>? with_names a.0

abbrev with_second : PointName → PointName × List ℕ → Option ((PointName × PointName) × List ℕ)
with_second f b = Some ((f, b.0), b.1)

abbrev behind_first : PointName × List ℕ → Option ((PointName × PointName) × List ℕ)
behind_first a = point_name.read a.1 >>? with_second a.0

abbrev making : (Segment × (PointName × PointName)) × List ℕ → Option (NamedPiece × List ℕ)
making a = Some (record { support = a.0.0; from = a.0.1.0; to = a.0.1.1 }, a.1)

abbrev sieving : NamedPiece × List ℕ → Option (NamedPiece × List ℕ)
sieving a = cond (is_piece a.0) (Some a) None

abbrev front : {A : Type 0} → A → List ℕ → A × List ℕ
front x rest = (x, rest)

-- a segment from its ends
abbrev with_right : WholePoint → WholePoint × List ℕ → Option ((WholePoint × WholePoint) × List ℕ)
with_right l b = Some ((l, b.0), b.1)

abbrev behind_left : WholePoint × List ℕ → Option ((WholePoint × WholePoint) × List ℕ)
behind_left a = whole_point.read a.1 >>? with_right a.0

abbrev joining : (WholePoint × WholePoint) × List ℕ → Option (Segment × List ℕ)
joining a = Some (record { left = a.0.0; right = a.0.1 }, a.1)

abbrev ordering : Segment × List ℕ → Option (Segment × List ℕ)
ordering a = cond (is_lt (whole_cmp a.0.left a.0.right)) (Some a) None

read_ends : (bytes behind rest : List ℕ) (l r : WholePoint) → whole_point.read bytes ≡ Some (l, behind)
    → whole_point.read behind ≡ Some (r, rest)
    → segment.read bytes ≡ cond (is_lt (whole_cmp l r)) (Some (front (record { left = l; right = r }) rest)) None
read_ends bytes behind rest l r left right =
    ap (λ (o : Option (WholePoint × List ℕ)). ((o >>? behind_left) >>? joining) >>? ordering) left
    ∙ ap (λ (o : Option (WholePoint × List ℕ)). ((o >>? with_right l) >>? joining) >>? ordering) right

-- a piece from its segment and the names of its ends
read_parts : (bytes behind after rest : List ℕ) (s : Segment) (f t : PointName)
    → segment.read bytes ≡ Some (s, behind) → point_name.read behind ≡ Some (f, after)
    → point_name.read after ≡ Some (t, rest)
    → piece.read bytes ≡ cond (is_piece (the_piece s f t)) (Some (front (the_piece s f t) rest)) None
read_parts bytes behind after rest s f t support from to =
    ap (λ (o : Option (Segment × List ℕ)). ((o >>? behind_segment) >>? making) >>? sieving) support
    ∙ ap (λ (o : Option (PointName × List ℕ)). (((o >>? behind_first) >>? with_names s) >>? making) >>? sieving) from
    ∙ ap (λ (o : Option (PointName × List ℕ)). (((o >>? with_second f) >>? with_names s) >>? making) >>? sieving) to

module _ (bytes behind after rest : List ℕ) (s : Segment) (f t : PointName) (support : segment.read bytes ≡ Some (s, behind))
    (from : point_name.read behind ≡ Some (f, after)) (to : point_name.read after ≡ Some (t, rest)) where
  pub piece_read : is_piece (the_piece s f t) ≡ true → piece.read bytes ≡ Some (the_piece s f t, rest)
  piece_read is =
      read_parts bytes behind after rest s f t support from to
      ∙ cond-true (is_piece (the_piece s f t)) (Some (front (the_piece s f t) rest)) None is

  pub no_piece : is_piece (the_piece s f t) ≡ false → piece.read bytes ≡ None
  no_piece none =
      read_parts bytes behind after rest s f t support from to
      ∙ cond-false (is_piece (the_piece s f t)) (Some (front (the_piece s f t) rest)) None none

-- the segment between two points, if the first is the left one
abbrev pub if_segment : WholePoint → WholePoint → Option Segment
if_segment l r = cond (is_lt (whole_cmp l r)) (Some (record { left = l; right = r })) None

before_rest : {A : Type 0} (b : Bool) (x : A) (rest : List ℕ)
    → cond b (Some (front x rest)) None ≡ before rest (cond b (Some x) None)
before_rest true x rest = refl
before_rest false x rest = refl

-- a segment is read from the points that are its ends
pub ends_read : (bytes behind rest : List ℕ) (l r : WholePoint) → whole_point.read bytes ≡ Some (l, behind)
    → whole_point.read behind ≡ Some (r, rest) → segment.read bytes ≡ before rest (if_segment l r)
ends_read bytes behind rest l r left right =
    read_ends bytes behind rest l r left right
    ∙ before_rest (is_lt (whole_cmp l r)) (record { left = l; right = r }) rest

no_left : (bytes : List ℕ) → whole_point.read bytes ≡ None → segment.read bytes ≡ None
no_left bytes none = ap (λ (o : Option (WholePoint × List ℕ)). ((o >>? behind_left) >>? joining) >>? ordering) none

no_right : (bytes behind : List ℕ) (l : WholePoint) → whole_point.read bytes ≡ Some (l, behind)
    → whole_point.read behind ≡ None → segment.read bytes ≡ None
no_right bytes behind l left none =
    ap (λ (o : Option (WholePoint × List ℕ)). ((o >>? behind_left) >>? joining) >>? ordering) left
    ∙ ap (λ (o : Option (WholePoint × List ℕ)). ((o >>? with_right l) >>? joining) >>? ordering) none

pub segment_short : (bytes : List ℕ) → length bytes < 16 → segment.read bytes ≡ None
segment_short bytes lt =
    elim (cases_lt (length bytes) 8) [
      | inl few ↦ no_left bytes (point_short bytes few)
      | inr many ↦ elim (point_cases bytes many) [
        | inl none ↦ no_left bytes none
        | inr some ↦ no_right bytes (drop 8 bytes) some.0 some.1
            (point_short (drop 8 bytes) (omega (arith, length-drop 8 bytes)))
      ]
    ]

-- the part of some bytes from a place on
pub part_from : (n : ℕ) (bytes : List ℕ) → take (length bytes - n) (drop n bytes) ≡ drop n bytes
part_from n bytes = take_all (length bytes - n) (drop n bytes) (omega (arith, length-drop n bytes))

-- a name of nine bytes that is read from such a part
pub name_in_part : (m : ℕ) (bytes : List ℕ) (n : PointName)
    → point_name.read (take (length bytes - m) (drop m bytes)) ≡ Some (n, drop 9 (take (length bytes - m) (drop m bytes)))
    → point_name.read (drop m bytes) ≡ Some (n, drop (m + 9) bytes)
name_in_part m bytes n read =
    (λ i. point_name.read (sym (part_from m bytes) i)) ∙ read
    ∙ (λ i. Some (n, (ap (drop 9) (part_from m bytes) ∙ drop-drop 9 m bytes) i))

-- a segment that is read from such a part
segment_in_part : (m : ℕ) (bytes : List ℕ) (s : Segment)
    → segment.read (take (length bytes - m) (drop m bytes)) ≡ Some (s, drop 16 (take (length bytes - m) (drop m bytes)))
    → segment.read (drop m bytes) ≡ Some (s, drop (m + 16) bytes)
segment_in_part m bytes s read =
    (λ i. segment.read (sym (part_from m bytes) i)) ∙ read
    ∙ (λ i. Some (s, (ap (drop 16) (part_from m bytes) ∙ drop-drop 16 m bytes) i))

abbrev with_other : Segment → Segment × List ℕ → Option ((Segment × Segment) × List ℕ)
with_other s b = Some ((s, b.0), b.1)

abbrev behind_one : Segment × List ℕ → Option ((Segment × Segment) × List ℕ)
behind_one a = segment.read a.1 >>? with_other a.0

abbrev crossed : (Segment × Segment) × List ℕ → Option ((WholePoint ⊎ (Segment × Segment ⊎ Segment × ℕ)) × List ℕ)
crossed b = Some (inr (inl b.0), b.1)

abbrev naming : (WholePoint ⊎ (Segment × Segment ⊎ Segment × ℕ)) × List ℕ → Option (PointName × List ℕ)
naming a = Some (name_from a.0, a.1)

-- the name of a crossing is its kind and two segments
pub crossing_read : (bytes : List ℕ) (a b : Segment) → 33 ≤ length bytes → slice_index bytes 0 ≡ 1
    → segment.read (take (length bytes - 1) (drop 1 bytes)) ≡ Some (a, drop 16 (take (length bytes - 1) (drop 1 bytes)))
    → segment.read (take (length bytes - 17) (drop 17 bytes)) ≡ Some (b, drop 16 (take (length bytes - 17) (drop 17 bytes)))
    → point_name.read bytes ≡ Some (Cross a b, drop 33 bytes)
crossing_read [] a b long one first second = absurd (omega (arith, long))
crossing_read (kind ∷ rest) a b long one first second =
    ap (λ (n : ℕ). point_name.read (n ∷ rest)) one
    ∙ ap (λ (o : Option (Segment × List ℕ)). ((o >>? behind_one) >>? crossed) >>? naming) (segment_in_part 1 (kind ∷ rest) a first)
    ∙ ap (λ (o : Option (Segment × List ℕ)). ((o >>? with_other a) >>? crossed) >>? naming)
    (segment_in_part 17 (kind ∷ rest) b second)

-- the ends of a segment are those of a piece of it
pub own_ends : (s : Segment) (f l t r : WholePoint) → whole_cmp s.left s.right ≡ Less → l ≡ s.left → r ≡ s.right
    → same_whole f l ≡ true → same_whole t r ≡ true → IsBetween s (Vertex f) (Vertex t)
own_ends s f l t r ahead left right from to =
    let first : f ≡ s.left = same_points f l from ∙ left in
    let last : t ≡ s.right = same_points t r to ∙ right in
    (whole_ends s f t true (at_left s f l true ahead left (sym from) refl) (at_right s t r true ahead right (sym to) refl)
    (sym ((λ i. is_lt (whole_cmp (first i) (last i))) ∙ ap is_lt ahead))).0 refl
