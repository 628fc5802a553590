-- Pieces by the names of their ends: that they pass their test, and how they are written.
use Rattle.std.proofs.Common.{◌≡◌, ℕ, pos, ◌<◌, true, ◌&&◌, List, [], ◌∷◌, ◌++◌, ap, subst}
use Rattle.std.specs.Prelude.{int_lt}
use Rattle.std.specs.Ordering.{is_lt}
use Rattle.std.specs.declared.cmp.Ordering.TheVariants.{Less}
use Rattle.std.proofs.lemmas.Bool.{and_from}
use Rattle.overlay_terms.specs.Plane.{Segment, WholePoint, whole_cmp, point_cmp, is_on}
use Rattle.overlay_terms.proofs.InputNumbers.{true_lt}
use Rattle.exact_point.specs.NamedPiece.{NamedPiece}
use Rattle.exact_point.specs.PlaceOf.{place_of}
use Rattle.exact_point.specs.declared.point_name.PointName.{PointName}
use Rattle.exact_point.specs.declared.point_name.PointName.TheVariants.{Cross, Border}
use Rattle.tile_build.specs.Piece.{IsBetween}
use Rattle.store_terms.specs.Fields.{both, number}
use Rattle.store_terms.specs.BaseRecord.{whole_point}
use Rattle.store_terms.specs.TileRecord.{segment, point_name, has_place, is_piece, piece}
use Rattle.record_writing.specs.Putting.{IsPut}
use Rattle.record_writing.proofs.PutLemmas.{put_both, put_byte, put_two, put_three}

module _ (s : Segment) (f t : PointName) where
  abbrev pub the_piece : NamedPiece
  the_piece = record { support = s; from = f; to = t }

  pub passes : has_place f ≡ true → has_place t ≡ true → IsBetween s f t → is_piece the_piece ≡ true
  passes from to between =
      and_from (has_place f && has_place t && int_lt (pos 0) (place_of f).w && int_lt (pos 0) (place_of t).w
      && is_on s (place_of f) && is_on s (place_of t)) (is_lt (point_cmp (place_of f) (place_of t)))
      (and_from (has_place f && has_place t && int_lt (pos 0) (place_of f).w && int_lt (pos 0) (place_of t).w
      && is_on s (place_of f)) (is_on s (place_of t))
      (and_from (has_place f && has_place t && int_lt (pos 0) (place_of f).w && int_lt (pos 0) (place_of t).w)
      (is_on s (place_of f))
      (and_from (has_place f && has_place t && int_lt (pos 0) (place_of f).w) (int_lt (pos 0) (place_of t).w)
      (and_from (has_place f && has_place t) (int_lt (pos 0) (place_of f).w)
      (and_from (has_place f) (has_place t) from to)
      (true_lt (pos 0) (place_of f).w between.from_positive))
      (true_lt (pos 0) (place_of t).w between.to_positive))
      between.from_on)
      between.to_on)
      (ap is_lt between.in_order)

-- a segment is its ends
pub put_ends : (s : Segment) (l r : WholePoint) (old mid new : List ℕ) → l ≡ s.left → r ≡ s.right
    → whole_cmp s.left s.right ≡ Less → IsPut whole_point l old mid → IsPut whole_point r mid new
    → IsPut segment s old new
put_ends s l r old mid new left right less first second =
    let put = put_both whole_point whole_point s.left s.right old mid new
    (subst (λ (p : WholePoint). IsPut whole_point p old mid) left first)
    (subst (λ (p : WholePoint). IsPut whole_point p mid new) right second) in
    record {
      fits =
          and_from ((both whole_point whole_point).fits (s.left, s.right)) (is_lt (whole_cmp s.left s.right)) put.fits
          (ap is_lt less);
      spelled = put.spelled;
    }

pub put_crossing : (a b : Segment) (old tag mid new : List ℕ) → tag ≡ old ++ 1 ∷ [] → IsPut segment a tag mid
    → IsPut segment b mid new → IsPut point_name (Cross a b) old new
put_crossing a b old tag mid new is first second =
    let put = put_two whole_point (both segment segment) (both segment (number 1)) old tag new (a, b) is
    (put_both segment segment a b tag mid new first second) in
    record { fits = put.fits; spelled = put.spelled }

pub put_cut : (s : Segment) (k : ℕ) (old tag mid new : List ℕ) → k < 256 → tag ≡ old ++ 2 ∷ [] → IsPut segment s tag mid
    → new ≡ mid ++ k ∷ [] → IsPut point_name (Border s k) old new
put_cut s k old tag mid new small is first second =
    let put = put_three whole_point (both segment segment) (both segment (number 1)) old tag new (s, k) is
    (put_both segment (number 1) s k tag mid new first (put_byte k mid new small second)) in
    record { fits = put.fits; spelled = put.spelled }

-- a piece is its segment, and the names of its ends
pub put_parts : (p : NamedPiece) (old a b new : List ℕ) → is_piece p ≡ true → IsPut segment p.support old a
    → IsPut point_name p.from a b → IsPut point_name p.to b new → IsPut piece p old new
put_parts p old a b new passed support from to =
    let put = put_both segment (both point_name point_name) p.support (p.from, p.to) old a new support
    (put_both point_name point_name p.from p.to a b new from to) in
    record {
      fits =
          and_from ((both segment (both point_name point_name)).fits (p.support, (p.from, p.to)))
          (is_piece p) put.fits passed;
      spelled = put.spelled;
    }
