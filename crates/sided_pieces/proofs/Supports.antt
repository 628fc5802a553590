-- Pieces that lie on their supports do so from wherever they are seen.
use Rattle.std.proofs.Common.{◌≡◌, ℤ, pos, ◌+ℤ◌, ◌-ℤ◌, ◌*ℤ◌, ◌<ℤ◌, List, [], ◌∷◌, map, inl, inr, refl, ◌∙◌, arith}
use Rattle.std.specs.Prelude.{All}
use Rattle.std.specs.Cmp.{int_ranks}
use Rattle.std.specs.Ordering.{int_cmp, ordering_then, MatchOrdering}
use Rattle.std.specs.declared.cmp.Ordering.{Ordering}
use Rattle.std.specs.declared.cmp.Ordering.TheVariants.{Less, Equal, Greater}
use Rattle.std.proofs.lemmas.Int.{ints}
use Rattle.std.proofs.lemmas.List.Elements.{All-nil, All-cons, All-head, All-tail}
use Rattle.overlay_terms.specs.Plane.{Point, Segment, height_over}
use Rattle.overlay_terms.proofs.Difference.{split, differences, same}
use Rattle.exact_point.specs.Place.{place}
use Rattle.exact_point.specs.declared.point.HPoint.{HPoint}
use Rattle.exact_point.proofs.Lexical.{Forward}
use Rattle.exact_point.proofs.OnLine.{on_line}
use Rattle.exact_point.proofs.OnSegment.{leads}
use Rattle.swept_area.specs.Pieces.{point_from, segment_from, sided_from}
use Rattle.swept_area.specs.SweptLaws.{IsSegment, IsOnLine, IsOnSupport}
use Rattle.swept_area.specs.declared.piece.Shift.{Shift}
use Rattle.swept_area.specs.declared.piece.SidedPiece.{SidedPiece}
use Rattle.sided_pieces.specs.Sided.{sided_of, IsOnItsSupport}

-- ---- a segment
by_way : (r s : Ordering) (x a y b : ℤ) → MatchOrdering r (x <ℤ a) (x ≡ a) (a <ℤ x) → MatchOrdering s (y <ℤ b) (y ≡ b) (b <ℤ y) → Forward (a -ℤ x) (b -ℤ y) → ordering_then r s ≡ Less
by_way Less s x a y b h k f = refl
by_way Equal Less x a y b h k f = refl
by_way Equal Equal x a y b h k (inl f) = absurd (omega (arith, ints))
by_way Equal Equal x a y b h k (inr f) = absurd (omega (arith, ints, f.1))
by_way Equal Greater x a y b h k (inl f) = absurd (omega (arith, ints))
by_way Equal Greater x a y b h k (inr f) = absurd (omega (arith, ints, f.1))
by_way Greater s x a y b h k (inl f) = absurd (omega (arith, ints))
by_way Greater s x a y b h k (inr f) = absurd (omega (arith, ints, f.0))

way_from : (x a y b bx by : ℤ) → Forward (a -ℤ x) (b -ℤ y) → Forward ((a +ℤ bx) -ℤ (x +ℤ bx)) ((b +ℤ by) -ℤ (y +ℤ by))
way_from x a y b bx by (inl f) = inl (omega (arith, ints, f))
way_from x a y b bx by (inr f) = inr (omega (arith, ints, f.0), omega (arith, ints, f.1))

pub segment_there : (by : Shift) (s : Segment) → IsSegment s → IsSegment (segment_from by s)
segment_there by s h =
    by_way (int_cmp (s.left.x +ℤ by.x) (s.right.x +ℤ by.x)) (int_cmp (s.left.y +ℤ by.y) (s.right.y +ℤ by.y)) (s.left.x +ℤ by.x) (s.right.x +ℤ by.x) (s.left.y +ℤ by.y) (s.right.y +ℤ by.y)
    (int_ranks (s.left.x +ℤ by.x) (s.right.x +ℤ by.x)) (int_ranks (s.left.y +ℤ by.y) (s.right.y +ℤ by.y)) (way_from s.left.x s.right.x s.left.y s.right.y by.x by.y (leads s h))

-- ---- a place on it
same_height : (lx ly rx ry px py w bx by : ℤ) →
    (((rx +ℤ bx) -ℤ (lx +ℤ bx)) *ℤ ((py +ℤ (by *ℤ w)) -ℤ ((ly +ℤ by) *ℤ w))) -ℤ (((ry +ℤ by) -ℤ (ly +ℤ by)) *ℤ ((px +ℤ (bx *ℤ w)) -ℤ ((lx +ℤ bx) *ℤ w)))
    ≡ ((rx -ℤ lx) *ℤ (py -ℤ (ly *ℤ w))) -ℤ ((ry -ℤ ly) *ℤ (px -ℤ (lx *ℤ w)))
same_height lx ly rx ry px py w bx by =
    rw (split lx, split ly, split rx, split ry, split px, split py, split w, split bx, split by) (simp differences (same _ _ _ _ (omega arith)))

place_there : (by : Shift) (s : Segment) (p : Point) → pos 0 <ℤ p.w → height_over s p ≡ pos 0 → IsOnLine (segment_from by s) (point_from by p)
place_there by s p h level = record { positive = h; level = same_height s.left.x s.left.y s.right.x s.right.y p.x p.y p.w by.x by.y ∙ level }

positive : (p : HPoint) → pos 0 <ℤ (place p).w
positive p = omega (arith, ints)

-- ---- pieces
support_there : (by : Shift) (p : SidedPiece) → IsOnItsSupport (sided_of p) → IsOnSupport (sided_from by p)
support_there by p h =
    record {
      first = segment_there by p.support h.first;
      from = place_there by p.support (place p.from) (positive p.from) (on_line p.support (place p.from) h.from_on);
      to = place_there by p.support (place p.to) (positive p.to) (on_line p.support (place p.to) h.to_on);
    }

pub supports_there : (by : Shift) (pieces : List SidedPiece) → All IsOnItsSupport (map sided_of pieces) → All IsOnSupport (map (sided_from by) pieces)
supports_there by [] h = All-nil IsOnSupport
supports_there by (p ∷ pieces) h =
    All-cons IsOnSupport (sided_from by p) (map (sided_from by) pieces) (support_there by p (All-head IsOnItsSupport (sided_of p) (map sided_of pieces) h))
    (supports_there by pieces (All-tail IsOnItsSupport (sided_of p) (map sided_of pieces) h))
