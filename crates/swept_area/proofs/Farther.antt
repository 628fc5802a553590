-- Places seen from the origin.
use Rattle.std.proofs.Common.{◌≡◌, ℤ, pos, ◌+ℤ◌, ◌-ℤ◌, ◌*ℤ◌, ◌<ℤ◌, refl, ap, ◌∙◌, arith}
use Rattle.std.specs.Int.{int_div_euclid}
use Rattle.std.proofs.lemmas.Int.{ints}
use Rattle.overlay_terms.specs.Plane.{Segment}
use Rattle.overlay_terms.proofs.Difference.{split, differences, same}
use Rattle.swept_area.specs.Swept.{parts, in_parts, run_of, rise_of, is_flat, is_rising, length_of}
use Rattle.swept_area.specs.Pieces.{segment_from}
use Rattle.swept_area.specs.declared.piece.Shift.{Shift}
use Rattle.exact_point.specs.declared.point.HPoint.{HPoint}
use Rattle.swept_area.proofs.Floors.{floor_more}

spread : (n b w k : ℤ) → (n +ℤ (b *ℤ w)) *ℤ k ≡ (n *ℤ k) +ℤ ((b *ℤ k) *ℤ w)
spread n b w k = rw (split n, split b, split w, split k) (simp differences (same _ _ _ _ (omega arith)))

-- b units farther
pub parts_farther : (n b w : ℤ) → pos 0 <ℤ w → in_parts (n +ℤ (b *ℤ w)) w ≡ in_parts n w +ℤ (b *ℤ pos parts)
parts_farther n b w h =
    ap (λ (a : ℤ). int_div_euclid a w) (spread n b w (pos parts)) ∙ floor_more (n *ℤ pos parts) (b *ℤ pos parts) w h

-- ways stay as they are
pub run_from : (by : Shift) (s : Segment) → run_of (segment_from by s) ≡ s.right.x -ℤ s.left.x
run_from by s = omega (arith, ints)

pub rise_from : (by : Shift) (s : Segment) → rise_of (segment_from by s) ≡ s.right.y -ℤ s.left.y
rise_from by s = omega (arith, ints)

pub positive : (p : HPoint) → pos 0 <ℤ p.w
positive p = omega (arith, ints)

-- so do the length of a segment and its kind
pub flat_from : (by : Shift) (s : Segment) → is_flat (segment_from by s) ≡ is_flat s
flat_from by s = rw (run_from by s, rise_from by s) refl

pub rising_from : (by : Shift) (s : Segment) → is_rising (segment_from by s) ≡ is_rising s
rising_from by s = rw (run_from by s, rise_from by s) refl

pub length_from : (by : Shift) (s : Segment) → length_of (segment_from by s) ≡ length_of s
length_from by s = rw (run_from by s, rise_from by s) refl
