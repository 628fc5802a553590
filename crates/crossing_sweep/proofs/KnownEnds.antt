-- Whole points in a closed strip, and the places on its borders.
use Rattle.std.proofs.Common.{◌≡◌, ℕ, ℤ, pos, ◌+◌, ◌<◌, ◌≤◌, ◌*ℤ◌, ◌<ℤ◌, ◌≤ℤ◌, int_le, ◌&&◌, arith}
use Rattle.std.specs.Prelude.{IsTrue}
use Rattle.std.proofs.lemmas.Int.{ints}
use Rattle.std.proofs.lemmas.Bool.{and_from}
use Rattle.overlay_terms.specs.Plane.{Point, WholePoint, InRange, whole}
use Rattle.overlay_terms.specs.Column.{border, column_count}
use Rattle.overlay_terms.proofs.InputNumbers.{true_le, most_times}
use Rattle.crossing_sweep.specs.StripInput.{Span, is_in_closed_strip}

-- they are in it by their x
pub whole_within : (strip : Span) (v : WholePoint)
    → (int_le (border strip.first) v.x && int_le v.x (border (strip.last + 1))) ≡ is_in_closed_strip strip (whole v)
whole_within strip v =
    (λ i. int_le (once (border strip.first) i) v.x && int_le v.x (once (border (strip.last + 1)) i))
  where
    once : (z : ℤ) → z ≡ z *ℤ pos 1
    once z = omega (arith, ints)

-- so are those on a border of it
pub cut_within : (strip : Span) (k : ℕ) (p : Point) → strip.first ≤ k → k ≤ strip.last + 1 → pos 0 <ℤ p.w → p.x ≡ border k *ℤ p.w → IsTrue (is_in_closed_strip strip p)
cut_within strip k p from to hp over =
    and_from (int_le (border strip.first *ℤ p.w) p.x) (int_le p.x (border (strip.last + 1) *ℤ p.w))
    (true_le (border strip.first *ℤ p.w) p.x (rw over (most_times (border strip.first) (border k) p.w hp (rising strip.first k from))))
    (true_le p.x (border (strip.last + 1) *ℤ p.w) (rw over (most_times (border k) (border (strip.last + 1)) p.w hp (rising k (strip.last + 1) to))))
  where
    rising : (j k : ℕ) → j ≤ k → border j ≤ℤ border k
    rising j k h = omega (arith, ints, h)

-- each border is a coordinate
pub border_known : (k : ℕ) → k < column_count → InRange (border k)
border_known k h = (omega (arith, ints, h), omega (arith, ints, h))
