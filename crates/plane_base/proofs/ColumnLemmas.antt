-- The column of a place, from how many widths lie left of it.
use Rattle.std.proofs.Common.{◌≡◌, ℕ, ℤ, pos, ◌+◌, ◌*◌, ◌<◌, ◌≤◌, ◌+ℤ◌, ◌-ℤ◌, ◌*ℤ◌, ap, ◌∙◌, arith}
use Rattle.std.proofs.lemmas.Int.{ints}
use Rattle.overlay_terms.proofs.Difference.{diff_of, split, differences, same}
use Rattle.overlay_terms.specs.Column.{border, column_width, IsInColumn}
use Rattle.overlay_terms.specs.Plane.{coordinate_max}

border_times : (k : ℕ) (w : ℤ) → border k *ℤ w ≡ (pos k *ℤ (w *ℤ pos column_width)) -ℤ (w *ℤ pos coordinate_max)
border_times k w =
    ap (λ z. z *ℤ w) (diff_of (k * column_width) coordinate_max) ∙ rw (split w) (simp differences (same _ _ _ _ (omega arith)))

pub in_column : (k : ℕ) (x w : ℤ) (f v : ℕ) → k * v ≤ f → f < (k + 1) * v → pos f ≡ x +ℤ (w *ℤ pos coordinate_max) → pos v ≡ w *ℤ pos column_width → IsInColumn k x w
in_column k x w f v low high ef ev =
    (rw (border_times k w, ← ev) (omega (arith, ints)), rw (border_times (k + 1) w, ← ev) (omega (arith, ints)))
