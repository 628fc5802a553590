-- Where a vertical line cuts a segment.
use Rattle.std.proofs.Common.{◌≡◌, ℕ, ℤ, pos, ◌+ℤ◌, ◌-ℤ◌, ◌*ℤ◌, ◌<ℤ◌, ◌≤ℤ◌, inl, ap, sym, ◌∙◌, arith}
use Rattle.std.proofs.lemmas.Int.{ints}
use Rattle.std.proofs.lemmas.Bool.{and_from}
use Rattle.std.proofs.lemmas.Bool.Decides.{Decides-int_eq}
use Rattle.std.proofs.Math.IntN.{*ℤ_comm, *ℤ-zero}
use Rattle.std.specs.Bool.{IsTrue}
use Rattle.overlay_terms.specs.Plane.{Point, Segment, height_over, same_place}
use Rattle.overlay_terms.specs.Column.{border}
use Rattle.overlay_terms.proofs.Difference.{split, differences, same}
use Rattle.overlay_terms.proofs.InputNumbers.{last_turned}
use Rattle.exact_point.proofs.Signs.{zero_factor}
use Rattle.exact_point.proofs.OnSegment.{reached, is_reached, part_reached}
use Rattle.exact_point.proofs.OnLine.{level_way}
use Rattle.exact_point.specs.Crossing.{IsPartWay}
use Rattle.exact_point.specs.PointName.{IsCutBy, IsCutOf}

-- over a border, part of the way is the border's x
pub at_border : (l r b : ℤ) → (l *ℤ (r -ℤ l)) +ℤ ((r -ℤ l) *ℤ (b -ℤ l)) ≡ b *ℤ (r -ℤ l)
at_border l r b = rw (split l, split r, split b) (simp differences (same _ _ _ _ (omega arith)))

-- two points of a line that is not vertical, over one x, are one place
pub one_over_x : (s : Segment) (z p : Point) → s.left.x <ℤ s.right.x → height_over s z ≡ pos 0 → height_over s p ≡ pos 0 → z.x *ℤ p.w ≡ p.x *ℤ z.w → IsTrue (same_place z p)
one_over_x s z p wide h k ex =
    let a : ℤ = s.right.x -ℤ s.left.x in
    let b : ℤ = s.right.y -ℤ s.left.y in
    let apart : (z.x *ℤ p.w) -ℤ (p.x *ℤ z.w) ≡ pos 0 = omega (arith, ints) in
    let right : pos 0 <ℤ a = omega (arith, ints) in
    let level : a *ℤ ((z.y *ℤ p.w) -ℤ (p.y *ℤ z.w)) ≡ pos 0 = omega (arith, ints, level_way s p z k h, ap (λ n. b *ℤ n) apart, *ℤ-zero b) in
    let same_y = zero_factor ((z.y *ℤ p.w) -ℤ (p.y *ℤ z.w)) a right (*ℤ_comm ((z.y *ℤ p.w) -ℤ (p.y *ℤ z.w)) a ∙ level) in
    let ey : z.y *ℤ p.w ≡ p.y *ℤ z.w = omega (arith, ints, same_y) in
    and_from _ _ ((Decides-int_eq (z.x *ℤ p.w) (p.x *ℤ z.w)).1 ex) ((Decides-int_eq (z.y *ℤ p.w) (p.y *ℤ z.w)).1 ey)

-- as far along the segment as its border lies from the left end
pub cut_at : (s : Segment) (k : ℕ) (t w : ℤ) (p : Point) → t ≡ border k -ℤ s.left.x → w ≡ s.right.x -ℤ s.left.x → IsCutBy s k → IsPartWay s t w p → IsCutOf s k p
cut_at s k t w p et ew cut part =
    let ahead : pos 0 <ℤ (s.right.x -ℤ s.left.x) = omega (arith, ints, cut.after_left, cut.before_right) in
    let low : pos 0 ≤ℤ t = omega (arith, ints, cut.after_left) in
    let high : t ≤ℤ w = omega (arith, ints, cut.before_right) in
    record {
      cut = cut;
      on_segment = is_reached s p (part_reached s t w p (inl ahead) low high part);
      on_border =
          part.across ∙ ap (λ z. (s.left.x *ℤ z) +ℤ ((s.right.x -ℤ s.left.x) *ℤ t)) ew
          ∙ ap (λ z. (s.left.x *ℤ (s.right.x -ℤ s.left.x)) +ℤ ((s.right.x -ℤ s.left.x) *ℤ z)) et
          ∙ at_border s.left.x s.right.x (border k) ∙ ap (λ z. border k *ℤ z) (sym (part.over ∙ ew));
    }

pub one_cut : (s : Segment) (k : ℕ) (z p : Point) → IsCutOf s k z → IsCutOf s k p → IsTrue (same_place z p)
one_cut s k z p h g =
    let wide : s.left.x <ℤ s.right.x = omega (arith, ints, h.cut.after_left, h.cut.before_right) in
    one_over_x s z p wide (reached s z h.on_segment).level (reached s p g.on_segment).level
    (ap (λ n. n *ℤ p.w) h.on_border ∙ last_turned (border k) z.w p.w ∙ ap (λ n. n *ℤ z.w) (sym g.on_border))
