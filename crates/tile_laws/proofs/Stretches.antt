-- Two points of a segment with an x between theirs: what the stretch between them says of the segment there.
use Rattle.std.specs.Prelude.{◌≡◌, ℤ, pos, ◌-ℤ◌, ◌*ℤ◌, ◌<ℤ◌, ◌≤ℤ◌, int_le, int_lt, true}
use Rattle.std.proofs.Common.{ap, sym, ◌∙◌, arith}
use Rattle.std.proofs.lemmas.Int.{ints}
use Rattle.std.proofs.lemmas.Bool.{and_parts, and_from}
use Rattle.overlay_terms.specs.Plane.{Point, Segment, height_over, is_on}
use Rattle.overlay_terms.proofs.Difference.{split, whole_is, differences, same, mul_pos}
use Rattle.overlay_terms.proofs.InputNumbers.{turned, last_turned, less_times, most_times, less_back, le_true, lt_true, true_le, true_lt, IsWithinEnds, between_from_on, least_through}
use Rattle.exact_point.specs.Crossing.{turn_of}
use Rattle.exact_point.proofs.Signs.{one_sign}
use Rattle.exact_point.proofs.OnLine.{level_way, way_up}
use Rattle.exact_point.proofs.Lines.{width, rise, gap, gap_at, flat_gap, no_turn_from_gaps}
use Rattle.tile_laws.proofs.JustRight.{is_over_x, is_level, is_stretch_over}
use Rattle.tile_laws.proofs.UnderLemmas.{level_test}

-- a stretch over the x of a place
pub record IsStretch (p r q : Point) : Type 0 where
  pub from_positive : pos 0 <ℤ p.w
  pub to_positive : pos 0 <ℤ r.w
  pub positive : pos 0 <ℤ q.w
  pub from_left : (p.x *ℤ q.w) ≤ℤ (q.x *ℤ p.w)
  pub before_right : (q.x *ℤ r.w) <ℤ (r.x *ℤ q.w)

-- what the test says
pub stretch_told : (p r q : Point) → pos 0 <ℤ p.w → pos 0 <ℤ r.w → pos 0 <ℤ q.w → is_stretch_over (p, r) q ≡ true → IsStretch p r q
stretch_told p r q hp hr hq h =
    let parts = and_parts (int_le (p.x *ℤ q.w) (q.x *ℤ p.w)) (int_lt (q.x *ℤ r.w) (r.x *ℤ q.w)) h in
    record { from_positive = hp; to_positive = hr; positive = hq; from_left = le_true _ _ parts.0; before_right = lt_true _ _ parts.1 }

-- it has a width
pub stretch_wide : (p r q : Point) → IsStretch p r q → pos 0 <ℤ ((r.x *ℤ p.w) -ℤ (p.x *ℤ r.w))
stretch_wide p r q h =
    let low : ((p.x *ℤ q.w) *ℤ r.w) ≤ℤ ((q.x *ℤ p.w) *ℤ r.w) = most_times (p.x *ℤ q.w) (q.x *ℤ p.w) r.w h.to_positive h.from_left in
    let high : ((q.x *ℤ r.w) *ℤ p.w) <ℤ ((r.x *ℤ q.w) *ℤ p.w) = less_times (q.x *ℤ r.w) (r.x *ℤ q.w) p.w h.from_positive h.before_right in
    let one : (p.x *ℤ q.w) *ℤ r.w ≡ (p.x *ℤ r.w) *ℤ q.w = last_turned p.x q.w r.w in
    let two : (q.x *ℤ p.w) *ℤ r.w ≡ (q.x *ℤ r.w) *ℤ p.w = last_turned q.x p.w r.w in
    let three : (r.x *ℤ q.w) *ℤ p.w ≡ (r.x *ℤ p.w) *ℤ q.w = last_turned r.x q.w p.w in
    let less : (p.x *ℤ r.w) <ℤ (r.x *ℤ p.w) = less_back (p.x *ℤ r.w) (r.x *ℤ p.w) q.w h.positive (omega (arith, ints)) in
    omega (arith, ints)

-- a segment with both ends of the stretch passes over the x
pub stretch_over : (s : Segment) (p r q : Point) → IsStretch p r q → is_on s p ≡ true → is_on s r ≡ true → is_over_x s q ≡ true
stretch_over s p r q h on_p on_r =
    let at_p : IsWithinEnds s p = between_from_on s p on_p in
    let at_r : IsWithinEnds s r = between_from_on s r on_r in
    let left : (s.left.x *ℤ q.w) ≤ℤ q.x = least_through p q s.left.x h.from_positive h.positive h.from_left at_p.from_left in
    let far : (r.x *ℤ q.w) ≤ℤ ((s.right.x *ℤ r.w) *ℤ q.w) = most_times r.x (s.right.x *ℤ r.w) q.w h.positive at_r.to_right in
    let turned : (s.right.x *ℤ r.w) *ℤ q.w ≡ (s.right.x *ℤ q.w) *ℤ r.w = last_turned s.right.x r.w q.w in
    let near : (q.x *ℤ r.w) <ℤ (r.x *ℤ q.w) = h.before_right in
    let right : q.x <ℤ (s.right.x *ℤ q.w) = less_back q.x (s.right.x *ℤ q.w) r.w h.to_positive (omega (arith, ints)) in
    and_from _ _ (true_le (s.left.x *ℤ q.w) q.x left) (true_lt q.x (s.right.x *ℤ q.w) right)

-- two segments through both ends of a stretch are on one line
pub stretch_level : (s t : Segment) (p r q : Point) → IsStretch p r q → height_over s p ≡ pos 0 → height_over s r ≡ pos 0 → height_over t p ≡ pos 0 → height_over t r ≡ pos 0 → is_level s t q ≡ true
stretch_level s t p r q h sp sr tp tr =
    let at_p : gap s t p ≡ pos 0 = gap_at s t p sp tp in
    let at_r : gap s t r ≡ pos 0 = gap_at s t r sr tr in
    let level : turn_of s t ≡ pos 0 = no_turn_from_gaps s t p r (stretch_wide p r q h) at_p at_r in
    level_test q h.positive s t (flat_gap s t p q h.from_positive level at_p) level

-- ---- a point over a stretch is over its line
-- the cross product of (u, v) and (x, y), by the direction (a, b) that (u, v) has
cross_by : (a b u v x y : ℤ) → a *ℤ ((u *ℤ y) -ℤ (v *ℤ x)) ≡ (u *ℤ ((a *ℤ y) -ℤ (b *ℤ x))) -ℤ (((a *ℤ v) -ℤ (b *ℤ u)) *ℤ x)
cross_by a b u v x y = rw (split a, split b, split u, split v, split x, split y) (simp differences (same _ _ _ _ (omega arith)))

-- a difference from none
grouped : (u w h x : ℤ) → (u *ℤ (w *ℤ h)) -ℤ (pos 0 *ℤ x) ≡ h *ℤ (u *ℤ w)
grouped u w h x = rw (split u, split w, split h, split x, whole_is 0) (simp differences (same _ _ _ _ (omega arith)))

-- how far a point is above a stretch
abbrev pub pair_over : Point → Point → Point → ℤ
pair_over p r q = (((r.x *ℤ p.w) -ℤ (p.x *ℤ r.w)) *ℤ ((q.y *ℤ p.w) -ℤ (p.y *ℤ q.w))) -ℤ (((r.y *ℤ p.w) -ℤ (p.y *ℤ r.w)) *ℤ ((q.x *ℤ p.w) -ℤ (p.x *ℤ q.w)))

-- a point is above a stretch where it is above its line
pub above_alike : (s : Segment) (p r q : Point) → IsStretch p r q → pos 0 <ℤ width s → height_over s p ≡ pos 0 → height_over s r ≡ pos 0 → int_lt (pos 0) (pair_over p r q) ≡ int_lt (pos 0) (height_over s q)
above_alike s p r q h wide on_p on_r =
    let u : ℤ = (r.x *ℤ p.w) -ℤ (p.x *ℤ r.w) in
    let v : ℤ = (r.y *ℤ p.w) -ℤ (p.y *ℤ r.w) in
    let x : ℤ = (q.x *ℤ p.w) -ℤ (p.x *ℤ q.w) in
    let y : ℤ = (q.y *ℤ p.w) -ℤ (p.y *ℤ q.w) in
    let form : width s *ℤ pair_over p r q ≡ height_over s q *ℤ (u *ℤ p.w) =
    cross_by (width s) (rise s) u v x y
    ∙ ap (λ n. (u *ℤ n) -ℤ (((width s *ℤ v) -ℤ (rise s *ℤ u)) *ℤ x)) (way_up s p q on_p)
    ∙ ap (λ n. (u *ℤ (p.w *ℤ height_over s q)) -ℤ (n *ℤ x)) (level_way s p r on_p on_r)
    ∙ grouped u p.w (height_over s q) x in
    sym (one_sign (height_over s q) (pair_over p r q) (width s) (u *ℤ p.w) wide (mul_pos u p.w (stretch_wide p r q h) h.from_positive) (turned (pair_over p r q) (width s) ∙ form))
