-- A segment on the line of a stretch that is over one x of it is over all of them.
use Rattle.std.specs.Prelude.{◌≡◌, ℤ, pos, ◌-ℤ◌, ◌*ℤ◌, ◌<ℤ◌, ◌≤ℤ◌, int_lt, Bool, true, false, not, ◌&&◌}
use Rattle.std.specs.Ordering.{int_eq}
use Rattle.std.specs.Cmp.{both_ways}
use Rattle.std.proofs.Common.{refl, ap, sym, ◌∙◌, arith, inl, inr}
use Rattle.std.proofs.lemmas.Int.{ints, by_lt_z}
use Rattle.std.proofs.lemmas.Bool.Decides.{Decides-int_eq}
use Rattle.overlay_terms.specs.Plane.{WholePoint, Point, Segment, whole, height_over}
use Rattle.overlay_terms.proofs.InputNumbers.{true_lt}
use Rattle.exact_point.proofs.Lexical.{Forward}
use Rattle.exact_point.proofs.PlaceOrder.{one_positive}
use Rattle.exact_point.proofs.ByX.{Left, AtMost, left_after, left_before}
use Rattle.exact_point.proofs.Lines.{width, rise, gap, flat_gap, on_second}
use Rattle.exact_point.proofs.OnLine.{left_on_line, right_on_line}
use Rattle.exact_point.specs.Crossing.{turn_of}
use Rattle.tile_laws.proofs.JustRight.{is_over_x, is_level}
use Rattle.tile_laws.proofs.SideMeeting.{Stretch, Apart}
use Rattle.tile_laws.proofs.SideStrip.{is_past, past_true, over_by_past}

-- ---- over tests
-- over both or neither, where on one line
over_level : (o n g h t : Bool) → (t ≡ true → g ≡ h) → (t ≡ true → g ≡ true → o ≡ n) → (o && (g && t)) ≡ (n && (h && t))
over_level o n g h t e f = grind (arith, e, f)

-- past the left end exactly where past the right one is over no x
pub never_over : (p q : Bool) → q ≡ p → (not p && q) ≡ false
never_over true q e = refl
never_over false q e = e

-- over no x, at both places
over_none : (o n g h : Bool) → o ≡ false → n ≡ false → (o && g) ≡ (n && h)
over_none o n g h e f = grind (arith, e, f)

module _ (s t : Segment) (p r u v : Point) (stretch : Stretch s p r) (apart : Apart s t p r) (u_positive : pos 0 <ℤ u.w) (v_positive : pos 0 <ℤ v.w) (begin : AtMost p u) (later : Left u v) (end : Left v r) where
  -- a whole point that does not lie strictly inside is past both places or neither
  past_alike : (e : WholePoint) → (Left p (whole e) → Left (whole e) r → ⊥) → is_past u e ≡ is_past v e
  past_alike e outside =
      both_ways (is_past u e) (is_past v e)
      (λ h. by_lt_z v.x (e.x *ℤ v.w)
      (λ after. is_after v e after)
      (λ most. absurd (outside (left_after p u (whole e) stretch.from_positive u_positive one_positive begin (past_true u e h)) (left_after (whole e) v r one_positive v_positive stretch.to_positive (at_most v.x (e.x *ℤ v.w) most) end))))
      (λ h. is_after u e (drop_one u.x (e.x *ℤ u.w) (left_before u v (whole e) u_positive v_positive one_positive later (most_of (v.x *ℤ pos 1) (e.x *ℤ v.w) (past_true v e h)))))
    where
      is_after : (q : Point) (e : WholePoint) → q.x <ℤ (e.x *ℤ q.w) → is_past q e ≡ true
      is_after q e h = true_lt q.x (e.x *ℤ q.w) h

      at_most : (a b : ℤ) → b ≤ℤ a → b ≤ℤ (a *ℤ pos 1)
      at_most a b h = omega (arith, ints)

      most_of : (a b : ℤ) → a <ℤ b → a ≤ℤ b
      most_of a b h = omega (arith, ints)

      drop_one : (a b : ℤ) → (a *ℤ pos 1) <ℤ b → a <ℤ b
      drop_one a b h = omega (arith, ints)

  -- on one line with the stretch, it is over both places or neither
  cover : pos 0 <ℤ width t → turn_of t s ≡ pos 0 → gap t s u ≡ pos 0 → is_over_x t u ≡ is_over_x t v
  cover wide none zero =
      let left_level : height_over s (whole t.left) ≡ pos 0 = on_second t s (whole t.left) wide (left_on_line t) (flat_gap t s u (whole t.left) u_positive none zero) in
      let right_level : height_over s (whole t.right) ≡ pos 0 = on_second t s (whole t.right) wide (right_on_line t) (flat_gap t s u (whole t.right) u_positive none zero) in
      over_by_past t u
      ∙ ap (λ b. not b && is_past u t.right) (past_alike t.left (λ after before. apart.no_left after before left_level))
      ∙ ap (λ b. not (is_past v t.left) && b) (past_alike t.right (λ after before. apart.no_right after before right_level))
      ∙ sym (over_by_past t v)

  -- over an x and on the line, at one place of the stretch as at the other
  pub level_kept : Forward (width t) (rise t) → (is_over_x t u && is_level t s u) ≡ (is_over_x t v && is_level t s v)
  level_kept (inl wide) =
      over_level (is_over_x t u) (is_over_x t v) (int_eq (gap t s u) (pos 0)) (int_eq (gap t s v) (pos 0)) (int_eq (turn_of t s) (pos 0))
      (λ e. let none : turn_of t s ≡ pos 0 = (Decides-int_eq (turn_of t s) (pos 0)).0 e in
      both_ways (int_eq (gap t s u) (pos 0)) (int_eq (gap t s v) (pos 0))
      (λ h. (Decides-int_eq (gap t s v) (pos 0)).1 (flat_gap t s u v u_positive none ((Decides-int_eq (gap t s u) (pos 0)).0 h)))
      (λ h. (Decides-int_eq (gap t s u) (pos 0)).1 (flat_gap t s v u v_positive none ((Decides-int_eq (gap t s v) (pos 0)).0 h))))
      (λ e h. cover wide ((Decides-int_eq (turn_of t s) (pos 0)).0 e) ((Decides-int_eq (gap t s u) (pos 0)).0 h))
  level_kept (inr upright) =
      over_none (is_over_x t u) (is_over_x t v) (is_level t s u) (is_level t s v) (no_x u) (no_x v)
    where
      level_ends : (l n : ℤ) → n -ℤ l ≡ pos 0 → n ≡ l
      level_ends l n e = omega (arith, ints)

      -- a vertical segment is over no x
      no_x : (q : Point) → is_over_x t q ≡ false
      no_x q =
          over_by_past t q ∙ never_over (is_past q t.left) (is_past q t.right) (ap (λ x. int_lt q.x (x *ℤ q.w)) (level_ends t.left.x t.right.x upright.0))
