-- Segments in the order of their lines: by direction, the vertical ones last, then from the lowest line to the highest.
use Rattle.std.specs.Prelude.{◌≡◌, ℤ, pos, ◌-ℤ◌, ◌*ℤ◌, ◌<ℤ◌, Bool, refl}
use Rattle.std.proofs.Common.{inl, inr, arith, ap, sym, ◌∙◌, subst}
use Rattle.std.proofs.lemmas.Int.{ints}
use Rattle.std.proofs.Math.IntN.{*ℤ_comm, zero-*ℤ}
use Rattle.std.specs.Cmp.{IsTotalOrder, IsEquivalence, IsPartialEquivalence, IsPartialOrder}
use Rattle.std.specs.Cmp.{eq_by_cmp_equiv, partial_equiv_from_equiv}
use Rattle.std.specs.Cmp.{partial_order_from_agreeing_total, int_ranks, int_ranked, int_cmp_is}
use Rattle.std.specs.Ordering.{eq_by_cmp, as_partial_cmp, int_cmp, ordering_then, MatchOrdering}
use Rattle.std.specs.declared.cmp.Ordering.{Ordering}
use Rattle.std.specs.declared.cmp.Ordering.TheVariants.{Less, Equal, Greater}
use Rattle.std.proofs.lemmas.Cmp.{on_total, then_total}
use Rattle.overlay_terms.specs.Plane.{Segment, whole, height_over}
use Rattle.overlay_terms.proofs.Difference.{split, whole_is, differences, same, mul_pos}
use Rattle.overlay_terms.proofs.Ratios.{Ratio, ratio_cmp, ratio_cmp_total, int_cmp-scaled}
use Rattle.exact_point.specs.Crossing.{turn_of}
use Rattle.exact_point.proofs.Lexical.{Forward}
use Rattle.exact_point.proofs.OnSegment.{leads}
use Rattle.overlay_terms.specs.Layers as terms
use Rattle.arrange.specs.Marked.{marked_of}
use Rattle.arrange.specs.Directions.{Step, step_cmp, step_cmp_total}
use Rattle.arrange.specs.declared.line_seg.LineSeg.{LineSeg}

-- the segment with its layer
abbrev pub line_marked : LineSeg → terms.Marked
line_marked a = marked_of a.marked

-- by direction, then by line: Less where the left end of the second lies above the line of the first
abbrev pub line_order : Segment → Segment → Ordering
line_order s t = ordering_then (int_cmp (pos 0) (turn_of s t)) (int_cmp (pos 0) (height_over s (whole t.left)))

abbrev pub line_cmp : LineSeg → LineSeg → Ordering
line_cmp a b = line_order a.marked.seg b.marked.seg

step_of : LineSeg → Step
step_of a = record {
  across = a.marked.seg.right.x -ℤ a.marked.seg.left.x;
  up = a.marked.seg.right.y -ℤ a.marked.seg.left.y;
  forward = leads a.marked.seg a.proper.first;
}

-- how high a slanted line passes over x = 0, and how far left a vertical one is
offset_by : (l m a b : ℤ) → Forward a b → Ratio
offset_by l m a b (inl h) = record { n = (a *ℤ m) -ℤ (b *ℤ l); d = a; positive = h }
offset_by l m a b (inr h) = record { n = pos 0 -ℤ l; d = pos 1; positive = omega (arith, ints) }

offset_of : LineSeg → Ratio
offset_of a = offset_by a.marked.seg.left.x a.marked.seg.left.y
    (a.marked.seg.right.x -ℤ a.marked.seg.left.x) (a.marked.seg.right.y -ℤ a.marked.seg.left.y)
    (leads a.marked.seg a.proper.first)

offset_cmp : LineSeg → LineSeg → Ordering
offset_cmp a b = ordering_then (step_cmp (step_of a) (step_of b)) (ratio_cmp (offset_of a) (offset_of b))

offset_total : IsTotalOrder offset_cmp
unfolding offset_cmp
offset_total = then_total (on_total step_of step_cmp_total) (on_total offset_of ratio_cmp_total)

-- ---- both orders agree
-- a height over a line, for one in its direction, by the heights of both over x = 0
height_turned : (a b l m c d x y : ℤ)
    → c *ℤ ((a *ℤ (y -ℤ (m *ℤ pos 1))) -ℤ (b *ℤ (x -ℤ (l *ℤ pos 1))))
    ≡ ((((c *ℤ y) -ℤ (d *ℤ x)) *ℤ a) -ℤ (((a *ℤ m) -ℤ (b *ℤ l)) *ℤ c)) -ℤ (((c *ℤ b) -ℤ (d *ℤ a)) *ℤ x)
height_turned a b l m c d x y =
    rw (split a, split b, split l, split m, split c, split d, split x, split y)
    (simp differences (same _ _ _ _ (omega arith)))

-- a difference is at least 0 as its first number is at least the second
shifted : (u v z : ℤ) → z ≡ u -ℤ v → (o : Ordering) → MatchOrdering o (v <ℤ u) (v ≡ u) (u <ℤ v)
    → MatchOrdering o (pos 0 <ℤ z) (pos 0 ≡ z) (z <ℤ (pos 0))
shifted u v z e Less h = omega (arith, ints)
shifted u v z e Equal h = omega (arith, ints)
shifted u v z e Greater h = omega (arith, ints)

difference_cmp : (u v : ℤ) → int_cmp (pos 0) (u -ℤ v) ≡ int_cmp v u
difference_cmp u v = sym (int_cmp_is (pos 0) (u -ℤ v) (int_cmp v u)
    (shifted u v (u -ℤ v) refl (int_cmp v u) (int_ranks v u)))

-- a number against 0, and its positive multiple
zero_cmp : (c z : ℤ) → pos 0 <ℤ c → int_cmp (pos 0) z ≡ int_cmp (pos 0) (c *ℤ z)
zero_cmp c z h = int_cmp-scaled c (pos 0) z h ∙ ap (λ w. int_cmp w (c *ℤ z)) (*ℤ_comm c (pos 0) ∙ zero-*ℤ c)

flat_less : (u z : ℤ) → z ≡ pos 0 → u -ℤ z ≡ u
flat_less u z e = omega (arith, ints, e)

no_turn_times : (c b d a x : ℤ) → pos 0 ≡ (a *ℤ d) -ℤ (b *ℤ c) → (((c *ℤ b) -ℤ (d *ℤ a)) *ℤ x) ≡ pos 0
no_turn_times c b d a x e =
    ap (λ z. z *ℤ x) (none (c *ℤ b) (d *ℤ a) (a *ℤ d) (b *ℤ c) (*ℤ_comm c b) (*ℤ_comm d a) e) ∙ zero-*ℤ x
  where
    none : (p q r s : ℤ) → p ≡ s → q ≡ r → pos 0 ≡ r -ℤ s → p -ℤ q ≡ pos 0
    none p q r s e f g = omega (arith, ints, e, f, g)

module _ (l m a b x y c d : ℤ) (none : pos 0 ≡ (a *ℤ d) -ℤ (b *ℤ c)) where
  abbrev rise_to : ℤ
  rise_to = (a *ℤ (y -ℤ (m *ℤ pos 1))) -ℤ (b *ℤ (x -ℤ (l *ℤ pos 1)))

  by_offsets : (f : Forward a b) (g : Forward c d)
      → int_cmp (pos 0) rise_to ≡ ratio_cmp (offset_by l m a b f) (offset_by x y c d g)
  unfolding offset_by
  by_offsets (inl h) (inl k) =
      zero_cmp c rise_to k
      ∙ ap (λ z. int_cmp (pos 0) z)
      (height_turned a b l m c d x y
      ∙ flat_less ((((c *ℤ y) -ℤ (d *ℤ x)) *ℤ a) -ℤ (((a *ℤ m) -ℤ (b *ℤ l)) *ℤ c)) (((c *ℤ b) -ℤ (d *ℤ a)) *ℤ x)
      (no_turn_times c b d a x none))
      ∙ difference_cmp (((c *ℤ y) -ℤ (d *ℤ x)) *ℤ a) (((a *ℤ m) -ℤ (b *ℤ l)) *ℤ c)
  by_offsets (inl h) (inr k) =
      absurd (left_turn (a *ℤ d) (b *ℤ c) (mul_pos a d h k.1)
      (ap (λ z. b *ℤ z) k.0 ∙ *ℤ_comm b (pos 0) ∙ zero-*ℤ b) none)
    where
      left_turn : (p q : ℤ) → pos 0 <ℤ p → q ≡ pos 0 → pos 0 ≡ p -ℤ q → ⊥
      left_turn p q h e f = omega (arith, ints)
  by_offsets (inr h) (inl k) =
      absurd (right_turn (a *ℤ d) (b *ℤ c) (ap (λ z. z *ℤ d) h.0 ∙ zero-*ℤ d) (mul_pos b c h.1 k) none)
    where
      right_turn : (p q : ℤ) → p ≡ pos 0 → pos 0 <ℤ q → pos 0 ≡ p -ℤ q → ⊥
      right_turn p q e h f = omega (arith, ints)
  by_offsets (inr h) (inr k) =
      ap (λ z. int_cmp (pos 0) z)
      (upright (a *ℤ (y -ℤ (m *ℤ pos 1))) (ap (λ z. z *ℤ (y -ℤ (m *ℤ pos 1))) h.0 ∙ zero-*ℤ (y -ℤ (m *ℤ pos 1))))
      ∙ sym (zero_cmp b ((pos 0 -ℤ x) -ℤ (pos 0 -ℤ l)) h.1)
      ∙ difference_cmp (pos 0 -ℤ x) (pos 0 -ℤ l)
      ∙ once (pos 0 -ℤ l) (pos 0 -ℤ x)
    where
      back : (b x l : ℤ) → pos 0 -ℤ (b *ℤ (x -ℤ (l *ℤ pos 1))) ≡ b *ℤ ((pos 0 -ℤ x) -ℤ (pos 0 -ℤ l))
      back b x l = rw (split b, split x, split l, whole_is 0, whole_is 1)
          (simp differences (same _ _ _ _ (omega arith)))

      upright : (w : ℤ) → w ≡ pos 0 → w -ℤ (b *ℤ (x -ℤ (l *ℤ pos 1))) ≡ b *ℤ ((pos 0 -ℤ x) -ℤ (pos 0 -ℤ l))
      upright w e = ap (λ z. z -ℤ (b *ℤ (x -ℤ (l *ℤ pos 1)))) e ∙ back b x l

      single : (z : ℤ) → z ≡ z *ℤ pos 1
      single z = omega (arith, ints)

      once : (u v : ℤ) → int_cmp u v ≡ int_cmp (u *ℤ pos 1) (v *ℤ pos 1)
      once u v = ap (λ z. int_cmp z v) (single u) ∙ ap (λ z. int_cmp (u *ℤ pos 1) z) (single v)

agree : (l m a b x y c d : ℤ) (f : Forward a b) (g : Forward c d) (o : Ordering)
    → int_cmp (pos 0) ((a *ℤ d) -ℤ (b *ℤ c)) ≡ o
    → ordering_then o (int_cmp (pos 0) ((a *ℤ (y -ℤ (m *ℤ pos 1))) -ℤ (b *ℤ (x -ℤ (l *ℤ pos 1)))))
    ≡ ordering_then o (ratio_cmp (offset_by l m a b f) (offset_by x y c d g))
agree l m a b x y c d f g Less e = refl
agree l m a b x y c d f g Equal e =
    by_offsets l m a b x y c d (int_ranked (pos 0) ((a *ℤ d) -ℤ (b *ℤ c)) Equal (sym e)) f g
agree l m a b x y c d f g Greater e = refl

line_agree : (a b : LineSeg) → line_cmp a b ≡ offset_cmp a b
unfolding offset_cmp step_of offset_of
line_agree a b =
    let s = a.marked.seg in
    let t = b.marked.seg in
    agree s.left.x s.left.y (s.right.x -ℤ s.left.x) (s.right.y -ℤ s.left.y)
    t.left.x t.left.y (t.right.x -ℤ t.left.x) (t.right.y -ℤ t.left.y)
    (leads s a.proper.first) (leads t b.proper.first) (int_cmp (pos 0) (turn_of s t)) refl

same_order : offset_cmp ≡ line_cmp
same_order = λ i a b. sym (line_agree a b) i

-- the order is total
pub line_total : IsTotalOrder line_cmp
line_total = subst IsTotalOrder same_order offset_total

-- the same line
abbrev pub same_line : LineSeg → LineSeg → Bool
same_line = eq_by_cmp line_cmp

pub same_line_equiv : IsEquivalence same_line
same_line_equiv = eq_by_cmp_equiv line_total

pub same_line_laws : IsPartialEquivalence same_line
same_line_laws = partial_equiv_from_equiv same_line_equiv

pub line_po : IsPartialOrder same_line (as_partial_cmp line_cmp)
line_po = partial_order_from_agreeing_total line_cmp line_total (λ p q. refl) (λ p q. refl)
