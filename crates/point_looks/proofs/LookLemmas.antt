-- What the whole numbers next to a point's coordinates say of a segment.
use Rattle.std.proofs.Common.{◌≡◌, inl, inr, ℤ, pos, ◌+ℤ◌, ◌-ℤ◌, ◌*ℤ◌, ◌<ℤ◌, ◌≤ℤ◌, refl, sym, ◌∙◌, subst, arith, true, false, Bool, ◌&&◌}
use Rattle.std.proofs.lemmas.Int.{ints, by_lt_z}
use Rattle.std.proofs.Math.IntN.{*ℤ_comm, zero-*ℤ}
use Rattle.std.specs.Bool.{IsTrue}
use Rattle.std.specs.Prelude.{int_lt, int_le}
use Rattle.std.specs.Cmp.{int_ranks}
use Rattle.std.specs.Ordering.{int_cmp, MatchOrdering}
use Rattle.std.specs.declared.cmp.Ordering.{Ordering}
use Rattle.std.specs.declared.cmp.Ordering.TheVariants.{Less, Equal, Greater}
use Rattle.overlay_terms.specs.Plane.{Point, Segment, height_over, side_of, is_below, is_on}
use Rattle.overlay_terms.proofs.Difference.{split, differences, same, mul_mono, mul_pos}
use Rattle.overlay_terms.proofs.InputNumbers.{lt_true, le_true, true_le, true_lt}
use Rattle.exact_point.proofs.Signs.{negative_times}
use Rattle.exact_point.proofs.Lexical.{NotBack}
use Rattle.exact_point.proofs.OnSegment.{and3_parts, reached}
use Rattle.exact_point.proofs.Tests.{lt_no}
use Rattle.point_looks.specs.Floor.{IsFloor, IsCeil}

-- a whole number above the greatest one that is at most x / w is above x / w
pub past_floor : (n x w a : ℤ) → pos 0 <ℤ w → IsFloor n x w → n <ℤ a → x <ℤ (a *ℤ w)
past_floor n x w a positive h l =
    let most : ((n +ℤ pos 1) *ℤ w) ≤ℤ (a *ℤ w) = mul_mono (n +ℤ pos 1) a w (omega (arith, ints)) (omega (arith, ints)) in
    omega (arith, ints, most, h.high)

pub up_to_floor : (n x w a : ℤ) → pos 0 <ℤ w → IsFloor n x w → a ≤ℤ n → (a *ℤ w) ≤ℤ x
up_to_floor n x w a positive h l =
    let most : (a *ℤ w) ≤ℤ (n *ℤ w) = mul_mono a n w (omega (arith, ints)) l in
    omega (arith, ints, most, h.low)

-- a whole number below the least one that is at least x / w is below x / w
pub before_ceil : (n x w a : ℤ) → pos 0 <ℤ w → IsCeil n x w → a <ℤ n → (a *ℤ w) <ℤ x
before_ceil n x w a positive h l =
    let most : (a *ℤ w) ≤ℤ ((n -ℤ pos 1) *ℤ w) = mul_mono a (n -ℤ pos 1) w (omega (arith, ints)) (omega (arith, ints)) in
    omega (arith, ints, most, h.low)

pub from_ceil : (n x w a : ℤ) → pos 0 <ℤ w → IsCeil n x w → n ≤ℤ a → x ≤ℤ (a *ℤ w)
from_ceil n x w a positive h l =
    let most : (n *ℤ w) ≤ℤ (a *ℤ w) = mul_mono n a w (omega (arith, ints)) l in
    omega (arith, ints, most, h.high)

not_true : (b : Bool) → (IsTrue b → ⊥) → false ≡ b
not_true true h = absurd (h refl)
not_true false h = refl

-- the tests of the code, over what its numbers read as
pub is_less : (a b x y : ℤ) → a ≡ x → b ≡ y → int_lt a b ≡ true → x <ℤ y
is_less a b x y f g e = rw (sym f, sym g) (lt_true a b e)

-- less than a whole number: by the greatest one that is at most x / w
less_by_floor : (n x w a : ℤ) → pos 0 <ℤ w → IsFloor n x w → int_lt n a ≡ int_lt x (a *ℤ w)
less_by_floor n x w a positive h =
    by_lt_z n a
    (λ l. true_lt n a l ∙ sym (true_lt x (a *ℤ w) (past_floor n x w a positive h l)))
    (λ l. lt_no n a l ∙ sym (lt_no x (a *ℤ w) (up_to_floor n x w a positive h l)))

-- three tests joined, where the first holds and the last follows from the second
second_decides : (x y z b : Bool) → x ≡ true → b ≡ y → (y ≡ true → z ≡ true) → b ≡ (x && y && z)
second_decides true true z b e f k = f ∙ sym (k refl)
second_decides true false z b e f k = f
second_decides false y z b e f k = cc

-- the height over a line, from its right end
from_right : (a b c d x y w : ℤ) → (c -ℤ a) *ℤ (y -ℤ b *ℤ w) -ℤ (d -ℤ b) *ℤ (x -ℤ a *ℤ w) ≡ (c -ℤ a) *ℤ (y -ℤ d *ℤ w) -ℤ (b -ℤ d) *ℤ (c *ℤ w -ℤ x)
from_right a b c d x y w = rw (split a, split b, split c, split d, split x, split y, split w) (simp differences (same _ _ _ _ (omega arith)))

not_less : (a b : ℤ) → pos 0 ≤ℤ a → pos 0 ≤ℤ b → pos 0 ≤ℤ (a *ℤ b)
not_less a b h k = let most : (pos 0 *ℤ b) ≤ℤ (a *ℤ b) = mul_mono (pos 0) a b k h in omega (arith, ints, most, zero-*ℤ b)

not_more : (a b : ℤ) → a ≤ℤ pos 0 → pos 0 ≤ℤ b → (a *ℤ b) ≤ℤ pos 0
not_more a b h k = let most : (a *ℤ b) ≤ℤ (pos 0 *ℤ b) = mul_mono a (pos 0) b k h in omega (arith, ints, most, zero-*ℤ b)

less : (a b : ℤ) → pos 0 <ℤ a → b <ℤ pos 0 → (a *ℤ b) <ℤ pos 0
less a b h k = omega (arith, ints, negative_times b a k h, *ℤ_comm a b)

module _ (s : Segment) (p : Point) where
  -- a segment that begins after the point, by x, and one that ends before it
  pub below_behind : p.x <ℤ (s.left.x *ℤ p.w) → false ≡ is_below s p
  below_behind l = not_true (is_below s p) (λ t.
      let parts = and3_parts (int_le (s.left.x *ℤ p.w) p.x) (int_lt p.x (s.right.x *ℤ p.w)) (int_lt (pos 0) (height_over s p)) t in
      omega (arith, ints, l, le_true (s.left.x *ℤ p.w) p.x parts.0))

  pub on_behind : p.x <ℤ (s.left.x *ℤ p.w) → false ≡ is_on s p
  on_behind l = not_true (is_on s p) (λ t. passed (reached s p t).from_left) where
    passed : NotBack (p.x -ℤ s.left.x *ℤ p.w) (p.y -ℤ s.left.y *ℤ p.w) → ⊥
    passed (inl k) = omega (arith, ints)
    passed (inr k) = omega (arith, ints, k.0)

  pub below_before : (s.right.x *ℤ p.w) <ℤ p.x → false ≡ is_below s p
  below_before l = not_true (is_below s p) (λ t.
      let parts = and3_parts (int_le (s.left.x *ℤ p.w) p.x) (int_lt p.x (s.right.x *ℤ p.w)) (int_lt (pos 0) (height_over s p)) t in
      omega (arith, ints, l, lt_true p.x (s.right.x *ℤ p.w) parts.1))

  pub on_before : (s.right.x *ℤ p.w) <ℤ p.x → false ≡ is_on s p
  on_before l = not_true (is_on s p) (λ t. passed (reached s p t).to_right) where
    passed : NotBack (s.right.x *ℤ p.w -ℤ p.x) (s.right.y *ℤ p.w -ℤ p.y) → ⊥
    passed (inl k) = omega (arith, ints)
    passed (inr k) = omega (arith, ints, k.0)

-- from places between them by x, the ends' own order by x
wider : (a b x w : ℤ) → pos 0 <ℤ w → (a *ℤ w) ≤ℤ x → x <ℤ (b *ℤ w) → a <ℤ b
wider a b x w h k l = by_lt_z a b (λ m. m) (λ m. absurd (omega (arith, ints, mul_mono b a w (omega (arith, ints)) m)))

-- a point between the ends by x
module _ (s : Segment) (p : Point) (positive : pos 0 <ℤ p.w) (after : (s.left.x *ℤ p.w) ≤ℤ p.x) (before : p.x ≤ℤ (s.right.x *ℤ p.w)) where
  height_from_right : height_over s p ≡ (s.right.x -ℤ s.left.x) *ℤ (p.y -ℤ s.right.y *ℤ p.w) -ℤ (s.left.y -ℤ s.right.y) *ℤ (s.right.x *ℤ p.w -ℤ p.x)
  height_from_right = from_right s.left.x s.left.y s.right.x s.right.y p.x p.y p.w

  -- below both ends it lies below the line
  under : s.left.x <ℤ s.right.x → p.y <ℤ (s.left.y *ℤ p.w) → p.y <ℤ (s.right.y *ℤ p.w) → height_over s p <ℤ pos 0
  under wide low lower =
      by_lt_z s.right.y s.left.y
      (λ l. let a : ((s.right.x -ℤ s.left.x) *ℤ (p.y -ℤ s.right.y *ℤ p.w)) <ℤ pos 0 = less (s.right.x -ℤ s.left.x) (p.y -ℤ s.right.y *ℤ p.w) (omega (arith, ints)) (omega (arith, ints)) in
      let b : pos 0 ≤ℤ ((s.left.y -ℤ s.right.y) *ℤ (s.right.x *ℤ p.w -ℤ p.x)) = not_less (s.left.y -ℤ s.right.y) (s.right.x *ℤ p.w -ℤ p.x) (omega (arith, ints)) (omega (arith, ints)) in
      omega (arith, ints, a, b, height_from_right))
      (λ l. let a : ((s.right.x -ℤ s.left.x) *ℤ (p.y -ℤ s.left.y *ℤ p.w)) <ℤ pos 0 = less (s.right.x -ℤ s.left.x) (p.y -ℤ s.left.y *ℤ p.w) (omega (arith, ints)) (omega (arith, ints)) in
      let b : pos 0 ≤ℤ ((s.right.y -ℤ s.left.y) *ℤ (p.x -ℤ s.left.x *ℤ p.w)) = not_less (s.right.y -ℤ s.left.y) (p.x -ℤ s.left.x *ℤ p.w) (omega (arith, ints)) (omega (arith, ints)) in
      omega (arith, ints, a, b))

  -- above both ends it lies above the line
  over : s.left.x <ℤ s.right.x → (s.left.y *ℤ p.w) <ℤ p.y → (s.right.y *ℤ p.w) <ℤ p.y → pos 0 <ℤ height_over s p
  over wide high higher =
      by_lt_z s.right.y s.left.y
      (λ l. let a : pos 0 <ℤ ((s.right.x -ℤ s.left.x) *ℤ (p.y -ℤ s.left.y *ℤ p.w)) = mul_pos (s.right.x -ℤ s.left.x) (p.y -ℤ s.left.y *ℤ p.w) (omega (arith, ints)) (omega (arith, ints)) in
      let b : ((s.right.y -ℤ s.left.y) *ℤ (p.x -ℤ s.left.x *ℤ p.w)) ≤ℤ pos 0 = not_more (s.right.y -ℤ s.left.y) (p.x -ℤ s.left.x *ℤ p.w) (omega (arith, ints)) (omega (arith, ints)) in
      omega (arith, ints, a, b))
      (λ l. let a : pos 0 <ℤ ((s.right.x -ℤ s.left.x) *ℤ (p.y -ℤ s.right.y *ℤ p.w)) = mul_pos (s.right.x -ℤ s.left.x) (p.y -ℤ s.right.y *ℤ p.w) (omega (arith, ints)) (omega (arith, ints)) in
      let b : ((s.left.y -ℤ s.right.y) *ℤ (s.right.x *ℤ p.w -ℤ p.x)) ≤ℤ pos 0 = not_more (s.left.y -ℤ s.right.y) (s.right.x *ℤ p.w -ℤ p.x) (omega (arith, ints)) (omega (arith, ints)) in
      omega (arith, ints, a, b, height_from_right))

  -- where the segment holds a point that is neither end's x, its ends differ by x
  wide_left : NotBack (p.x -ℤ s.left.x *ℤ p.w) (p.y -ℤ s.left.y *ℤ p.w) → p.y <ℤ (s.left.y *ℤ p.w) → (s.left.x *ℤ p.w) <ℤ p.x
  wide_left (inl k) low = omega (arith, ints)
  wide_left (inr k) low = omega (arith, ints, k.1)

  wide_right : NotBack (s.right.x *ℤ p.w -ℤ p.x) (s.right.y *ℤ p.w -ℤ p.y) → (s.right.y *ℤ p.w) <ℤ p.y → p.x <ℤ (s.right.x *ℤ p.w)
  wide_right (inl k) high = omega (arith, ints)
  wide_right (inr k) high = omega (arith, ints, k.1)

  wide_between : (s.left.x *ℤ p.w) <ℤ (s.right.x *ℤ p.w) → s.left.x <ℤ s.right.x
  wide_between l = by_lt_z s.left.x s.right.x (λ v. v) (λ v. absurd (omega (arith, ints, mul_mono s.right.x s.left.x p.w (omega (arith, ints)) v)))

  -- what is above both ends is not below the point, and does not hold it
  pub below_lower : p.y <ℤ (s.left.y *ℤ p.w) → p.y <ℤ (s.right.y *ℤ p.w) → false ≡ is_below s p
  below_lower low lower = not_true (is_below s p) (λ t.
      let parts = and3_parts (int_le (s.left.x *ℤ p.w) p.x) (int_lt p.x (s.right.x *ℤ p.w)) (int_lt (pos 0) (height_over s p)) t in
      let wide = wider s.left.x s.right.x p.x p.w positive after (lt_true p.x (s.right.x *ℤ p.w) parts.1) in
      omega (arith, ints, under wide low lower, lt_true (pos 0) (height_over s p) parts.2))

  pub on_lower : p.y <ℤ (s.left.y *ℤ p.w) → p.y <ℤ (s.right.y *ℤ p.w) → false ≡ is_on s p
  on_lower low lower = not_true (is_on s p) (λ t.
      let r = reached s p t in
      let wide = wide_between (omega (arith, ints, wide_left r.from_left low, before)) in
      omega (arith, ints, under wide low lower, r.level))

  -- what is below both ends is below the point where it ends after it, and does not hold it
  pub below_higher : (n : ℤ) → IsFloor n p.x p.w → (s.left.y *ℤ p.w) <ℤ p.y → (s.right.y *ℤ p.w) <ℤ p.y → int_lt n s.right.x ≡ is_below s p
  below_higher n h high higher =
      second_decides (int_le (s.left.x *ℤ p.w) p.x) (int_lt p.x (s.right.x *ℤ p.w)) (int_lt (pos 0) (height_over s p)) (int_lt n s.right.x)
      (true_le (s.left.x *ℤ p.w) p.x after) (less_by_floor n p.x p.w s.right.x positive h)
      (λ t. true_lt (pos 0) (height_over s p) (over (wider s.left.x s.right.x p.x p.w positive after (lt_true p.x (s.right.x *ℤ p.w) t)) high higher))

  pub on_higher : (s.left.y *ℤ p.w) <ℤ p.y → (s.right.y *ℤ p.w) <ℤ p.y → false ≡ is_on s p
  on_higher high higher = not_true (is_on s p) (λ t.
      let r = reached s p t in
      let wide = wide_between (omega (arith, ints, wide_right r.to_right higher, after)) in
      omega (arith, ints, over wide high higher, r.level))

-- a point above the line of a segment that begins before it or over it
pub below_above : (s : Segment) (p : Point) (n : ℤ) → pos 0 <ℤ p.w → IsFloor n p.x p.w → s.left.x ≤ℤ n → side_of s p ≡ Greater → int_lt n s.right.x ≡ is_below s p
below_above s p n positive h from above =
    second_decides (int_le (s.left.x *ℤ p.w) p.x) (int_lt p.x (s.right.x *ℤ p.w)) (int_lt (pos 0) (height_over s p)) (int_lt n s.right.x)
    (true_le (s.left.x *ℤ p.w) p.x (up_to_floor n p.x p.w s.left.x positive h from)) (less_by_floor n p.x p.w s.right.x positive h)
    (λ t. true_lt (pos 0) (height_over s p) (high (int_cmp (height_over s p) (pos 0)) above (int_ranks (height_over s p) (pos 0))))
  where
    high : (o : Ordering) → o ≡ Greater → MatchOrdering o (height_over s p <ℤ pos 0) (height_over s p ≡ pos 0) (pos 0 <ℤ height_over s p) → pos 0 <ℤ height_over s p
    high Less e m = cc
    high Equal e m = cc
    high Greater e m = m

-- the same of what the code's numbers read as
pub floor_reads : (e n a x b w : ℤ) → e ≡ n → a ≡ x → b ≡ w → IsFloor n a b → IsFloor e x w
floor_reads e n a x b w f g h is = rw f (subst (λ z. IsFloor n x z) h (subst (λ z. IsFloor n z b) g is))

pub ceil_reads : (e n a x b w : ℤ) → e ≡ n → a ≡ x → b ≡ w → IsCeil n a b → IsCeil e x w
ceil_reads e n a x b w f g h is = rw f (subst (λ z. IsCeil n x z) h (subst (λ z. IsCeil n z b) g is))

pub reads_less : (a b x y : ℤ) → a ≡ x → b ≡ y → int_lt a b ≡ int_lt x y
reads_less a b x y f g = λ i. int_lt (f i) (g i)

-- the lesser of two numbers, where a third is less than it; the greater one, where it is less than a third
pub both_more : (n m a b : ℤ) → m ≤ℤ a → m ≤ℤ b → n <ℤ m → (n <ℤ a) × (n <ℤ b)
both_more n m a b h k l = (omega (arith, ints), omega (arith, ints))

pub both_less : (n m a b : ℤ) → a ≤ℤ m → b ≤ℤ m → m <ℤ n → (a <ℤ n) × (b <ℤ n)
both_less n m a b h k l = (omega (arith, ints), omega (arith, ints))
