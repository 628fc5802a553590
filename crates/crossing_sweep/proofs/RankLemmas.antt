-- A place with a lower rank comes first.
use Rattle.std.proofs.Common.{◌≡◌, ℕ, ℤ, pos, neg_ℤ, inl, inr, ◌⊎◌, ◌+◌, ◌*◌, ◌/◌, ◌<◌, ◌≤◌, ◌+ℤ◌, ◌-ℤ◌, ◌*ℤ◌, ◌≤ℤ◌, ◌<ℤ◌, int_le, unsigned_abs, to_z, of_z, ap, sym, subst, ◌∙◌, arith}
use Rattle.std.specs.Prelude.{int_lt}
use Rattle.std.specs.Int.{w64}
use Rattle.std.specs.Cmp.{int_ranks}
use Rattle.std.specs.Ordering.{int_cmp, MatchOrdering, ordering_reverse}
use Rattle.std.specs.declared.cmp.Ordering.{Ordering}
use Rattle.std.specs.declared.cmp.Ordering.TheVariants.{Less, Equal, Greater}
use Rattle.std.proofs.lemmas.Int.{ints, by_lt_z}
use Rattle.std.proofs.Math.IntN.{pos-*ℤ-pos}
use Rattle.std.proofs.Math.Nat.{div-mul-le_self, lt-div-mul-add, div-le_of_le-mul}
use Rattle.overlay_terms.specs.Plane.{InRange, Point, point_cmp}
use Rattle.overlay_terms.proofs.Difference.{split, differences, same, mul_pos}
use Rattle.overlay_terms.proofs.InputNumbers.{less_times, most_times, in_order_by_x, last_turned, le_true, true_le, lt_true, true_lt}
use Rattle.overlay_terms.proofs.Tests.{same_tests}
use Rattle.overlay_terms.proofs.Whole.{last_out}
use Rattle.tile_laws.proofs.UprightSides.{below_less}
use Rattle.exact_point.proofs.PlaceOrder.{turned}
use Rattle.crossing_sweep.specs.Rank.{IsFloor, IsInRow, IsBetween, IsRank}

-- a fraction with a lower whole part is lower
floors_tell : (a b x w y v : ℤ) → pos 0 <ℤ w → pos 0 <ℤ v → a <ℤ b → x <ℤ ((a *ℤ w) +ℤ w) → (b *ℤ v) ≤ℤ y → (x *ℤ v) <ℤ (y *ℤ w)
floors_tell a b x w y v hw hv less high low =
    let first : (x *ℤ v) <ℤ (((a *ℤ w) +ℤ w) *ℤ v) = less_times x ((a *ℤ w) +ℤ w) v hv high in
    let last : ((b *ℤ v) *ℤ w) ≤ℤ (y *ℤ w) = most_times (b *ℤ v) y w hw low in
    let step : ((a +ℤ pos 1) *ℤ (w *ℤ v)) ≤ℤ (b *ℤ (w *ℤ v)) = most_times (a +ℤ pos 1) b (w *ℤ v) (mul_pos w v hw hv) (omega (arith, ints, less)) in
    let one : ((a *ℤ w) +ℤ w) *ℤ v ≡ (a +ℤ pos 1) *ℤ (w *ℤ v) = next a w v in
    let two : b *ℤ (w *ℤ v) ≡ (b *ℤ v) *ℤ w = last_out b w v in
    omega (arith, ints, first, last, step, one, two)
  where
    next : (a w v : ℤ) → ((a *ℤ w) +ℤ w) *ℤ v ≡ (a +ℤ pos 1) *ℤ (w *ℤ v)
    next a w v = rw (split a, split w, split v) (simp differences (same _ _ _ _ (omega arith)))

module _ (p q : Point) (hp : pos 0 <ℤ p.w) (hq : pos 0 <ℤ q.w) where
  swap : (a : ℤ) → (a *ℤ p.w) *ℤ q.w ≡ (a *ℤ q.w) *ℤ p.w
  swap a = last_turned a p.w q.w

  -- over one whole x the rows give the order; a place beyond the rows comes after them
  over_one_x : (across r s : ℤ) → r <ℤ s → IsInRow across r p ⊎ IsBetween across r p → IsInRow across s q ⊎ IsBetween across s q → point_cmp p q ≡ Less
  over_one_x across r s less (inl i) (inl j) =
      below_less p q (ap (λ x. x *ℤ q.w) (sym i.upright) ∙ swap across ∙ ap (λ x. x *ℤ p.w) j.upright) (floors_tell r s p.y p.w q.y q.w hp hq less i.floor.high j.floor.low)
  over_one_x across r s less (inl i) (inr j) =
      let more : ((across *ℤ q.w) *ℤ p.w) <ℤ (q.x *ℤ p.w) = less_times (across *ℤ q.w) q.x p.w hp j.after in
      let here : p.x *ℤ q.w ≡ (across *ℤ q.w) *ℤ p.w = ap (λ x. x *ℤ q.w) (sym i.upright) ∙ swap across in
      in_order_by_x p q (omega (arith, ints, more, here))
  over_one_x across r s less (inr i) (inl j) = absurd (omega (arith, ints, less, i.last, j.small.1))
  over_one_x across r s less (inr i) (inr j) = absurd (omega (arith, ints, less, i.last, j.last))

-- the rows over one whole x are fewer than the numbers between two of them
record IsRowNumber (r : ℤ) : Type 0 where
  low : neg_ℤ (pos 1048576) ≤ℤ r
  high : r ≤ℤ pos 2097152

row_number : (across r : ℤ) (p : Point) → IsInRow across r p ⊎ IsBetween across r p → IsRowNumber r
row_number across r p (inl i) = record { low = i.small.0; high = omega (arith, ints, i.small.1) }
row_number across r p (inr i) = record { low = omega (arith, ints, i.last); high = omega (arith, ints, i.last) }

-- so a place with a lower rank comes first
pub rank_tells : (a b : ℤ) (p q : Point) → pos 0 <ℤ p.w → pos 0 <ℤ q.w → IsRank a p → IsRank b q → a <ℤ b → point_cmp p q ≡ Less
rank_tells a b p q hp hq i j less =
    by_lt_z i.across j.across (λ l. in_order_by_x p q (floors_tell i.across j.across p.x p.w q.x q.w hp hq l i.floor.high j.floor.low))
    (λ m. by_lt_z j.across i.across (λ l. absurd (back i.across j.across i.row j.row l ri rj i.is j.is)) (λ k. level m k))
  where
    ri : IsRowNumber i.row
    ri = row_number i.across i.row p i.place

    rj : IsRowNumber j.row
    rj = row_number j.across j.row q j.place

    back : (x y r s : ℤ) → y <ℤ x → IsRowNumber r → IsRowNumber s → a ≡ (pos 4194304 *ℤ x) +ℤ r → b ≡ (pos 4194304 *ℤ y) +ℤ s → ⊥
    back x y r s l i j e f = omega (arith, ints, l, i.low, i.high, j.low, j.high, e, f, less)

    rows : (x y r s : ℤ) → y ≡ x → a ≡ (pos 4194304 *ℤ x) +ℤ r → b ≡ (pos 4194304 *ℤ y) +ℤ s → r <ℤ s
    rows x y r s e f g = omega (arith, ints, e, f, g, less)

    level : j.across ≤ℤ i.across → i.across ≤ℤ j.across → point_cmp p q ≡ Less
    level m k =
        let e : j.across ≡ i.across = omega (arith, ints, m, k) in
        over_one_x p q hp hq i.across i.row j.row (rows i.across j.across i.row j.row e i.is j.is) i.place (subst (λ x. IsInRow x j.row q ⊎ IsBetween x j.row q) e j.place)

-- the order of two places by their ranks, and where these are one by the places
pub by_ranks : (a b : ℤ) (p q : Point) → pos 0 <ℤ p.w → pos 0 <ℤ q.w → IsRank a p → IsRank b q → (a ≡ b → ⊥) → int_cmp a b ≡ point_cmp p q
by_ranks a b p q hp hq i j differ = by (int_cmp a b) (int_ranks a b)
  where
    by : (o : Ordering) → MatchOrdering o (a <ℤ b) (a ≡ b) (b <ℤ a) → o ≡ point_cmp p q
    by Less l = sym (rank_tells a b p q hp hq i j l)
    by Equal e = absurd (differ e)
    by Greater l = sym (turned q p hq hp ∙ ap ordering_reverse (rank_tells b a q p hq hp j i l))

-- ---- the places from a whole x on
module _ (rank k : ℤ) (p : Point) (hp : pos 0 <ℤ p.w) (is : IsRank rank p) where
  number : IsRowNumber is.row
  number = row_number is.across is.row p is.place

  from_rank : ((pos 4194304 *ℤ k) -ℤ pos 1048576) ≤ℤ rank → (k *ℤ p.w) ≤ℤ p.x
  from_rank h =
      let more : k ≤ℤ is.across = omega (arith, ints, h, is.is, number.high) in
      omega (arith, ints, is.floor.low, most_times k is.across p.w hp more)

  to_rank : (k *ℤ p.w) ≤ℤ p.x → ((pos 4194304 *ℤ k) -ℤ pos 1048576) ≤ℤ rank
  to_rank h = by_lt_z is.across k (λ l. absurd (omega (arith, ints, h, is.floor.high, one_more is.across p.w, most_times (is.across +ℤ pos 1) k p.w hp (omega (arith, ints, l)))))
      (λ m. omega (arith, ints, m, is.is, number.low))
    where
      one_more : (a w : ℤ) → (a +ℤ pos 1) *ℤ w ≡ (a *ℤ w) +ℤ w
      one_more a w = rw (split a, split w) (simp differences (same _ _ _ _ (omega arith)))

  -- they have the ranks from the first one over that x on
  pub from_border : int_le ((pos 4194304 *ℤ k) -ℤ pos 1048576) rank ≡ int_le (k *ℤ p.w) p.x
  from_border =
      same_tests (int_le ((pos 4194304 *ℤ k) -ℤ pos 1048576) rank) (int_le (k *ℤ p.w) p.x) (λ h. true_le (k *ℤ p.w) p.x (from_rank (le_true ((pos 4194304 *ℤ k) -ℤ pos 1048576) rank h)))
      (λ h. true_le ((pos 4194304 *ℤ k) -ℤ pos 1048576) rank (to_rank (le_true (k *ℤ p.w) p.x h)))

  -- and those before it have the ranks before it
  pub before_border : int_lt rank ((pos 4194304 *ℤ k) -ℤ pos 1048576) ≡ int_lt p.x (k *ℤ p.w)
  before_border =
      same_tests (int_lt rank ((pos 4194304 *ℤ k) -ℤ pos 1048576)) (int_lt p.x (k *ℤ p.w))
      (λ h. by_lt_z p.x (k *ℤ p.w) (λ l. true_lt p.x (k *ℤ p.w) l) (λ m. absurd (omega (arith, ints, to_rank m, lt_true rank ((pos 4194304 *ℤ k) -ℤ pos 1048576) h))))
      (λ h. by_lt_z rank ((pos 4194304 *ℤ k) -ℤ pos 1048576) (λ l. true_lt rank ((pos 4194304 *ℤ k) -ℤ pos 1048576) l) (λ m. absurd (omega (arith, ints, from_rank m, lt_true p.x (k *ℤ p.w) h))))

-- ---- a whole part by a division
-- what is divided is counted from the lowest coordinate on
pub floor_of : (x w u v : ℤ) (n d : ℕ) → u ≡ x → v ≡ w → pos n ≡ u +ℤ (pos 1048576 *ℤ v) → pos d ≡ w → 0 < d → IsFloor (pos (n / d) -ℤ pos 1048576) x w
floor_of x w u v n d eu ev sum f positive = record {
  low = omega (arith, ints, below, parts, e);
  high = omega (arith, ints, above, parts, e);
}
  where
    e : pos n ≡ x +ℤ (pos 1048576 *ℤ w)
    e = rw (sym eu, sym ev) sum

    q : ℕ
    q = n / d

    below : q * d ≤ n
    below = div-mul-le_self n d

    above : n < q * d + d
    above = lt-div-mul-add positive

    spread : (q m w : ℤ) → ((q -ℤ m) *ℤ w) ≡ ((q *ℤ w) -ℤ (m *ℤ w))
    spread q m w = rw (split q, split m, split w) (simp differences (same _ _ _ _ (omega arith)))

    parts : ((pos q -ℤ pos 1048576) *ℤ w) ≡ (pos (q * d) -ℤ (pos 1048576 *ℤ w))
    parts = spread (pos q) (pos 1048576) w ∙ ap (λ z. z -ℤ (pos 1048576 *ℤ w)) (ap (λ z. pos q *ℤ z) (sym f) ∙ pos-*ℤ-pos q d)

-- and the whole part is a coordinate
pub floor_small : (n d : ℕ) → 0 < d → n ≤ 2097152 * d → n / d ≤ 2097152
floor_small n d positive most = div-le_of_le-mul d (omega (arith, most))

-- what the code makes of the quotient
pub reads : (q : ℕ) → q ≤ 2097152 → to_z w64 (of_z w64 (to_z w64 q -ℤ pos 1048576)) ≡ pos q -ℤ pos 1048576
reads q few = omega (arith, ints)

pub size_of : (w v : ℤ) → v ≡ w → pos 1 ≤ℤ w → pos (unsigned_abs v) ≡ w
size_of w v e low = grind (arith, ints)

pub positive : (w v : ℤ) → v ≡ w → pos 1 ≤ℤ w → 0 < unsigned_abs v
positive w v e low = grind (arith, ints)

pub in_range : (q : ℕ) → q ≤ 2097152 → InRange (pos q -ℤ pos 1048576)
in_range q few = (omega (arith, ints, few), omega (arith, ints, few))
