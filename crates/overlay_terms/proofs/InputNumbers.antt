-- Whole numbers and fractions at the borders of a column.
use Rattle.std.specs.Prelude.{◌≡◌, ℕ, ℤ, pos, ◌+◌, ◌<◌, ◌+ℤ◌, ◌-ℤ◌, ◌*ℤ◌, ◌≤ℤ◌, ◌<ℤ◌, int_le, int_lt, true, not, ◌&&◌}
use Rattle.std.specs.Cmp.{int_ranked, int_ranks, int_cmp_is}
use Rattle.std.specs.List.{list_any}
use Rattle.std.specs.Ordering.{int_cmp, int_eq, is_lt, is_gt, ordering_then, MatchOrdering}
use Rattle.std.specs.declared.cmp.Ordering.{Ordering}
use Rattle.std.specs.declared.cmp.Ordering.TheVariants.{Less, Equal, Greater}
use Rattle.std.proofs.Common.{refl, ap, sym, ◌∙◌, arith}
use Rattle.std.proofs.lemmas.Bool.{and_parts, and_from, false≢true}
use Rattle.std.proofs.lemmas.Bool.Decides.{Decides-int_eq}
use Rattle.std.proofs.lemmas.Int.{ints}
use Rattle.std.proofs.lemmas.List.Folds.{list_any_at}
use Rattle.std.proofs.lemmas.List.FromFn.{length-range_with_len, get_or-range_with_len}
use Rattle.overlay_terms.specs.Plane.{Point, Segment, whole, whole_cmp, point_cmp, height_over, is_on}
use Rattle.overlay_terms.specs.Column.{border, columns, column_count, touches}
use Rattle.overlay_terms.specs.Tiles.{midpoint}
use Rattle.overlay_terms.proofs.Difference.{split, whole_is, differences, same, mul_mono, mul_pos}
use Rattle.overlay_terms.proofs.Ratios.{mul_less}

-- a product, turned round
pub turned : (a b : ℤ) → a *ℤ b ≡ b *ℤ a
turned a b = rw (split a, split b) (simp differences (same _ _ _ _ (omega arith)))

-- three factors, the last two turned round
pub last_turned : (a b c : ℤ) → (a *ℤ b) *ℤ c ≡ (a *ℤ c) *ℤ b
last_turned a b c = rw (split a, split b, split c) (simp differences (same _ _ _ _ (omega arith)))

-- a product with 1
pub times_one : (a : ℤ) → a *ℤ pos 1 ≡ a
times_one a = rw (split a, whole_is 1) (simp differences (same _ _ _ _ (omega arith)))

-- twice a product of three
pub twice_of : (a b c : ℤ) → a *ℤ (pos 2 *ℤ (b *ℤ c)) ≡ ((a *ℤ b) *ℤ c) +ℤ ((a *ℤ c) *ℤ b)
twice_of a b c = rw (split a, split b, split c, whole_is 2) (simp differences (same _ _ _ _ (omega arith)))

-- a positive factor keeps the strict order
pub less_times : (a b w : ℤ) → pos 0 <ℤ w → a <ℤ b → (a *ℤ w) <ℤ (b *ℤ w)
less_times a b w h k = rw (turned a w, turned b w) (mul_less w a b h k)

-- a positive factor keeps at most
pub most_times : (a b w : ℤ) → pos 0 <ℤ w → a ≤ℤ b → (a *ℤ w) ≤ℤ (b *ℤ w)
most_times a b w h k = mul_mono a b w (omega (arith, ints)) k

-- one of two numbers is less, or the other is at most it
pub data Ranked (a b : ℤ) : Type 0 where
  less : a <ℤ b → Ranked a b
  most : b ≤ℤ a → Ranked a b

-- the same, by how they compare
ranked_by : (a b : ℤ) (o : Ordering) → MatchOrdering o (a <ℤ b) (a ≡ b) (b <ℤ a) → Ranked a b
-- the same, by how they compare
ranked_by a b Less h = less h
-- the same, by how they compare
ranked_by a b Equal h = most (omega (arith, ints))
-- the same, by how they compare
ranked_by a b Greater h = most (omega (arith, ints))

-- of two numbers, the one is less or the other is at most it
pub ranked : (a b : ℤ) → Ranked a b
ranked a b = ranked_by a b (int_cmp a b) (int_ranks a b)

-- a positive factor may be dropped from at most
pub most_back : (a b w : ℤ) → pos 0 <ℤ w → (a *ℤ w) ≤ℤ (b *ℤ w) → a ≤ℤ b
most_back a b w h k =
    elim (ranked b a) [
      | less l ↦ let more : (b *ℤ w) <ℤ (a *ℤ w) = less_times b a w h l in absurd (omega (arith, ints))
      | most l ↦ l
    ]

-- a positive factor may be dropped from the strict order
pub less_back : (a b w : ℤ) → pos 0 <ℤ w → (a *ℤ w) <ℤ (b *ℤ w) → a <ℤ b
less_back a b w h k =
    elim (ranked a b) [
      | less l ↦ l
      | most l ↦ let more : (b *ℤ w) ≤ℤ (a *ℤ w) = most_times b a w h l in absurd (omega (arith, ints))
    ]

-- what the tests say, and when they hold
pub le_true : (a b : ℤ) → int_le a b ≡ true → a ≤ℤ b
le_true a b h = grind (arith, ints)

pub lt_true : (a b : ℤ) → int_lt a b ≡ true → a <ℤ b
lt_true a b h = grind (arith, ints)

pub true_le : (a b : ℤ) → a ≤ℤ b → int_le a b ≡ true
true_le a b h = grind (arith, ints)

pub true_lt : (a b : ℤ) → a <ℤ b → int_lt a b ≡ true
true_lt a b h = grind (arith, ints)

pub false_eq : (a b : ℤ) → a <ℤ b → not (int_eq a b) ≡ true
false_eq a b h = grind (arith, ints)

-- the first of two comparisons, one after the other, is no Greater where both end in Less
first_most : (a b : ℤ) (o r : Ordering) → o ≡ int_cmp a b → ordering_then o r ≡ Less → a ≤ℤ b
first_most a b Less r e h = let l : a <ℤ b = int_ranked a b Less e in omega (arith, ints)
first_most a b Equal r e h = let l : a ≡ b = int_ranked a b Equal e in omega (arith, ints)
first_most a b Greater r e h = absurd (cc)

-- points in order have their x in order
pub x_in_order : (p q : Point) → point_cmp p q ≡ Less → (p.x *ℤ q.w) ≤ℤ (q.x *ℤ p.w)
x_in_order p q h = first_most (p.x *ℤ q.w) (q.x *ℤ p.w) (int_cmp (p.x *ℤ q.w) (q.x *ℤ p.w)) (int_cmp (p.y *ℤ q.w) (q.y *ℤ p.w)) refl h

-- points with their x in order are in order
pub in_order_by_x : (p q : Point) → (p.x *ℤ q.w) <ℤ (q.x *ℤ p.w) → point_cmp p q ≡ Less
in_order_by_x p q h = let e : int_cmp (p.x *ℤ q.w) (q.x *ℤ p.w) ≡ Less = sym (int_cmp_is (p.x *ℤ q.w) (q.x *ℤ p.w) Less h) in ap (λ o. ordering_then o (int_cmp (p.y *ℤ q.w) (q.y *ℤ p.w))) e

-- the same, turned round
pub out_of_order_by_x : (p q : Point) → (q.x *ℤ p.w) <ℤ (p.x *ℤ q.w) → point_cmp p q ≡ Greater
out_of_order_by_x p q h = let e : int_cmp (p.x *ℤ q.w) (q.x *ℤ p.w) ≡ Greater = sym (int_cmp_is (p.x *ℤ q.w) (q.x *ℤ p.w) Greater h) in ap (λ o. ordering_then o (int_cmp (p.y *ℤ q.w) (q.y *ℤ p.w))) e

-- the left end of a segment has an x that is at most that of its right end
pub left_most : (s : Segment) → whole_cmp s.left s.right ≡ Less → s.left.x ≤ℤ s.right.x
left_most s h = first_most s.left.x s.right.x (int_cmp s.left.x s.right.x) (int_cmp s.left.y s.right.y) refl h

-- one comparison after the other is not Less: the first is no Less
not_less : (a b : ℤ) (o r : Ordering) → o ≡ int_cmp a b → not (is_lt (ordering_then o r)) ≡ true → b ≤ℤ a
not_less a b Less r e h = absurd (false≢true h)
not_less a b Equal r e h = let l : a ≡ b = int_ranked a b Equal e in omega (arith, ints)
not_less a b Greater r e h = let l : b <ℤ a = int_ranked a b Greater e in omega (arith, ints)

-- the same for Greater
not_greater : (a b : ℤ) (o r : Ordering) → o ≡ int_cmp a b → not (is_gt (ordering_then o r)) ≡ true → a ≤ℤ b
not_greater a b Less r e h = let l : a <ℤ b = int_ranked a b Less e in omega (arith, ints)
not_greater a b Equal r e h = let l : a ≡ b = int_ranked a b Equal e in omega (arith, ints)
not_greater a b Greater r e h = absurd (false≢true h)

-- a point on a segment has its x between the two ends
pub record IsWithinEnds (s : Segment) (p : Point) : Type 0 where
  pub from_left : (s.left.x *ℤ p.w) ≤ℤ p.x
  pub to_right : p.x ≤ℤ (s.right.x *ℤ p.w)

-- what lying on a segment says of the x
pub between_from_on : (s : Segment) (p : Point) → is_on s p ≡ true → IsWithinEnds s p
between_from_on s p h =
    let parts = and_parts (int_eq (height_over s p) (pos 0) && not (is_lt (point_cmp p (whole s.left)))) (not (is_gt (point_cmp p (whole s.right)))) h in
    let first = and_parts (int_eq (height_over s p) (pos 0)) (not (is_lt (point_cmp p (whole s.left)))) parts.0 in
    let low : (s.left.x *ℤ p.w) ≤ℤ (p.x *ℤ pos 1) = not_less (p.x *ℤ pos 1) (s.left.x *ℤ p.w) (int_cmp (p.x *ℤ pos 1) (s.left.x *ℤ p.w)) (int_cmp (p.y *ℤ pos 1) (s.left.y *ℤ p.w)) refl first.1 in
    let high : (p.x *ℤ pos 1) ≤ℤ (s.right.x *ℤ p.w) = not_greater (p.x *ℤ pos 1) (s.right.x *ℤ p.w) (int_cmp (p.x *ℤ pos 1) (s.right.x *ℤ p.w)) (int_cmp (p.y *ℤ pos 1) (s.right.y *ℤ p.w)) refl parts.1 in
    let one : p.x *ℤ pos 1 ≡ p.x = times_one p.x in
    record { from_left = omega (arith, ints); to_right = omega (arith, ints) }

-- the point of a segment's line over a whole x
abbrev pub point_over : Segment → ℤ → Point
point_over s c = record { x = c *ℤ (s.right.x -ℤ s.left.x); y = (s.left.y *ℤ (s.right.x -ℤ s.left.x)) +ℤ ((c -ℤ s.left.x) *ℤ (s.right.y -ℤ s.left.y)); w = s.right.x -ℤ s.left.x }

-- its height over the line is 0
level : (d e c l m : ℤ) → ((d *ℤ (((m *ℤ d) +ℤ ((c -ℤ l) *ℤ e)) -ℤ (m *ℤ d))) -ℤ (e *ℤ ((c *ℤ d) -ℤ (l *ℤ d)))) ≡ pos 0
level d e c l m = rw (split d, split e, split c, split l, split m, whole_is 0) (simp differences (same _ _ _ _ (omega arith)))

-- it is on the segment, where the x is strictly between its ends
pub on_point_over : (s : Segment) (c : ℤ) → s.left.x <ℤ c → c <ℤ s.right.x → is_on s (point_over s c) ≡ true
on_point_over s c low high =
    let wide : pos 0 <ℤ (s.right.x -ℤ s.left.x) = omega (arith, ints) in
    let one : (c *ℤ (s.right.x -ℤ s.left.x)) *ℤ pos 1 ≡ c *ℤ (s.right.x -ℤ s.left.x) = times_one _ in
    let from : (s.left.x *ℤ (s.right.x -ℤ s.left.x)) <ℤ (c *ℤ (s.right.x -ℤ s.left.x)) = less_times s.left.x c (s.right.x -ℤ s.left.x) wide low in
    let to : (c *ℤ (s.right.x -ℤ s.left.x)) <ℤ (s.right.x *ℤ (s.right.x -ℤ s.left.x)) = less_times c s.right.x (s.right.x -ℤ s.left.x) wide high in
    and_from _ _
    (and_from _ _
    ((Decides-int_eq (height_over s (point_over s c)) (pos 0)).1 (level (s.right.x -ℤ s.left.x) (s.right.y -ℤ s.left.y) c s.left.x s.left.y))
    (ap (λ o. not (is_lt o)) (out_of_order_by_x (point_over s c) (whole s.left) (rw one from))))
    (ap (λ o. not (is_gt o)) (in_order_by_x (point_over s c) (whole s.right) (rw one to)))

-- a segment with a point over the column touches it
pub touches_at : (k : ℕ) (s : Segment) (x w : ℤ) → pos 0 <ℤ w → (s.left.x *ℤ w) ≤ℤ x → x ≤ℤ (s.right.x *ℤ w) → (border k *ℤ w) ≤ℤ x → x <ℤ (border (k + 1) *ℤ w) → touches k s ≡ true
touches_at k s x w positive left right low high =
    let far : (border k *ℤ w) ≤ℤ (s.right.x *ℤ w) = omega (arith, ints) in
    let near : (s.left.x *ℤ w) <ℤ (border (k + 1) *ℤ w) = omega (arith, ints) in
    and_from _ _ (true_le (border k) s.right.x (most_back (border k) s.right.x w positive far)) (true_lt s.left.x (border (k + 1)) (less_back s.left.x (border (k + 1)) w positive near))

-- a border's number is among those of the columns
pub border_found : (k : ℕ) (p : Point) → k < column_count → p.x ≡ border k *ℤ p.w → list_any (λ j. int_eq p.x (border j *ℤ p.w)) columns ≡ true
border_found k p few e =
    list_any_at (λ j. int_eq p.x (border j *ℤ p.w)) columns k 0 (rw (length-range_with_len 0 column_count) few)
    (rw (get_or-range_with_len 0 column_count k 0 few) ((Decides-int_eq p.x (border (0 + k) *ℤ p.w)).1 (e ∙ ap (λ j. border j *ℤ p.w) (omega arith))))

-- a point that is not right of another is not right of a line that the other is not right of
pub most_through : (p q : Point) (c : ℤ) → pos 0 <ℤ p.w → pos 0 <ℤ q.w → (p.x *ℤ q.w) ≤ℤ (q.x *ℤ p.w) → q.x ≤ℤ (c *ℤ q.w) → p.x ≤ℤ (c *ℤ p.w)
most_through p q c p_positive q_positive order near =
    let far : (q.x *ℤ p.w) ≤ℤ ((c *ℤ q.w) *ℤ p.w) = most_times q.x (c *ℤ q.w) p.w p_positive near in
    let turn : (c *ℤ q.w) *ℤ p.w ≡ (c *ℤ p.w) *ℤ q.w = last_turned c q.w p.w in
    let both : (p.x *ℤ q.w) ≤ℤ ((c *ℤ p.w) *ℤ q.w) = omega (arith, ints) in
    most_back p.x (c *ℤ p.w) q.w q_positive both

-- a point that is not left of another is not left of a line that the other is not left of
pub least_through : (p q : Point) (b : ℤ) → pos 0 <ℤ p.w → pos 0 <ℤ q.w → (p.x *ℤ q.w) ≤ℤ (q.x *ℤ p.w) → (b *ℤ p.w) ≤ℤ p.x → (b *ℤ q.w) ≤ℤ q.x
least_through p q b p_positive q_positive order least =
    let near : ((b *ℤ p.w) *ℤ q.w) ≤ℤ (p.x *ℤ q.w) = most_times (b *ℤ p.w) p.x q.w q_positive least in
    let turn : (b *ℤ p.w) *ℤ q.w ≡ (b *ℤ q.w) *ℤ p.w = last_turned b p.w q.w in
    let both : ((b *ℤ q.w) *ℤ p.w) ≤ℤ (q.x *ℤ p.w) = omega (arith, ints) in
    most_back (b *ℤ q.w) q.x p.w p_positive both

-- the middle of two points is not left of a line that neither is left of
pub least_middle : (p r : Point) (b : ℤ) → pos 0 <ℤ p.w → pos 0 <ℤ r.w → (b *ℤ p.w) ≤ℤ p.x → (b *ℤ r.w) ≤ℤ r.x → (b *ℤ (midpoint p r).w) ≤ℤ (midpoint p r).x
least_middle p r b p_positive r_positive low high =
    let one : ((b *ℤ p.w) *ℤ r.w) ≤ℤ (p.x *ℤ r.w) = most_times (b *ℤ p.w) p.x r.w r_positive low in
    let two : ((b *ℤ r.w) *ℤ p.w) ≤ℤ (r.x *ℤ p.w) = most_times (b *ℤ r.w) r.x p.w p_positive high in
    rw (twice_of b p.w r.w) (omega (arith, ints))

-- the middle of two points is left of a line that the first is left of and the second is not right of
pub less_middle : (p r : Point) (c : ℤ) → pos 0 <ℤ p.w → pos 0 <ℤ r.w → p.x <ℤ (c *ℤ p.w) → r.x ≤ℤ (c *ℤ r.w) → (midpoint p r).x <ℤ (c *ℤ (midpoint p r).w)
less_middle p r c p_positive r_positive low high =
    let one : (p.x *ℤ r.w) <ℤ ((c *ℤ p.w) *ℤ r.w) = less_times p.x (c *ℤ p.w) r.w r_positive low in
    let two : (r.x *ℤ p.w) ≤ℤ ((c *ℤ r.w) *ℤ p.w) = most_times r.x (c *ℤ r.w) p.w p_positive high in
    rw (twice_of c p.w r.w) (omega (arith, ints))

-- the denominator of the middle is positive
pub middle_positive : (p r : Point) → pos 0 <ℤ p.w → pos 0 <ℤ r.w → pos 0 <ℤ (midpoint p r).w
middle_positive p r p_positive r_positive = mul_pos (pos 2) (p.w *ℤ r.w) (omega (arith, ints)) (mul_pos p.w r.w p_positive r_positive)
