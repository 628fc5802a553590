-- What lies over an upright piece is given by the segments under its middle that reach it from the left.
use Rattle.std.specs.Prelude.{◌≡◌, ℤ, pos, ◌+◌, get_or, ◌-ℤ◌, ◌*ℤ◌, ◌<ℤ◌, ◌≤ℤ◌, int_le, int_lt, Bool, true, false, ◌&&◌, ◌||◌, IsTrue, List, Contains}
use Rattle.std.specs.Ordering.{int_eq}
use Rattle.std.specs.declared.cmp.Ordering.TheVariants.{Less}
use Rattle.std.proofs.Common.{inl, inr, ap, sym, ◌∙◌, arith}
use Rattle.std.proofs.lemmas.Int.{ints, by_lt_z}
use Rattle.std.proofs.lemmas.Bool.{and_parts, and_from, or_left, both_ways, false_from_ne_true, not-true}
use Rattle.std.proofs.lemmas.Bool.Decides.{Decides-int_eq}
use Rattle.std.proofs.lemmas.List.Elements.{All-map, All-contains}
use Rattle.std.proofs.Math.IntN.{zero-*ℤ, *ℤ_comm}
use Rattle.overlay_terms.specs.Plane.{WholePoint, Point, Segment, whole, same_place, point_cmp, height_over, is_below, is_on}
use Rattle.overlay_terms.specs.Column.{border, is_in_column}
use Rattle.overlay_terms.specs.Tiles.{Input, midpoint}
use Rattle.overlay_terms.specs.TileLaws.{IsInput, IsProper}
use Rattle.overlay_terms.proofs.Difference.{split, differences, same, mul_pos}
use Rattle.overlay_terms.proofs.InputNumbers.{last_turned, most_times, less_times, most_back, less_back, le_true, lt_true, true_le, true_lt, false_eq, times_one}
use Rattle.overlay_terms.proofs.Tests.{same_tests}
use Rattle.overlay_terms.proofs.Whole.{same_most, most_is_not_less, less_by, most_same}
use Rattle.exact_point.proofs.Lexical.{Forward, NotBack}
use Rattle.exact_point.proofs.OnSegment.{leads, reached, is_reached}
use Rattle.tile_laws.specs.Rays.{IsUpright, is_left_below, LeftSide}
use Rattle.tile_laws.proofs.Statements.{segments_in}
use Rattle.tile_laws.proofs.EvenRegion.{differ}
use Rattle.tile_laws.proofs.SideBits.{all_in_map}
use Rattle.tile_laws.proofs.SideUpright.{upright_level}
use Rattle.tile_laws.proofs.SideMidpoint.{after_by, before_by, middle_level}
use Rattle.tile_laws.proofs.UprightSides.{upright_crosses, below_less, over_by_whole, x_on, from_x, to_x, mid_x, mid_positive, above}
use Rattle.tile_laws.proofs.EndCounts.{IsEven, count_alike_by_ends}
use Rattle.exact_point.proofs.Lines.{width, rise}
use Rattle.exact_point.proofs.OnLine.{between_on, on_line}
use Rattle.exact_point.proofs.PlaceOrder.{not_after_less}
use Rattle.exact_point.proofs.Signs.{positive_factor}
use Rattle.exact_point.proofs.Nodes.{crossing_is_node, node_at_end, end_among}

-- ---- over tests
-- of a slanted segment: from its left end, before its right end; from right of its left end to its right end; and its ends on the line
slanted_signs : (from before past to left right h l r : Bool) → (left ≡ true → from ≡ true) → (left ≡ true → before ≡ true)
    → (left ≡ true → past ≡ false) → (left ≡ true → right ≡ false) → (left ≡ true → h ≡ l) → (left ≡ false → from ≡ past)
    → (right ≡ true → before ≡ false) → (right ≡ true → past ≡ true) → (right ≡ true → to ≡ true) → (right ≡ true → h ≡ r) → (right ≡ false → before ≡ to)
    → differ (((from && before) && h) || false) (differ ((past && to) && h) (differ (left && l) (right && r))) ≡ false
slanted_signs from before past to left right h l r a b c d e f g i j k m = grind (arith, a, b, c, d, e, f, g, i, j, k, m)

-- of an upright segment: both its ends on the line or neither, and on it the middle between them
upright_signs : (below on reach here l r : Bool) → below ≡ false → reach ≡ false → (here ≡ false → on ≡ false) → (here ≡ true → on ≡ differ l r)
    → differ (below || on) (differ reach (differ (here && l) (here && r))) ≡ false
upright_signs below on reach here l r a b c d = grind (arith, a, b, c, d)

-- of numbers in order, the middle one no end
between_signs : (on l r : Bool) → (on ≡ true → l ≡ true) → (on ≡ true → r ≡ false) → (l ≡ true → r ≡ false → on ≡ true) → (r ≡ true → l ≡ true) → on ≡ differ l r
between_signs on l r a b c d = grind (arith, a, b, c, d)

-- ---- over opaque numbers
-- the height of a place over a line, over the x of its left end
left_height : (d e x y l m w : ℤ) → x ≡ l *ℤ w → (d *ℤ (y -ℤ (m *ℤ w))) -ℤ (e *ℤ (x -ℤ (l *ℤ w))) ≡ d *ℤ (y -ℤ (m *ℤ w))
left_height d e x y l m w at = less_none (d *ℤ (y -ℤ (m *ℤ w))) (e *ℤ (x -ℤ (l *ℤ w))) (ap (λ z. e *ℤ z) (none x (l *ℤ w) at) ∙ *ℤ_comm e (pos 0) ∙ zero-*ℤ e)
  where
    none : (a b : ℤ) → a ≡ b → a -ℤ b ≡ pos 0
    none a b h = omega (arith, ints)

    less_none : (a b : ℤ) → b ≡ pos 0 → a -ℤ b ≡ a
    less_none a b h = omega (arith, ints)

-- and over that of its right end
pub from_right : (l m r o x y w : ℤ) → ((r -ℤ l) *ℤ (y -ℤ (m *ℤ w))) -ℤ ((o -ℤ m) *ℤ (x -ℤ (l *ℤ w))) ≡ ((r -ℤ l) *ℤ (y -ℤ (o *ℤ w))) -ℤ ((o -ℤ m) *ℤ (x -ℤ (r *ℤ w)))
from_right l m r o x y w = rw (split l, split m, split r, split o, split x, split y, split w) (simp differences (same _ _ _ _ (omega arith)))

-- a product with a positive number has its sign
one_sign : (d a b : ℤ) → pos 0 <ℤ d → int_lt (pos 0) (d *ℤ (b -ℤ a)) ≡ int_lt a b
one_sign d a b hd =
    same_tests (int_lt (pos 0) (d *ℤ (b -ℤ a))) (int_lt a b)
    (λ t. true_lt a b (less_by a b (positive_factor (b -ℤ a) d hd (turned (b -ℤ a) (lt_true (pos 0) (d *ℤ (b -ℤ a)) t)))))
    (λ t. true_lt (pos 0) (d *ℤ (b -ℤ a)) (mul_pos d (b -ℤ a) hd (more a b (lt_true a b t))))
  where
    more : (a b : ℤ) → a <ℤ b → pos 0 <ℤ (b -ℤ a)
    more a b h = omega (arith, ints)

    turned : (z : ℤ) → pos 0 <ℤ (d *ℤ z) → pos 0 <ℤ (z *ℤ d)
    turned z h = omega (arith, ints, h, *ℤ_comm z d)

-- tests of numbers
eq_le : (a l : ℤ) → int_eq a l ≡ true → int_le a l ≡ true
eq_le a l h = grind (arith, ints, h)

eq_not_lt : (a l : ℤ) → int_eq a l ≡ true → int_lt a l ≡ false
eq_not_lt a l h = grind (arith, ints, h)

ne_same : (a l : ℤ) → int_eq a l ≡ false → int_le a l ≡ int_lt a l
ne_same a l h = grind (arith, ints, h)

ne_same_back : (l b : ℤ) → int_eq b l ≡ false → int_lt l b ≡ int_le l b
ne_same_back l b h = grind (arith, ints, h)

eq_ge : (l b : ℤ) → int_eq b l ≡ true → int_le l b ≡ true
eq_ge l b h = grind (arith, ints, h)

eq_not_gt : (l b : ℤ) → int_eq b l ≡ true → int_lt l b ≡ false
eq_not_gt l b h = grind (arith, ints, h)

left_lt : (a b l : ℤ) → a <ℤ b → int_eq a l ≡ true → int_lt l b ≡ true
left_lt a b l wide h = grind (arith, ints, wide, h)

left_ne : (a b l : ℤ) → a <ℤ b → int_eq a l ≡ true → int_eq b l ≡ false
left_ne a b l wide h = grind (arith, ints, wide, h)

right_lt : (a b l : ℤ) → a <ℤ b → int_eq b l ≡ true → int_lt a l ≡ true
right_lt a b l wide h = grind (arith, ints, wide, h)

never_reach : (a b l : ℤ) → a ≡ b → (int_lt a l && int_le l b) ≡ false
never_reach a b l e = grind (arith, ints, e)

never_over : (a b l : ℤ) → a ≡ b → (int_le a l && int_lt l b) ≡ false
never_over a b l e = grind (arith, ints, e)

-- ---- signs along an upright line
difference_none : (a b : ℤ) → a ≡ b → a -ℤ b ≡ pos 0
difference_none a b e = omega (arith, ints)

not_under : (x a b : ℤ) → x ≡ pos 0 → NotBack x (a -ℤ b) → b ≤ℤ a
not_under x a b e (inl h) = absurd (omega (arith, ints, h, e))
not_under x a b e (inr h) = past_by a b h.1
  where
    past_by : (a b : ℤ) → pos 0 ≤ℤ (a -ℤ b) → b ≤ℤ a
    past_by a b h = omega (arith, ints)

past : (a b : ℤ) → a <ℤ b → pos 0 ≤ℤ (b -ℤ a)
past a b h = omega (arith, ints)

ahead_of : (a b : ℤ) → int_lt a b ≡ false → pos 0 ≤ℤ (a -ℤ b)
ahead_of a b h = by_lt_z a b (λ l. absurd (both_ways (int_lt a b) h (true_lt a b l))) (λ l. past_most a b l)
  where
    past_most : (a b : ℤ) → b ≤ℤ a → pos 0 ≤ℤ (a -ℤ b)
    past_most a b h = omega (arith, ints)

through : (a b c : ℤ) → a <ℤ b → b <ℤ c → a <ℤ c
through a b c h k = omega (arith, ints)

same_back : (a b w : ℤ) → pos 0 <ℤ w → a *ℤ w ≡ b *ℤ w → a ≡ b
same_back a b w hw e = same_most a b (most_back a b w hw (most_same (a *ℤ w) (b *ℤ w) e)) (most_back b a w hw (most_same (b *ℤ w) (a *ℤ w) (sym e)))

-- a segment reaches the x of a place from the left where it reaches the whole number that this x is
reach_by_whole : (t : Segment) (q : Point) (l : ℤ) → pos 0 <ℤ q.w → q.x ≡ l *ℤ q.w → (int_lt (t.left.x *ℤ q.w) q.x && int_le q.x (t.right.x *ℤ q.w)) ≡ (int_lt t.left.x l && int_le l t.right.x)
reach_by_whole t q l hq e =
    ap (λ x. int_lt (t.left.x *ℤ q.w) x && int_le x (t.right.x *ℤ q.w)) e
    ∙ ap (λ b. b && int_le (l *ℤ q.w) (t.right.x *ℤ q.w)) (same_tests _ _ (λ h. true_lt t.left.x l (less_back t.left.x l q.w hq (lt_true _ _ h)))
    (λ h. true_lt _ _ (less_times t.left.x l q.w hq (lt_true t.left.x l h))))
    ∙ ap (λ b. int_lt t.left.x l && b) (same_tests _ _ (λ h. true_le l t.right.x (most_back l t.right.x q.w hq (le_true _ _ h)))
    (λ h. true_le _ _ (most_times l t.right.x q.w hq (le_true l t.right.x h))))

module _ (input : Input) (p r : Point) (is : IsUpright input p r) (valid : IsInput input) where
  abbrev segments : List Segment
  segments = segments_in input

  abbrev s : Segment
  s = is.piece.support

  proper_of : (t : Segment) → Contains (segments_in input) t → IsProper t
  proper_of t among = All-contains IsProper (segments_in input) t (All-map IsProper (λ m. m.segment) input.marked valid.proper) among

  -- its support is upright
  directed : (width s ≡ pos 0) × (pos 0 <ℤ rise s)
  directed = by (leads s (proper_of s is.piece.among).first) where
    by : Forward (width s) (rise s) → (width s ≡ pos 0) × (pos 0 <ℤ rise s)
    by (inl wide) = absurd (apart s.left.x s.right.x ((Decides-int_eq s.left.x s.right.x).0 is.upright) wide)
      where
        apart : (a b : ℤ) → a ≡ b → pos 0 <ℤ (b -ℤ a) → ⊥
        apart a b e h = omega (arith, ints)
    by (inr h) = h

  none : width s ≡ pos 0
  none = directed.0

  up : pos 0 <ℤ rise s
  up = directed.1

  abbrev l : ℤ
  l = s.left.x

  abbrev m : Point
  m = midpoint p r

  hm : pos 0 <ℤ m.w
  hm = mid_positive input p r is.piece none up

  at_x : m.x ≡ l *ℤ m.w
  at_x = mid_x input p r is.piece none up

  -- the middle lies strictly between the ends
  same_x : (u : Point) → u.x ≡ l *ℤ u.w → u.x *ℤ m.w ≡ m.x *ℤ u.w
  same_x u e = ap (λ z. z *ℤ m.w) e ∙ last_turned l u.w m.w ∙ ap (λ z. z *ℤ u.w) (sym at_x)

  ends_up : (p.y *ℤ r.w) <ℤ (r.y *ℤ p.w)
  ends_up = less_by (p.y *ℤ r.w) (r.y *ℤ p.w) (above input p r is.piece none up)

  after : point_cmp p m ≡ Less
  after = below_less p m (same_x p (from_x input p r is.piece none up)) (after_by p.y r.y p.w r.w is.piece.from_positive ends_up)

  before : point_cmp m r ≡ Less
  before = below_less m r (sym (same_x r (to_x input p r is.piece none up))) (before_by p.y r.y p.w r.w is.piece.to_positive ends_up)

  on_s : IsTrue (is_on s m)
  on_s =
      between_on s p m r is.piece.from_positive hm is.piece.to_positive is.piece.from_on is.piece.to_on (middle_level s p r (on_line s p is.piece.from_on) (on_line s r is.piece.to_on))
      (not_after_less p m is.piece.from_positive hm after) (not_after_less m r hm is.piece.to_positive before)

  -- an end of a segment strictly below the middle, on its x
  abbrev is_low : WholePoint → Bool
  is_low v = int_eq v.x l && int_lt (v.y *ℤ m.w) m.y

  module _ (t : Segment) (among : Contains (segments_in input) t) where
    by_whole : ((is_below t m || is_on t m) ≡ (((int_le t.left.x l && int_lt l t.right.x) && int_lt (pos 0) (height_over t m)) || is_on t m)) ×
        (is_left_below t m ≡ ((int_lt t.left.x l && int_le l t.right.x) && int_lt (pos 0) (height_over t m)))
    by_whole = (
      ap (λ b. (b && int_lt (pos 0) (height_over t m)) || is_on t m) (over_by_whole t m l hm at_x),
      ap (λ b. b && int_lt (pos 0) (height_over t m)) (reach_by_whole t m l hm at_x),
    )

    module _ (wide : pos 0 <ℤ width t) where
      -- a slanted segment does not hold the middle: that would be a node
      not_on : is_on t m ≡ false
      not_on = false_from_ne_true (is_on t m)
          (λ on. is.piece.none_between m hm on_s after before
          (crossing_is_node segments s t m is.piece.among among on_s on (upright_crosses s t none up (not-true _ (false_eq t.left.x t.right.x (less_by t.left.x t.right.x wide))))))

      ahead_x : t.left.x <ℤ t.right.x
      ahead_x = less_by t.left.x t.right.x wide

      -- over the x of an end, it is below the middle where the end is
      by_left : int_eq t.left.x l ≡ true → int_lt (pos 0) (height_over t m) ≡ int_lt (t.left.y *ℤ m.w) m.y
      by_left h =
          ap (int_lt (pos 0)) (left_height (width t) (rise t) m.x m.y t.left.x t.left.y m.w (at_x ∙ ap (λ z. z *ℤ m.w) (sym ((Decides-int_eq t.left.x l).0 h))))
          ∙ one_sign (width t) (t.left.y *ℤ m.w) m.y wide

      by_right : int_eq t.right.x l ≡ true → int_lt (pos 0) (height_over t m) ≡ int_lt (t.right.y *ℤ m.w) m.y
      by_right h =
          ap (int_lt (pos 0)) (from_right t.left.x t.left.y t.right.x t.right.y m.x m.y m.w ∙ left_height (width t)
          (rise t) m.x m.y t.right.x t.right.y m.w (at_x ∙ ap (λ z. z *ℤ m.w) (sym ((Decides-int_eq t.right.x l).0 h))))
          ∙ one_sign (width t) (t.right.y *ℤ m.w) m.y wide

      slanted_even : IsEven (λ t. is_below t m || is_on t m) (λ t. is_left_below t m) is_low t
      slanted_even =
          ap (λ b. differ b (differ (is_left_below t m) (differ (is_low t.left) (is_low t.right))))
          (by_whole.0 ∙ ap (λ b. ((int_le t.left.x l && int_lt l t.right.x) && int_lt (pos 0) (height_over t m)) || b) not_on)
          ∙ ap (λ b. differ (((int_le t.left.x l && int_lt l t.right.x) && int_lt (pos 0) (height_over t m)) || false) (differ b (differ (is_low t.left) (is_low t.right)))) by_whole.1
          ∙ slanted_signs (int_le t.left.x l) (int_lt l t.right.x) (int_lt t.left.x l) (int_le l t.right.x) (int_eq t.left.x l) (int_eq t.right.x l)
          (int_lt (pos 0) (height_over t m)) (int_lt (t.left.y *ℤ m.w) m.y) (int_lt (t.right.y *ℤ m.w) m.y)
          (eq_le t.left.x l) (left_lt t.left.x t.right.x l ahead_x) (eq_not_lt t.left.x l) (left_ne t.left.x t.right.x l ahead_x) by_left (ne_same t.left.x l)
          (eq_not_gt l t.right.x) (right_lt t.left.x t.right.x l ahead_x) (eq_ge l t.right.x) by_right (ne_same_back l t.right.x)

    module _ (flat : width t ≡ pos 0) (steep : pos 0 <ℤ rise t) where
      one_x : t.left.x ≡ t.right.x
      one_x = level t.left.x t.right.x flat
        where
          level : (a b : ℤ) → b -ℤ a ≡ pos 0 → a ≡ b
          level a b h = omega (arith, ints)

      -- the middle is no end
      no_end : (same_place m (whole t.left) || same_place m (whole t.right)) ≡ true → ⊥
      no_end h = is.piece.none_between m hm on_s after before (node_at_end segments m (end_among segments t among m h))

      off_line : int_eq t.left.x l ≡ false → is_on t m ≡ false
      off_line out = false_from_ne_true (is_on t m) (λ on. both_ways (int_eq t.left.x l) out
          ((Decides-int_eq t.left.x l).1 (same_back t.left.x l m.w hm (sym (x_on t m flat steep (on_line t m on)) ∙ at_x))))

      module _ (here : int_eq t.left.x l ≡ true) where
        t_x : m.x ≡ t.left.x *ℤ m.w
        t_x = at_x ∙ ap (λ z. z *ℤ m.w) (sym ((Decides-int_eq t.left.x l).0 here))

        no_way : m.x -ℤ (t.left.x *ℤ m.w) ≡ pos 0
        no_way = difference_none m.x (t.left.x *ℤ m.w) t_x

        no_way_back : (t.right.x *ℤ m.w) -ℤ m.x ≡ pos 0
        no_way_back = difference_none (t.right.x *ℤ m.w) m.x (ap (λ z. z *ℤ m.w) (sym one_x) ∙ sym t_x)

        -- on it from its lower end to its upper end
        on_from : is_on t m ≡ true → int_lt (t.left.y *ℤ m.w) m.y ≡ true
        on_from on = by_lt_z (t.left.y *ℤ m.w) m.y (true_lt (t.left.y *ℤ m.w) m.y)
            (λ most. absurd (no_end (or_left (same_place m (whole t.left)) (same_place m (whole t.right))
            (and_from (int_eq (m.x *ℤ pos 1) (t.left.x *ℤ m.w)) (int_eq (m.y *ℤ pos 1) (t.left.y *ℤ m.w))
            ((Decides-int_eq (m.x *ℤ pos 1) (t.left.x *ℤ m.w)).1 (times_one m.x ∙ t_x))
            ((Decides-int_eq (m.y *ℤ pos 1) (t.left.y *ℤ m.w)).1 (times_one m.y ∙ same_most m.y (t.left.y *ℤ m.w) most
            (not_under (m.x -ℤ (t.left.x *ℤ m.w)) m.y (t.left.y *ℤ m.w) no_way (reached t m on).from_left)))))))

        on_to : is_on t m ≡ true → int_lt (t.right.y *ℤ m.w) m.y ≡ false
        on_to on = most_is_not_less (t.right.y *ℤ m.w) m.y (not_under ((t.right.x *ℤ m.w) -ℤ m.x) (t.right.y *ℤ m.w) m.y no_way_back (reached t m on).to_right)

        on_between : int_lt (t.left.y *ℤ m.w) m.y ≡ true → int_lt (t.right.y *ℤ m.w) m.y ≡ false → is_on t m ≡ true
        on_between h k =
            is_reached t m (record {
              level = upright_level (width t) (rise t) (m.x -ℤ (t.left.x *ℤ m.w)) (m.y -ℤ (t.left.y *ℤ m.w)) flat no_way;
              from_left = inr (no_way, past (t.left.y *ℤ m.w) m.y (lt_true (t.left.y *ℤ m.w) m.y h));
              to_right = inr (no_way_back, ahead_of (t.right.y *ℤ m.w) m.y k);
            })

        lower_first : int_lt (t.right.y *ℤ m.w) m.y ≡ true → int_lt (t.left.y *ℤ m.w) m.y ≡ true
        lower_first h = true_lt (t.left.y *ℤ m.w) m.y (through (t.left.y *ℤ m.w) (t.right.y *ℤ m.w) m.y
            (less_times t.left.y t.right.y m.w hm (less_by t.left.y t.right.y steep)) (lt_true (t.right.y *ℤ m.w) m.y h))

        on_line_there : is_on t m ≡ differ (int_lt (t.left.y *ℤ m.w) m.y) (int_lt (t.right.y *ℤ m.w) m.y)
        on_line_there = between_signs (is_on t m) (int_lt (t.left.y *ℤ m.w) m.y) (int_lt (t.right.y *ℤ m.w) m.y) on_from on_to on_between lower_first

      upright_even : IsEven (λ t. is_below t m || is_on t m) (λ t. is_left_below t m) is_low t
      upright_even =
          ap (λ x. differ (is_below t m || is_on t m) (differ (is_left_below t m) (differ (is_low t.left) (int_eq x l && int_lt (t.right.y *ℤ m.w) m.y)))) (sym one_x)
          ∙ upright_signs (is_below t m) (is_on t m) (is_left_below t m) (int_eq t.left.x l) (int_lt (t.left.y *ℤ m.w) m.y) (int_lt (t.right.y *ℤ m.w) m.y)
          (ap (λ b. b && int_lt (pos 0) (height_over t m)) (over_by_whole t m l hm at_x ∙ never_over t.left.x t.right.x l one_x))
          (ap (λ b. b && int_lt (pos 0) (height_over t m)) (reach_by_whole t m l hm at_x ∙ never_reach t.left.x t.right.x l one_x))
          off_line on_line_there

    -- so each segment has an even number of the four signs
    is_even : IsEven (λ t. is_below t m || is_on t m) (λ t. is_left_below t m) is_low t
    is_even = by (leads t (proper_of t among).first) where
      by : Forward (width t) (rise t) → IsEven (λ t. is_below t m || is_on t m) (λ t. is_left_below t m) is_low t
      by (inl wide) = slanted_even wide
      by (inr h) = upright_even h.0 h.1

  -- the ends below the middle on its x lie in the column
  low_within : (v : WholePoint) → is_low v ≡ true → IsTrue (is_in_column input.column (whole v))
  low_within v h =
      let at : v.x ≡ l = (Decides-int_eq v.x l).0 (and_parts (int_eq v.x l) (int_lt (v.y *ℤ m.w) m.y) h).0 in
      let parts = and_parts (int_le (border input.column *ℤ p.w) p.x) (int_lt p.x (border (input.column + 1) *ℤ p.w)) is.begins in
      let from : p.x ≡ l *ℤ p.w = from_x input p r is.piece none up in
      let low : border input.column ≤ℤ l = most_back (border input.column) l p.w is.piece.from_positive
      (carried_le (border input.column *ℤ p.w) p.x (l *ℤ p.w) from (le_true (border input.column *ℤ p.w) p.x parts.0)) in
      let high : l <ℤ border (input.column + 1) = less_back l (border (input.column + 1)) p.w is.piece.from_positive
      (carried_lt p.x (l *ℤ p.w) (border (input.column + 1) *ℤ p.w) from (lt_true p.x (border (input.column + 1) *ℤ p.w) parts.1)) in
      and_from (int_le (border input.column *ℤ pos 1) v.x) (int_lt v.x (border (input.column + 1) *ℤ pos 1))
      (true_le (border input.column *ℤ pos 1) v.x (begin (border input.column) l v.x at low)) (true_lt v.x (border (input.column + 1) *ℤ pos 1) (close (border (input.column + 1)) l v.x at high))
    where
      carried_le : (a b c : ℤ) → b ≡ c → a ≤ℤ b → a ≤ℤ c
      carried_le a b c e h = omega (arith, ints)

      carried_lt : (a b c : ℤ) → a ≡ b → a <ℤ c → b <ℤ c
      carried_lt a b c e h = omega (arith, ints)

      begin : (b l x : ℤ) → x ≡ l → b ≤ℤ l → (b *ℤ pos 1) ≤ℤ x
      begin b l x e h = omega (arith, ints)

      close : (b l x : ℤ) → x ≡ l → l <ℤ b → x <ℤ (b *ℤ pos 1)
      close b l x e h = omega (arith, ints)

-- the over side of an upright piece
pub left_side : LeftSide
left_side input p r k valid is =
    count_alike_by_ends (λ t. is_below t (midpoint p r) || is_on t (midpoint p r)) (λ t. is_left_below t (midpoint p r)) (is_low input p r is valid) input.marked k
    (λ i d h. is_even input p r is valid (get_or input.marked i d).segment (all_in_map (λ m. m.segment) input.marked i d h))
    (λ v h. valid.even k v (low_within input p r is valid v h))
