-- The sides of a piece are carried along it in the leaned plane, whether it is upright or not.
use Rattle.std.proofs.Common.{◌≡◌, ℕ, ℤ, pos, ◌+◌, ◌%◌, ◌==◌, ◌^◌, ◌+ℤ◌, ◌*ℤ◌, ◌<ℤ◌, ◌≤ℤ◌, neg_ℤ, inl, true, false, List, [], ◌∷◌, get_or, refl, ap, sym, ◌∙◌, arith}
use Rattle.std.specs.Prelude.{Bool, IsTrue, All, Contains, int_lt, int_le, ◌&&◌, ◌||◌, not, map, count_by}
use Rattle.std.proofs.lemmas.Int.{ints, by_lt_z}
use Rattle.std.proofs.lemmas.Bool.{and_parts, and_from}
use Rattle.std.proofs.lemmas.List.Elements.{All-map, All-weaker, All-contains}
use Rattle.std.proofs.Math.IntN.{*ℤ-zero}
use Rattle.std.specs.declared.cmp.Ordering.TheVariants.{Less}
use Rattle.overlay_terms.specs.Plane.{WholePoint, Point, Segment, whole, point_cmp, height_over, is_on, is_below, coordinate_max}
use Rattle.overlay_terms.specs.Column.{border}
use Rattle.overlay_terms.specs.Layers.{Marked}
use Rattle.overlay_terms.specs.Tiles.{IsPiece, midpoint, below_bits, over_bits}
use Rattle.overlay_terms.specs.TileLaws.{IsProper}
use Rattle.overlay_terms.proofs.InputNumbers.{le_true, true_le, true_lt, middle_positive, x_in_order, in_order_by_x, least_through, less_middle, less_back, last_turned, most_times, twice_of}
use Rattle.crossing_sweep.proofs.StripLemmas.{IsIn, is_in, ends_within}
use Rattle.exact_point.proofs.OnLine.{after_left, before_right, on_line, less_from_forward, forward_from_less, middle_line, middle_after, middle_before}
use Rattle.exact_point.proofs.PlaceOrder.{one_positive, less_through, not_after_less, Way, after, alike_right, at, before, way_of}
use Rattle.exact_point.proofs.ByX.{Left, AtMost}
use Rattle.tile_laws.proofs.JustRight.{is_over_x, is_under, is_level, bits_where, under_bits, up_to_bits}
use Rattle.tile_laws.proofs.EvenRegion.{differ, odd}
use Rattle.tile_laws.proofs.SideStrip.{is_past, is_in_strip as lies_in_strip, strip_parity, past_true, past_false}
use Rattle.tile_laws.proofs.SideCount.{odd_count, odd_differ, odd_agree, odd_never, odd_ends}
use Rattle.tile_laws.proofs.SideRegion.{region_even, layered, alike_from}
use Rattle.tile_laws.proofs.SideLevel.{level_kept}
use Rattle.tile_laws.proofs.SideMiddle.{below_is_under, near_is_up_to}
use Rattle.tile_laws.proofs.SideBits.{all_in_map, up_to_split, bits_agree}
use Rattle.crossing_sweep.specs.StripInput.{StripInput, IsStripInput, is_in_strip, segments_in}
use Rattle.crossing_sweep.specs.Leaning.{lean, lean_whole, lean_segment, IsNear, IsSteep, IsSmall}
use Rattle.crossing_sweep.specs.Sides.{lean_marked, IsNodal, IsPassed, SidesAreCarried}
use Rattle.crossing_sweep.proofs.Lean.{lean_left, lean_height}
use Rattle.crossing_sweep.proofs.Meeting.{before_from_lean}
use Rattle.crossing_sweep.proofs.Keeping.{IsFit, Reaches}
use Rattle.crossing_sweep.proofs.Inputs.{steep_positive, near, fits, left_small, right_small, meeting_small, lean_at_most}
use Rattle.crossing_sweep.proofs.OnAlike.{on_alike, below_is_alike}
use Rattle.crossing_sweep.proofs.Beside.{IsBeside, stretch, apart, signs}
use Rattle.overlay_terms.proofs.Difference.{diff-neg, differences, same, split}

-- ---- counts over leaned segments
odd_map : {X Y : Type 0} → (f : Y → Bool) (g : X → Y) (xs : List X) → odd f (map g xs) ≡ odd (λ x. f (g x)) xs
odd_map f g [] = refl
odd_map f g (x ∷ xs) = ap (differ (f (g x))) (odd_map f g xs)

count_map : {X Y : Type 0} → (f : Y → Bool) (g : X → Y) (xs : List X) → (count_by f (map g xs) % 2 == 1) ≡ (count_by (λ x. f (g x)) xs % 2 == 1)
count_map f g xs = odd_count f (map g xs) ∙ odd_map f g xs ∙ sym (odd_count (λ x. f (g x)) xs)

-- ---- the middle of two places with denominators of at most 2^43
middle_few : (w v : ℤ) → pos 0 <ℤ w → pos 0 <ℤ v → w ≤ℤ pos (2 ^ 43) → v ≤ℤ pos (2 ^ 43) → (pos 2 *ℤ (w *ℤ v)) ≤ℤ pos (2 ^ 87)
middle_few w v hw hv h k =
    let first : (w *ℤ v) ≤ℤ (pos (2 ^ 43) *ℤ v) = most_times w (pos (2 ^ 43)) v hv h in
    omega (arith, ints, first, k)

mean_low_y : (y w z v m : ℤ) → pos 0 <ℤ w → pos 0 <ℤ v → neg_ℤ (m *ℤ w) ≤ℤ y → neg_ℤ (m *ℤ v) ≤ℤ z → neg_ℤ (m *ℤ (pos 2 *ℤ (w *ℤ v))) ≤ℤ ((y *ℤ v) +ℤ (z *ℤ w))
mean_low_y y w z v m hw hv h k =
    omega (arith, ints, most_times (neg_ℤ (m *ℤ w)) y v hv h, most_times (neg_ℤ (m *ℤ v)) z w hw k, spread m w v, one m w v, other m w v)
  where
    spread : (m w v : ℤ) → m *ℤ (pos 2 *ℤ (w *ℤ v)) ≡ ((m *ℤ w) *ℤ v) +ℤ ((m *ℤ w) *ℤ v)
    spread m w v = twice_of m w v ∙ ap (λ t. ((m *ℤ w) *ℤ v) +ℤ t) (last_turned m v w)

    one : (m w v : ℤ) → neg_ℤ (m *ℤ w) *ℤ v ≡ neg_ℤ ((m *ℤ w) *ℤ v)
    one m w v = negated (m *ℤ w) v
      where
        negated : (a b : ℤ) → neg_ℤ a *ℤ b ≡ neg_ℤ (a *ℤ b)
        negated a b = rw (split a, split b) (simp (diff-neg, differences) (same _ _ _ _ (omega arith)))

    other : (m w v : ℤ) → neg_ℤ (m *ℤ v) *ℤ w ≡ neg_ℤ ((m *ℤ w) *ℤ v)
    other m w v = one m v w ∙ ap neg_ℤ (last_turned m v w)

mean_high_y : (y w z v m : ℤ) → pos 0 <ℤ w → pos 0 <ℤ v → y ≤ℤ (m *ℤ w) → z ≤ℤ (m *ℤ v) → ((y *ℤ v) +ℤ (z *ℤ w)) ≤ℤ (m *ℤ (pos 2 *ℤ (w *ℤ v)))
mean_high_y y w z v m hw hv h k =
    omega (arith, ints, most_times y (m *ℤ w) v hv h, most_times z (m *ℤ v) w hw k, twice_of m w v)

middle_small : (p r : Point) → IsNodal p → IsNodal r → IsSmall (midpoint p r)
middle_small p r np nr = record {
  positive = middle_positive p r np.small.positive nr.small.positive;
  few = middle_few p.w r.w np.small.positive nr.small.positive np.few nr.few;
  low = mean_low_y p.y p.w r.y r.w (pos 2097152) np.small.positive nr.small.positive np.small.low nr.small.low;
  high = mean_high_y p.y p.w r.y r.w (pos 2097152) np.small.positive nr.small.positive np.small.high nr.small.high;
}

-- ---- tests of whole points
-- a whole point's y is within the coordinates
abbrev is_low : WholePoint → Bool
is_low e = int_le (neg_ℤ (pos coordinate_max)) e.y && int_le e.y (pos coordinate_max)

low_small : (e : WholePoint) → is_low e ≡ true → IsSmall (whole e)
low_small e h =
    let parts = and_parts (int_le (neg_ℤ (pos coordinate_max)) e.y) (int_le e.y (pos coordinate_max)) h in
    small e.x e.y (le_true (neg_ℤ (pos coordinate_max)) e.y parts.0) (le_true e.y (pos coordinate_max) parts.1)
  where
    small : (x y : ℤ) → neg_ℤ (pos coordinate_max) ≤ℤ y → y ≤ℤ pos coordinate_max → IsSmall (record { x = x; y = y; w = pos 1 })
    small x y l k = record { positive = omega (arith, ints); few = omega (arith, ints); low = omega (arith, ints, l); high = omega (arith, ints, k) }

guarded : (b c x : Bool) → b ≡ true → (c && x) ≡ (c && (b && x))
guarded b c x h = grind (arith, h)

module _ (n : ℤ) (input : StripInput) (p r : Point) (piece : IsPiece (segments_in input) p r) (steep : IsSteep n) (valid : IsStripInput input) (nodal_p : IsNodal p) (nodal_r : IsNodal r) (p_in : IsTrue (is_in_strip input.strip p)) where
  hn : pos 0 <ℤ n
  hn = steep_positive n steep

  proper : All IsProper (segments_in input)
  proper = All-map IsProper (λ m. m.segment) input.marked valid.proper

  proper_one : (t : Segment) → Contains (segments_in input) t → IsProper t
  proper_one t among = All-contains IsProper (segments_in input) t proper among

  abbrev s : Segment
  s = piece.support

  abbrev s' : Segment
  s' = lean_segment n piece.support

  fit : IsFit n piece.support
  fit = fits n piece.support steep (proper_one piece.support piece.among)

  reach : Reaches n piece.support p r
  reach = record {
    from = lean_at_most n (whole piece.support.left) p steep (left_small piece.support (proper_one piece.support piece.among)) nodal_p.small (after_left piece.support p piece.from_on);
    to = lean_at_most n r (whole piece.support.right) steep nodal_r.small (right_small piece.support (proper_one piece.support piece.among))
        (before_right piece.support r piece.to_positive piece.to_on);
  }

  ends_near : IsNear n p r
  ends_near = near n p r steep nodal_p.small nodal_r.small

  beside : (t : Segment) → Contains (segments_in input) t → IsBeside n piece.support t p r
  beside t among =
      let ps = proper_one piece.support piece.among in
      let pt = proper_one t among in
      record {
        fit = fits n t steep pt;
        left_near = (near n p (whole t.left) steep nodal_p.small (left_small t pt), near n (whole t.left) r steep (left_small t pt) nodal_r.small);
        right_near = (near n p (whole t.right) steep nodal_p.small (right_small t pt), near n (whole t.right) r steep (right_small t pt) nodal_r.small);
        meeting_near = λ left meets. (near n p _ steep nodal_p.small (meeting_small piece.support t ps pt left meets), near n _ r steep (meeting_small piece.support t ps pt left meets) nodal_r.small);
        back_near = λ left meets. (near n p _ steep nodal_p.small (meeting_small t piece.support pt ps left meets), near n _ r steep (meeting_small t piece.support pt ps left meets) nodal_r.small);
      }

  -- ---- between two places of the piece in the strip, the one before the other
  module _ (a b : Point) (small_a : IsSmall a) (small_b : IsSmall b) (from : point_cmp a p ≡ Less → ⊥) (less : point_cmp a b ≡ Less) (to : point_cmp b r ≡ Less) (a_in : IsTrue (is_in_strip input.strip a)) (b_in : IsTrue (is_in_strip input.strip b)) where
    begin : AtMost (lean n p) (lean n a)
    begin = lean_at_most n p a steep nodal_p.small small_a from

    later : Left (lean n a) (lean n b)
    later = lean_left n a b hn (near n a b steep small_a small_b) (forward_from_less a b less)

    end : Left (lean n b) (lean n r)
    end = lean_left n b r hn (near n b r steep small_b nodal_r.small) (forward_from_less b r to)

    signs_of : (t : Segment) → Contains (segments_in input) t → strip_parity s' (lean_segment n t) (lean n a) (lean n b) ≡ false
    signs_of t among = signs n hn (segments_in input) p r piece fit reach ends_near t among (beside t among) (lean n a) (lean n b) small_a.positive small_b.positive begin later end

    -- a whole point in the strip, with a small y
    abbrev is_there : WholePoint → Bool
    is_there e = is_low e && lies_in_strip s' (lean n a) (lean n b) (lean_whole n e)

    -- lies in the strip
    there_within : (e : WholePoint) → is_there e ≡ true → IsTrue (is_in_strip input.strip (whole e))
    there_within e h =
        let both = and_parts (is_low e) (lies_in_strip s' (lean n a) (lean n b) (lean_whole n e)) h in
        let past = and_parts (is_past (lean n a) (lean_whole n e)) (not (is_past (lean n b) (lean_whole n e)))
        (and_parts (is_past (lean n a) (lean_whole n e) && not (is_past (lean n b) (lean_whole n e))) (int_lt (height_over s' (whole (lean_whole n e))) (pos 0)) both.1).0 in
        let small : IsSmall (whole e) = low_small e both.0 in
        let after : point_cmp a (whole e) ≡ Less =
        less_from_forward a (whole e) (before_from_lean n a (whole e) hn (near n a (whole e) steep small_a small) (past_true (lean n a) (lean_whole n e) past.0)) in
        let not_after : point_cmp b (whole e) ≡ Less → ⊥ =
        λ k. not_both (lean n b) (lean n (whole e)) (lean_left n b (whole e) hn (near n b (whole e) steep small_b small)
        (forward_from_less b (whole e) k)) (past_false (lean n b) (lean_whole n e) (from_not (is_past (lean n b) (lean_whole n e)) past.1)) in
        let ia : IsIn input.strip a = is_in input.strip a small_a.positive a_in in
        let ib : IsIn input.strip b = is_in input.strip b small_b.positive b_in in
        and_from (int_le (border input.strip.first *ℤ pos 1) e.x) (int_lt e.x (border (input.strip.last + 1) *ℤ pos 1))
        (true_le (border input.strip.first *ℤ pos 1) e.x (least_through a (whole e) (border input.strip.first) small_a.positive one_positive (x_in_order a (whole e) after) ia.low))
        (true_lt e.x (border (input.strip.last + 1) *ℤ pos 1) (right_of e.x b.x b.w (border (input.strip.last + 1)) small_b.positive ib.high (not_right e b not_after)))
      where
        from_not : (b : Bool) → not b ≡ true → b ≡ false
        from_not b k = grind (arith, k)

        not_both : (u v : Point) → Left u v → AtMost v u → ⊥
        not_both u v l m = apart_by (u.x *ℤ v.w) (v.x *ℤ u.w) l m
          where
            apart_by : (x y : ℤ) → x <ℤ y → y ≤ℤ x → ⊥
            apart_by x y l m = omega (arith, ints, l, m)

        not_right : (e : WholePoint) (b : Point) → (point_cmp b (whole e) ≡ Less → ⊥) → (e.x *ℤ b.w) ≤ℤ (b.x *ℤ pos 1)
        not_right e b h = by_lt_z (b.x *ℤ pos 1) (e.x *ℤ b.w) (λ l. absurd (h (in_order_by_x b (whole e) l))) (λ l. l)

        right_of : (x y w c : ℤ) → pos 0 <ℤ w → y <ℤ (c *ℤ w) → (x *ℤ w) ≤ℤ (y *ℤ pos 1) → x <ℤ (c *ℤ pos 1)
        right_of x y w c hw l m = one_more x c (less_back x c w hw (before_it (x *ℤ w) y (c *ℤ w) m l))
          where
            before_it : (a b c : ℤ) → a ≤ℤ (b *ℤ pos 1) → b <ℤ c → a <ℤ c
            before_it a b c l m = omega (arith, ints, l, m)

            one_more : (a b : ℤ) → a <ℤ b → a <ℤ (b *ℤ pos 1)
            one_more a b l = omega (arith, ints, l)

    module _ (k : ℕ) where
      -- the four tests of a marked segment
      abbrev first : Marked → Bool
      first m = (m.layer == k) && (is_over_x (lean_segment n m.segment) (lean n a) && is_under (lean_segment n m.segment) s' (lean n a))

      abbrev second : Marked → Bool
      second m = (m.layer == k) && (is_over_x (lean_segment n m.segment) (lean n b) && is_under (lean_segment n m.segment) s' (lean n b))

      abbrev left_end : Marked → Bool
      left_end m = (m.layer == k) && lies_in_strip s' (lean n a) (lean n b) (lean_whole n m.segment.left)

      abbrev right_end : Marked → Bool
      right_end m = (m.layer == k) && lies_in_strip s' (lean n a) (lean n b) (lean_whole n m.segment.right)

      all_signs : All (λ m. strip_parity s' (lean_segment n m.segment) (lean n a) (lean n b) ≡ false) input.marked
      all_signs i d l = signs_of (get_or input.marked i d).segment (all_in_map (λ m. m.segment) input.marked i d l)

      all_four : differ (odd first input.marked) (differ (odd second input.marked) (differ (odd left_end input.marked) (odd right_end input.marked))) ≡ false
      all_four =
          sym (odd_differ first (λ m. differ (second m) (differ (left_end m) (right_end m))) input.marked
          ∙ ap (differ (odd first input.marked)) (odd_differ second (λ m. differ (left_end m) (right_end m)) input.marked)
          ∙ ap (λ b. differ (odd first input.marked) (differ (odd second input.marked) b)) (odd_differ left_end right_end input.marked))
          ∙ odd_never (λ m. differ (first m) (differ (second m) (differ (left_end m) (right_end m)))) input.marked
          (All-weaker (λ m. strip_parity s' (lean_segment n m.segment) (lean n a) (lean n b) ≡ false) (λ m. differ (first m) (differ (second m) (differ (left_end m) (right_end m))) ≡ false)
          (λ m h. layered (m.layer == k) (is_over_x (lean_segment n m.segment) (lean n a) && is_under (lean_segment n m.segment) s' (lean n a))
          (is_over_x (lean_segment n m.segment) (lean n b) && is_under (lean_segment n m.segment) s' (lean n b))
          (lies_in_strip s' (lean n a) (lean n b) (lean_whole n m.segment.left)) (lies_in_strip s' (lean n a) (lean n b) (lean_whole n m.segment.right)) h) input.marked all_signs)

      -- ends have a small y
      left_low : (m : Marked) → IsProper m.segment → is_low m.segment.left ≡ true
      left_low m pm = and_from (int_le (neg_ℤ (pos coordinate_max)) m.segment.left.y) (int_le m.segment.left.y (pos coordinate_max))
          (true_le (neg_ℤ (pos coordinate_max)) m.segment.left.y pm.left_y.0) (true_le m.segment.left.y (pos coordinate_max) pm.left_y.1)

      right_low : (m : Marked) → IsProper m.segment → is_low m.segment.right ≡ true
      right_low m pm = and_from (int_le (neg_ℤ (pos coordinate_max)) m.segment.right.y) (int_le m.segment.right.y (pos coordinate_max))
          (true_le (neg_ℤ (pos coordinate_max)) m.segment.right.y pm.right_y.0) (true_le m.segment.right.y (pos coordinate_max) pm.right_y.1)

      -- the ends in the strip are even in number
      ends_even : differ (odd left_end input.marked) (odd right_end input.marked) ≡ false
      ends_even =
          ap (λ b. differ b (odd right_end input.marked)) (odd_agree left_end (λ m. (m.layer == k) && is_there m.segment.left) input.marked
          (All-weaker (λ m. IsProper m.segment) (λ m. left_end m ≡ ((m.layer == k) && is_there m.segment.left))
          (λ m pm. guarded (is_low m.segment.left) (m.layer == k) (lies_in_strip s' (lean n a) (lean n b) (lean_whole n m.segment.left))
          (left_low m pm)) input.marked valid.proper))
          ∙ ap (differ (odd (λ m. (m.layer == k) && is_there m.segment.left) input.marked)) (odd_agree right_end (λ m. (m.layer == k) && is_there m.segment.right) input.marked
          (All-weaker (λ m. IsProper m.segment) (λ m. right_end m ≡ ((m.layer == k) && is_there m.segment.right))
          (λ m pm. guarded (is_low m.segment.right) (m.layer == k) (lies_in_strip s' (lean n a) (lean n b) (lean_whole n m.segment.right))
          (right_low m pm)) input.marked valid.proper))
          ∙ sym (odd_ends is_there k input.marked)
          ∙ region_even is_there k input.marked (λ e h. valid.even k e (there_within e h))

      -- the bits under the line
      pub under_constant : under_bits (lean_marked n input.marked) s' (lean n a) k ≡ under_bits (lean_marked n input.marked) s' (lean n b) k
      under_constant =
          odd_count (λ m. (m.layer == k) && (is_over_x m.segment (lean n a) && is_under m.segment s' (lean n a))) (lean_marked n input.marked)
          ∙ odd_map (λ (m : Marked). (m.layer == k) && (is_over_x m.segment (lean n a) && is_under m.segment s' (lean n a)))
          (λ (m : Marked). let z : Marked = record { layer = m.layer; segment = lean_segment n m.segment } in z) input.marked
          ∙ alike_from (odd first input.marked) (odd second input.marked) (differ (odd left_end input.marked) (odd right_end input.marked)) all_four ends_even
          ∙ sym (odd_map (λ (m : Marked). (m.layer == k) && (is_over_x m.segment (lean n b) && is_under m.segment s' (lean n b)))
          (λ (m : Marked). let z : Marked = record { layer = m.layer; segment = lean_segment n m.segment } in z) input.marked)
          ∙ sym (odd_count (λ m. (m.layer == k) && (is_over_x m.segment (lean n b) && is_under m.segment s' (lean n b))) (lean_marked n input.marked))

      -- the bits on the line
      level_constant : bits_where (λ t. is_level t s' (lean n a)) (lean_marked n input.marked) (lean n a) k ≡ bits_where (λ t. is_level t s' (lean n b)) (lean_marked n input.marked) (lean n b) k
      level_constant =
          count_map (λ (m : Marked). (m.layer == k) && (is_over_x m.segment (lean n a) && is_level m.segment s' (lean n a)))
          (λ (m : Marked). let z : Marked = record { layer = m.layer; segment = lean_segment n m.segment } in z) input.marked
          ∙ bits_agree (λ m. (m.layer == k) && (is_over_x (lean_segment n m.segment) (lean n a) && is_level (lean_segment n m.segment) s'
          (lean n a))) (λ m. (m.layer == k) && (is_over_x (lean_segment n m.segment) (lean n b) && is_level (lean_segment n m.segment) s'
          (lean n b))) input.marked
          (λ i d l. let m : Marked = get_or input.marked i d in
          let among : Contains (segments_in input) m.segment = all_in_map (λ m. m.segment) input.marked i d l in
          ap (λ b. (m.layer == k) && b)
          (level_kept s' (lean_segment n m.segment) (lean n p) (lean n r) (lean n a) (lean n b) (stretch n hn (segments_in input) p r piece fit reach ends_near)
          (apart n hn (segments_in input) p r piece fit reach ends_near m.segment among
          (beside m.segment among)) small_a.positive small_b.positive begin later end (inl (beside m.segment among).fit.wide)))
          ∙ sym (count_map (λ (m : Marked). (m.layer == k) && (is_over_x m.segment (lean n b) && is_level m.segment s' (lean n b)))
          (λ (m : Marked). let z : Marked = record { layer = m.layer; segment = lean_segment n m.segment } in z) input.marked)

      -- and both
      pub up_to_constant : up_to_bits (lean_marked n input.marked) s' (lean n a) k ≡ up_to_bits (lean_marked n input.marked) s' (lean n b) k
      up_to_constant =
          up_to_split (lean_marked n input.marked) s' (lean n a) k
          ∙ ap (λ b. differ b (bits_where (λ t. is_level t s' (lean n a)) (lean_marked n input.marked) (lean n a) k)) under_constant
          ∙ ap (differ (under_bits (lean_marked n input.marked) s' (lean n b) k)) level_constant
          ∙ sym (up_to_split (lean_marked n input.marked) s' (lean n b) k)

  -- ---- at the middle
  abbrev z : Point
  z = midpoint p r

  small_z : IsSmall (midpoint p r)
  small_z = middle_small p r nodal_p nodal_r

  after_p : point_cmp p (midpoint p r) ≡ Less
  after_p = middle_after p r piece.from_positive piece.in_order

  before_r : point_cmp (midpoint p r) r ≡ Less
  before_r = middle_before p r piece.to_positive piece.in_order

  z_in : IsTrue (is_in_strip input.strip (midpoint p r))
  z_in =
      let ip : IsIn input.strip p = is_in input.strip p piece.from_positive p_in in
      and_from (int_le (border input.strip.first *ℤ (midpoint p r).w) (midpoint p r).x) (int_lt (midpoint p r).x (border (input.strip.last + 1) *ℤ (midpoint p r).w))
      (true_le (border input.strip.first *ℤ (midpoint p r).w) (midpoint p r).x
      (least_through p (midpoint p r) (border input.strip.first) piece.from_positive small_z.positive (x_in_order p (midpoint p r) after_p) ip.low))
      (true_lt (midpoint p r).x (border (input.strip.last + 1) *ℤ (midpoint p r).w)
      (less_middle p r (border (input.strip.last + 1)) piece.from_positive piece.to_positive ip.high (ends_within input.strip (segments_in input) p r proper ip piece)))

  level_z : height_over s' (lean n (midpoint p r)) ≡ pos 0
  level_z = lean_height n piece.support (midpoint p r) ∙ ap (λ h. n *ℤ h) (middle_line piece.support p r (on_line piece.support p piece.from_on) (on_line piece.support r piece.to_on)) ∙ *ℤ-zero n

  left_z : Left (lean n p) (lean n (midpoint p r))
  left_z = lean_left n p (midpoint p r) hn (near n p (midpoint p r) steep nodal_p.small small_z) (forward_from_less p (midpoint p r) after_p)

  right_z : Left (lean n (midpoint p r)) (lean n r)
  right_z = lean_left n (midpoint p r) r hn (near n (midpoint p r) r steep small_z nodal_r.small) (forward_from_less (midpoint p r) r before_r)

  below_there : (k : ℕ) → below_bits input.marked (midpoint p r) k ≡ under_bits (lean_marked n input.marked) s' (lean n (midpoint p r)) k
  below_there k =
      bits_agree (λ m. (m.layer == k) && is_below m.segment (midpoint p r))
      (λ m. (m.layer == k) && (is_over_x (lean_segment n m.segment) (lean n (midpoint p r)) && is_under (lean_segment n m.segment) s'
      (lean n (midpoint p r)))) input.marked
      (λ i d l. let m : Marked = get_or input.marked i d in
      let among : Contains (segments_in input) m.segment = all_in_map (λ m. m.segment) input.marked i d l in
      ap (λ b. (m.layer == k) && b)
      (sym (below_is_alike n m.segment (midpoint p r) steep (valid.proper i d l) small_z)
      ∙ below_is_under s' (lean_segment n m.segment) (lean n p) (lean n r) (lean n (midpoint p r)) (stretch n hn (segments_in input) p r piece fit reach ends_near)
      (apart n hn (segments_in input) p r piece fit reach ends_near m.segment among (beside m.segment among)) small_z.positive left_z right_z level_z (inl (beside m.segment among).fit.wide)))
      ∙ sym (count_map (λ (m : Marked). (m.layer == k) && (is_over_x m.segment (lean n (midpoint p r)) && is_under m.segment s'
      (lean n (midpoint p r)))) (λ (m : Marked). let z : Marked = record { layer = m.layer; segment = lean_segment n m.segment } in z) input.marked)

  over_there : (k : ℕ) → over_bits input.marked (midpoint p r) k ≡ up_to_bits (lean_marked n input.marked) s' (lean n (midpoint p r)) k
  over_there k =
      bits_agree (λ m. (m.layer == k) && (is_below m.segment (midpoint p r) || is_on m.segment (midpoint p r)))
      (λ m. (m.layer == k) && (is_over_x (lean_segment n m.segment) (lean n (midpoint p r)) &&
      (is_under (lean_segment n m.segment) s' (lean n (midpoint p r)) || is_level (lean_segment n m.segment) s'
      (lean n (midpoint p r))))) input.marked
      (λ i d l. let m : Marked = get_or input.marked i d in
      let among : Contains (segments_in input) m.segment = all_in_map (λ m. m.segment) input.marked i d l in
      ap (λ b. (m.layer == k) && b)
      (ap (λ b. b || is_on m.segment (midpoint p r)) (sym (below_is_alike n m.segment (midpoint p r) steep (valid.proper i d l) small_z))
      ∙ ap (λ b. is_below (lean_segment n m.segment) (lean n (midpoint p r)) || b) (sym (on_alike n m.segment (midpoint p r) steep (valid.proper i d l) small_z))
      ∙ near_is_up_to s' (lean_segment n m.segment) (lean n p) (lean n r) (lean n (midpoint p r)) (stretch n hn (segments_in input) p r piece fit reach ends_near)
      (apart n hn (segments_in input) p r piece fit reach ends_near m.segment among (beside m.segment among)) small_z.positive left_z right_z level_z (inl (beside m.segment among).fit.wide)))
      ∙ sym (count_map (λ (m : Marked). (m.layer == k) && (is_over_x m.segment (lean n (midpoint p r)) &&
      (is_under m.segment s' (lean n (midpoint p r)) || is_level m.segment s' (lean n (midpoint p r)))))
      (λ (m : Marked). let z : Marked = record { layer = m.layer; segment = lean_segment n m.segment } in z) input.marked)

  -- ---- from the middle to any place that the piece passes in the strip
  module _ (q : Point) (passed : IsPassed input.strip p r q) (k : ℕ) where
    abbrev Alike : Type 0
    Alike =
        (under_bits (lean_marked n input.marked) s' (lean n (midpoint p r)) k ≡ under_bits (lean_marked n input.marked) s' (lean n q) k)
        × (up_to_bits (lean_marked n input.marked) s' (lean n (midpoint p r)) k ≡ up_to_bits (lean_marked n input.marked) s' (lean n q) k)

    -- both from the left end
    p_not_before : point_cmp p p ≡ Less → ⊥
    p_not_before h = not_after_less p p piece.from_positive piece.from_positive h h

    middle_not_before : point_cmp (midpoint p r) p ≡ Less → ⊥
    middle_not_before h = not_after_less p (midpoint p r) piece.from_positive small_z.positive after_p h

    from_left : (under_bits (lean_marked n input.marked) s' (lean n p) k ≡ under_bits (lean_marked n input.marked) s' (lean n (midpoint p r)) k)
        × (up_to_bits (lean_marked n input.marked) s' (lean n p) k ≡ up_to_bits (lean_marked n input.marked) s' (lean n (midpoint p r)) k)
    from_left = (
      under_constant p (midpoint p r) nodal_p.small small_z p_not_before after_p before_r p_in z_in k,
      up_to_constant p (midpoint p r) nodal_p.small small_z p_not_before after_p before_r p_in z_in k,
    )

    before_middle : point_cmp q (midpoint p r) ≡ Less → Alike
    before_middle h = (
      sym (under_constant q (midpoint p r) passed.small small_z passed.from h before_r passed.within z_in k),
      sym (up_to_constant q (midpoint p r) passed.small small_z passed.from h before_r passed.within z_in k),
    )

    after_left_end : point_cmp p q ≡ Less → Alike
    after_left_end h = (
      sym from_left.0 ∙ under_constant p q nodal_p.small passed.small p_not_before h passed.to p_in passed.within k,
      sym from_left.1 ∙ up_to_constant p q nodal_p.small passed.small p_not_before h passed.to p_in passed.within k,
    )

    alike : Way q (midpoint p r) → Alike
    alike (before h) = before_middle h
    alike (at h) = after_left_end (alike_right p q (midpoint p r) piece.from_positive passed.small.positive small_z.positive h ∙ after_p)
    alike (after h) = after_left_end (less_through p (midpoint p r) q piece.from_positive small_z.positive passed.small.positive after_p h)

    carried : (below_bits input.marked (midpoint p r) k ≡ under_bits (lean_marked n input.marked) s' (lean n q) k)
        × (over_bits input.marked (midpoint p r) k ≡ up_to_bits (lean_marked n input.marked) s' (lean n q) k)
    carried =
        let both : Alike = alike (way_of q (midpoint p r) passed.small.positive small_z.positive) in
        (below_there k ∙ both.0, over_there k ∙ both.1)

pub sides_are_carried : SidesAreCarried
sides_are_carried n input p r q piece k steep valid nodal_p nodal_r p_in passed = carried n input p r piece steep valid nodal_p nodal_r p_in q passed k
