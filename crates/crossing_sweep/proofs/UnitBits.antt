-- What lies up to a unit is what lies under it, changed by the segments over the unit.
use Rattle.std.proofs.Common.{◌≡◌, ℕ, ℤ, pos, ◌+◌, ◌%◌, ◌<◌, ◌==◌, ◌*ℤ◌, ◌<ℤ◌, inl, inr, ◌⊎◌, Bool, true, false, ◌&&◌, ◌||◌, refl, ap, sym, ◌∙◌, arith}
use Rattle.std.specs.Prelude.{IsTrue, Contains, count_by, get_or}
use Rattle.std.specs.Int.{bit_at}
use Rattle.std.specs.Int.RustNames.{bit_xor}
use Rattle.std.specs.Ordering.{int_eq}
use Rattle.std.proofs.lemmas.Bool.{and_parts, and_from}
use Rattle.std.proofs.lemmas.Bool.Decides.{nat_tests}
use Rattle.std.proofs.lemmas.Nat.Bits.{bit_at_xor, bit_at-lt}
use Rattle.std.proofs.lemmas.List.Elements.{All-contains, Contains-get_or}
use Rattle.std.proofs.Math.IntN.{*ℤ-zero, *ℤ_comm}
use Rattle.std.specs.declared.cmp.Ordering.TheVariants.{Less}
use Rattle.overlay_terms.specs.Plane.{WholePoint, Point, Segment, whole, point_cmp, height_over, is_on}
use Rattle.overlay_terms.specs.Layers.{layers_max, Marked}
use Rattle.overlay_terms.specs.TileLaws.{IsProper}
use Rattle.overlay_terms.specs.Trees.{mask_bits}
use Rattle.overlay_terms.proofs.ClosedRings.{bit}
use Rattle.overlay_terms.proofs.Tests.{same_tests}
use Rattle.overlay_terms.proofs.ClosedLayers.{count-map}
use Rattle.exact_point.specs.Crossing.{turn_of}
use Rattle.exact_point.proofs.Lines.{gap, flat_gap, on_first}
use Rattle.exact_point.proofs.OnLine.{after_left, before_right, within_on, on_line, left_on_line, right_on_line, parallel_line}
use Rattle.exact_point.proofs.PlaceOrder.{Way, before, at, after, way_of, one_positive, less_through, alike_right, level_from, level_test}
use Rattle.exact_point.proofs.Signs.{zero_factor}
use Rattle.tile_laws.proofs.Counts.{count_alike, count_both}
use Rattle.tile_laws.proofs.JustRight.{is_over_x, is_under, is_level}
use Rattle.tile_laws.proofs.UnderLemmas.{level_under}
use Rattle.arrange.specs.Units.{is_collinear, covers, cover_bits, IsUnit}
use Rattle.arrange.proofs.UnitLineLemmas.{whole_order, is_end_of}
use Rattle.crossing_sweep.specs.StripInput.{StripInput, IsStripInput}
use Rattle.crossing_sweep.specs.Leaning.{lean, lean_segment, IsSteep, IsSmall}
use Rattle.crossing_sweep.specs.Sides.{lean_marked}
use Rattle.crossing_sweep.specs.Queue.{IsAlong, GoesOn}
use Rattle.crossing_sweep.specs.Rows.{HasBits, is_one_of, under_unit, up_to_unit}
use Rattle.crossing_sweep.specs.RowLaws.{UnitChangesMasks}
use Rattle.crossing_sweep.proofs.UnitStretchLemmas.{proper_unit}
use Rattle.crossing_sweep.proofs.Lean.{lean_height, lean_turn}
use Rattle.crossing_sweep.proofs.Inputs.{steep_positive, fits}
use Rattle.crossing_sweep.proofs.MaskLemmas.{over_of, goes_on_of, level_of}
use Rattle.crossing_sweep.proofs.Passed.{not_after_before}

-- ---- parities
parity_sum : (a b : ℕ) → ((a + b) % 2 == 1) ≡ is_one_of (a % 2 == 1) (b % 2 == 1)
parity_sum a b = by (a % 2 == 1) refl (b % 2 == 1) refl
  where
    by : (s : Bool) → (a % 2 == 1) ≡ s → (t : Bool) → (b % 2 == 1) ≡ t → ((a + b) % 2 == 1) ≡ is_one_of (a % 2 == 1) (b % 2 == 1)
    by true e true f = let g : ((a + b) % 2 == 1) ≡ false = grind (arith, nat_tests) in rw (e, f, g) refl
    by true e false f = let g : ((a + b) % 2 == 1) ≡ true = grind (arith, nat_tests) in rw (e, f, g) refl
    by false e true f = let g : ((a + b) % 2 == 1) ≡ true = grind (arith, nat_tests) in rw (e, f, g) refl
    by false e false f = let g : ((a + b) % 2 == 1) ≡ false = grind (arith, nat_tests) in rw (e, f, g) refl

digit_parity : (x : ℕ) → x < 2 → (x == 1) ≡ (x % 2 == 1)
digit_parity x h = let e : x ≡ x % 2 = omega (arith, h) in ap (λ n. n == 1) e

-- a mask changed by another
pub changed_bit : (under mask k : ℕ) → mask_bits (bit_xor under mask) k ≡ is_one_of (mask_bits under k) (mask_bits mask k)
changed_bit under mask k =
    ap (λ n. n == 1) (bit_at_xor under mask k) ∙ parity_sum (bit_at under k) (bit_at mask k)
    ∙ ap (λ b. is_one_of b (bit_at mask k % 2 == 1)) (sym (digit_parity (bit_at under k) (bit_at-lt under k)))
    ∙ ap (λ b. is_one_of (bit_at under k == 1) b) (sym (digit_parity (bit_at mask k) (bit_at-lt mask k)))

-- one of two tests that are not both passed
one_of_two : (a o x y : Bool) → (o ≡ true → y ≡ true → x ≡ false) → bit (a && (o && (x || y))) ≡ bit (a && (o && x)) + bit (a && (o && y))
one_of_two true true true true h = absurd (differ (h refl refl))
  where
    differ : true ≡ false → ⊥
    differ e = cc
one_of_two true true true false h = refl
one_of_two true true false true h = refl
one_of_two true true false false h = refl
one_of_two true false x y h = refl
one_of_two false o x y h = refl

module _ (n : ℤ) (input : StripInput) (u : Segment) (q : Point) (steep : IsSteep n) (valid : IsStripInput input) (unit : IsUnit input.marked u) (proper_u : IsProper u) (small : IsSmall q) (goes : GoesOn u q) where
  hn : pos 0 <ℤ n
  hn = steep_positive n steep

  hq : pos 0 <ℤ q.w
  hq = small.positive

  abbrev lq : Point
  lq = lean n q

  abbrev u' : Segment
  u' = lean_segment n u

  over_u : is_over_x (lean_segment n u) (lean n q) ≡ true
  over_u = over_of n q steep small u proper_u goes

  -- ---- one segment
  module _ (m : Marked) (among : Contains input.marked m) where
    abbrev t : Segment
    t = m.segment

    abbrev t' : Segment
    t' = lean_segment n m.segment

    pt : IsProper m.segment
    pt = All-contains (λ m. IsProper m.segment) input.marked m valid.proper among

    module _ (over : is_over_x (lean_segment n m.segment) (lean n q) ≡ true) (level : is_level (lean_segment n m.segment) (lean_segment n u) (lean n q) ≡ true) where
      t_goes : GoesOn m.segment q
      t_goes = goes_on_of n q steep small m.segment pt over

      parts : (int_eq (gap t' u' (lean n q)) (pos 0) ≡ true) × (int_eq (turn_of t' u') (pos 0) ≡ true)
      parts = and_parts (int_eq (gap t' u' (lean n q)) (pos 0)) (int_eq (turn_of t' u') (pos 0)) level

      none' : turn_of t' u' ≡ pos 0
      none' = level_from (turn_of t' u') (pos 0) parts.1

      none : turn_of m.segment u ≡ pos 0
      none = zero_factor (turn_of m.segment u) n hn (*ℤ_comm (turn_of m.segment u) n ∙ sym (lean_turn n m.segment u) ∙ none')

      -- what the line of the unit holds, that of the segment holds
      on_t : (v : WholePoint) → height_over u (whole v) ≡ pos 0 → height_over m.segment (whole v) ≡ pos 0
      on_t v e =
          let no_gap : gap t' u' (lean n (whole v)) ≡ pos 0 = flat_gap t' u' (lean n q) (lean n (whole v)) hq none' (level_from (gap t' u' (lean n q)) (pos 0) parts.0) in
          let level_u : height_over u' (lean n (whole v)) ≡ pos 0 = lean_height n u (whole v) ∙ ap (λ z. n *ℤ z) e ∙ *ℤ-zero n in
          let level_t : height_over t' (lean n (whole v)) ≡ pos 0 = on_first t' u' (lean n (whole v)) (fits n u steep proper_u).wide level_u no_gap in
          zero_factor (height_over m.segment (whole v)) n hn (*ℤ_comm (height_over m.segment (whole v)) n ∙ sym (lean_height n m.segment (whole v)) ∙ level_t)

      -- and the other way round
      on_u : (v : WholePoint) → height_over m.segment (whole v) ≡ pos 0 → height_over u (whole v) ≡ pos 0
      on_u v e = parallel_line m.segment u (whole u.left) (whole v) pt.first none one_positive (on_t u.left (left_on_line u)) (left_on_line u) e

      collinear : is_collinear u m.segment ≡ true
      collinear =
          and_from (int_eq (height_over u (whole m.segment.left)) (pos 0)) (int_eq (height_over u (whole m.segment.right)) (pos 0))
          (level_test (height_over u (whole m.segment.left)) (pos 0) (on_u m.segment.left (left_on_line m.segment)))
          (level_test (height_over u (whole m.segment.right)) (pos 0) (on_u m.segment.right (right_on_line m.segment)))

      -- no end of the segment lies within the unit
      none_within : (v : WholePoint) → (v ≡ m.segment.left) ⊎ (v ≡ m.segment.right) → point_cmp (whole u.left) (whole v) ≡ Less → point_cmp (whole v) (whole u.right) ≡ Less → ⊥
      none_within v is low high =
          unit.none_between v (is_end_of input.marked u v (record { of = m; among = among; collinear = collinear; is = is })) (whole_order u.left v ∙ low) (whole_order v u.right ∙ high)

      on_left : IsTrue (is_on m.segment (whole u.left))
      on_left =
          within_on m.segment (whole u.left) one_positive (on_t u.left (left_on_line u))
          (λ h. none_within m.segment.left (inl refl) h (not_after_before (whole m.segment.left) q (whole u.right) one_positive hq one_positive t_goes.begun goes.lasting))
          (λ h. goes.begun (less_through q (whole m.segment.right) (whole u.left) hq one_positive one_positive t_goes.lasting h))

      on_right : IsTrue (is_on m.segment (whole u.right))
      on_right =
          within_on m.segment (whole u.right) one_positive (on_t u.right (right_on_line u))
          (λ h. t_goes.begun (less_through q (whole u.right) (whole m.segment.left) hq one_positive one_positive goes.lasting h))
          (λ h. none_within m.segment.right (inr refl) (not_after_before (whole u.left) q (whole m.segment.right) one_positive hq one_positive goes.begun t_goes.lasting) h)

      level_is_over : covers m.segment u ≡ true
      level_is_over = and_from (is_on m.segment (whole u.left)) (is_on m.segment (whole u.right)) on_left on_right

    module _ (cover : covers m.segment u ≡ true) where
      held : (is_on m.segment (whole u.left) ≡ true) × (is_on m.segment (whole u.right) ≡ true)
      held = and_parts (is_on m.segment (whole u.left)) (is_on m.segment (whole u.right)) cover

      along : IsAlong m.segment u
      along = record { left = on_line m.segment (whole u.left) held.0; right = on_line m.segment (whole u.right) held.1 }

      goes_too : GoesOn m.segment q
      goes_too = record {
        begun = λ h. after_left m.segment (whole u.left) held.0 (not_after_before (whole u.left) q (whole m.segment.left) one_positive hq one_positive goes.begun h);
        lasting = by (way_of (whole u.right) (whole m.segment.right) one_positive one_positive);
      }
        where
          by : Way (whole u.right) (whole m.segment.right) → point_cmp q (whole m.segment.right) ≡ Less
          by (before e) = less_through q (whole u.right) (whole m.segment.right) hq one_positive one_positive goes.lasting e
          by (at e) = sym (alike_right q (whole u.right) (whole m.segment.right) hq one_positive one_positive e) ∙ goes.lasting
          by (after e) = absurd (before_right m.segment (whole u.right) one_positive held.1 e)

      over_is_level : (is_over_x (lean_segment n m.segment) (lean n q) && is_level (lean_segment n m.segment) (lean_segment n u) (lean n q)) ≡ true
      over_is_level =
          and_from (is_over_x (lean_segment n m.segment) (lean n q)) (is_level (lean_segment n m.segment) (lean_segment n u) (lean n q))
          (over_of n q steep small m.segment pt goes_too) (level_of n q steep small m.segment u pt proper_u along)

    -- it is on the line of the unit just after the place exactly where it covers the unit
    level_covers : (is_over_x (lean_segment n m.segment) (lean n q) && is_level (lean_segment n m.segment) (lean_segment n u) (lean n q)) ≡ covers m.segment u
    level_covers =
        same_tests (is_over_x (lean_segment n m.segment) (lean n q) && is_level (lean_segment n m.segment) (lean_segment n u) (lean n q)) (covers m.segment u)
        (λ h. let both = and_parts (is_over_x (lean_segment n m.segment) (lean n q)) (is_level (lean_segment n m.segment) (lean_segment n u) (lean n q)) h in level_is_over both.0 both.1)
        over_is_level

  -- ---- all of them
  module _ (k : ℕ) where
    abbrev under_test : Marked → Bool
    under_test m = (m.layer == k) && (is_over_x m.segment (lean n q) && is_under m.segment (lean_segment n u) (lean n q))

    abbrev level_test_of : Marked → Bool
    level_test_of m = (m.layer == k) && (is_over_x m.segment (lean n q) && is_level m.segment (lean_segment n u) (lean n q))

    abbrev up_to_test : Marked → Bool
    up_to_test m = (m.layer == k) && (is_over_x m.segment (lean n q) && (is_under m.segment (lean_segment n u) (lean n q) || is_level m.segment (lean_segment n u) (lean n q)))

    in_two : count_by up_to_test (lean_marked n input.marked) ≡ count_by under_test (lean_marked n input.marked) + count_by level_test_of (lean_marked n input.marked)
    in_two =
        count_both up_to_test under_test level_test_of (lean_marked n input.marked)
        (λ m. one_of_two (m.layer == k) (is_over_x m.segment (lean n q)) (is_under m.segment (lean_segment n u) (lean n q)) (is_level m.segment (lean_segment n u) (lean n q))
        (λ o h. level_under (lean n q) hq m.segment (lean_segment n u) h))

    covering : count_by level_test_of (lean_marked n input.marked) ≡ count_by (λ m. (m.layer == k) && covers m.segment u) input.marked
    covering =
        count-map level_test_of (λ (m : Marked). let z : Marked = record { layer = m.layer; segment = lean_segment n m.segment } in z) input.marked
        ∙ count_alike (λ m. (m.layer == k) && (is_over_x (lean_segment n m.segment) (lean n q) && is_level (lean_segment n m.segment) (lean_segment n u) (lean n q))) (λ m. (m.layer == k) && covers m.segment u) input.marked
        (λ i d l. ap (λ b. ((get_or input.marked i d).layer == k) && b) (level_covers (get_or input.marked i d) (Contains-get_or input.marked i d l)))

    -- up to the unit is what is under it or over it
    pub unit_bits : up_to_unit n input u q k ≡ is_one_of (under_unit n input u q k) (cover_bits input.marked u k)
    unit_bits =
        ap (λ c. c % 2 == 1) (in_two ∙ ap (λ c. count_by under_test (lean_marked n input.marked) + c) covering)
        ∙ parity_sum (count_by under_test (lean_marked n input.marked)) (count_by (λ m. (m.layer == k) && covers m.segment u) input.marked)

  -- so a mask of what is under the unit, changed by the unit's, is one of what is up to it
  pub begun_bits : (under mask : ℕ) → HasBits under (under_unit n input u q) → ((k : ℕ) → k < layers_max → mask_bits mask k ≡ cover_bits input.marked u k) → HasBits (bit_xor under mask) (up_to_unit n input u q)
  begun_bits under mask is_under_mask is_mask k few =
      changed_bit under mask k
      ∙ ap (λ b. is_one_of b (mask_bits mask k)) (is_under_mask k few)
      ∙ ap (λ b. is_one_of (under_unit n input u q k) b) (is_mask k few)
      ∙ sym (unit_bits k)

pub unit_changes_masks : UnitChangesMasks
unit_changes_masks n input u q k steep valid unit small goes = unit_bits n input u q steep valid unit (proper_unit input valid u unit) small goes k
