-- A pass over a strip begins below all of its left border: what waits there is in order by the places where it is met.
use Rattle.std.proofs.Common.{◌≡◌, ℕ, ℤ, pos, neg_ℤ, ◌+◌, ◌<◌, ◌≤◌, ◌+ℤ◌, ◌-ℤ◌, ◌*ℤ◌, ◌<ℤ◌, ◌≤ℤ◌, inl, inr, ◌⊎◌, true, List, [], get_or, ap, sym, ◌∙◌, arith}
use Rattle.std.specs.Prelude.{IsTrue, All, Any, Contains}
use Rattle.std.proofs.lemmas.Int.{ints, by_lt_z}
use Rattle.std.proofs.lemmas.Bool.{both_ways}
use Rattle.std.proofs.lemmas.List.Elements.{All-contains, Contains-get_or}
use Rattle.std.proofs.lemmas.List.Kept.{AllPairs-filter}
use Rattle.std.proofs.Math.IntN.{*ℤ-zero, *ℤ_comm, zero-*ℤ}
use Rattle.std.specs.declared.cmp.Ordering.TheVariants.{Less}
use Rattle.overlay_terms.specs.Plane.{Point, Segment, whole, point_cmp, same_place, height_over, is_on, coordinate_max}
use Rattle.overlay_terms.specs.Column.{column_count, border}
use Rattle.overlay_terms.specs.Tiles.{is_node}
use Rattle.overlay_terms.specs.TileLaws.{IsProper}
use Rattle.overlay_terms.proofs.InputNumbers.{x_in_order, lt_true, true_lt}
use Rattle.overlay_terms.proofs.Difference.{mul_pos}
use Rattle.exact_point.specs.Crossing.{turn_of}
use Rattle.exact_point.proofs.ByX.{Left}
use Rattle.exact_point.proofs.Lexical.{Forward}
use Rattle.exact_point.proofs.Lines.{width, rise, line_height, gap, offset, gap_at, gap_form, heights_give_gap}
use Rattle.exact_point.proofs.Signs.{negative_times, zero_factor}
use Rattle.exact_point.proofs.OnLine.{on_line, less_from_forward, forward_from_less, before_right, no_turn_back}
use Rattle.exact_point.proofs.PlaceOrder.{Way, before, at, after, way_of, one_positive, less_through, not_after_less, not_before_through, not_before_self, same_turned, on_same, alike_right}
use Rattle.crossing_sweep.specs.StripInput.{Span}
use Rattle.crossing_sweep.specs.Leaning.{lean, lean_segment, IsSteep, IsSmall, IsAfter, IsBefore}
use Rattle.crossing_sweep.specs.Status.{IsStretchOf}
use Rattle.crossing_sweep.specs.Queue.{IsAlong, GoesOn, IsStatusAt, IsUpTo}
use Rattle.crossing_sweep.specs.Step.{AreStretches}
use Rattle.crossing_sweep.specs.Passing.{begins_left, waiting, IsToCome, IsAhead, HasCome, IsEntry}
use Rattle.crossing_sweep.specs.Beginning.{foot, IsMetBefore, AreMet, AreKnown, PassBegins}
use Rattle.crossing_sweep.proofs.Lean.{lean_left, lean_height, lean_turn}
use Rattle.crossing_sweep.proofs.Meeting.{meeting, before_from_lean}
use Rattle.crossing_sweep.proofs.Keeping.{Reaches, CrossNotBetween, kept, gap_most}
use Rattle.crossing_sweep.proofs.StretchLemmas.{ends_in_order}
use Rattle.overlay_terms.proofs.Lists.{any_from}
use Rattle.overlay_terms.proofs.Whole.{turn_back, less_none}
use Rattle.crossing_sweep.proofs.Inputs.{steep_positive, near, fits, left_small, right_small, meeting_small, lean_at_most}
use Rattle.crossing_sweep.proofs.OnProper.{y_on_proper}
use Rattle.crossing_sweep.proofs.NextNode.{LiesOn, lies_on, left_on}
use Rattle.crossing_sweep.proofs.PassLemmas.{waits_on, filter_contains, contains_filter, all_of}

-- ---- the place where it begins
foot_small : (strip : Span) → IsSmall (foot strip)
foot_small strip = record { positive = one_positive; few = search arith; low = omega (arith, ints); high = omega (arith, ints) }

-- a place of a proper segment from the left border on comes after it
pub after_foot : (strip : Span) (s : Segment) (z : Point) → IsProper s → pos 0 <ℤ z.w → IsTrue (is_on s z) → (border strip.first *ℤ z.w) ≤ℤ z.x → point_cmp (foot strip) z ≡ Less
after_foot strip s z proper hz on from =
    less_from_forward (foot strip) z (steps z.x z.y z.w (border strip.first) hz from (y_on_proper s z proper hz on).low)
  where
    steps : (x y w b : ℤ) → pos 0 <ℤ w → (b *ℤ w) ≤ℤ x → (neg_ℤ (pos coordinate_max) *ℤ w) ≤ℤ y → Forward ((x *ℤ pos 1) -ℤ (b *ℤ w)) ((y *ℤ pos 1) -ℤ (neg_ℤ (pos 2097152) *ℤ w))
    steps x y w b hw h k =
        by_lt_z (b *ℤ w) x (λ l. inl (omega (arith, ints, l)))
        (λ l. inr (omega (arith, ints, l, h), omega (arith, ints, k, hw)))

module _ (n : ℤ) (strip : Span) (steep : IsSteep n) where
  hn : pos 0 <ℤ n
  hn = steep_positive n steep

  -- what begins left of the strip and is met at the border goes on at the foot
  goes_on_foot : (u : Segment) (z : Point) → IsProper u → IsEntry strip u z → begins_left strip u ≡ true → GoesOn u (foot strip)
  goes_on_foot u z proper entry left = record {
    begun = λ h. not_left (border strip.first) u.left.x (lt_true u.left.x (border strip.first) left) (x_in_order (foot strip) (whole u.left) h);
    lasting = by (way_of z (whole u.right) entry.positive one_positive);
  }
    where
      not_left : (b l : ℤ) → l <ℤ b → (b *ℤ pos 1) ≤ℤ (l *ℤ pos 1) → ⊥
      not_left b l h k = omega (arith, ints, h, k)

      on_border : (x w b : ℤ) → x ≡ b *ℤ w → (b *ℤ w) ≤ℤ x
      on_border x w b e = omega (arith, ints, e)

      later : point_cmp (foot strip) z ≡ Less
      later = after_foot strip u z proper entry.positive entry.on (on_border z.x z.w (border strip.first) (entry.cut left))

      by : Way z (whole u.right) → point_cmp (foot strip) (whole u.right) ≡ Less
      by (before e) = less_through (foot strip) z (whole u.right) one_positive entry.positive one_positive later e
      by (at e) = sym (alike_right (foot strip) z (whole u.right) one_positive entry.positive one_positive e) ∙ later
      by (after e) = absurd (before_right u z entry.positive entry.on e)

  -- ---- two that wait at the border, one of which is met before the other
  module _ (a b : Segment) (proper_a : IsProper a) (proper_b : IsProper b) (met : IsMetBefore strip a b) (left_a : begins_left strip a ≡ true) (left_b : begins_left strip b ≡ true) where
    abbrev z : Point
    z = met.first

    hz : pos 0 <ℤ z.w
    hz = met.at_first.positive

    z_on_border : (border strip.first *ℤ z.w) ≤ℤ z.x
    z_on_border = level z.x (border strip.first *ℤ z.w) (met.at_first.cut left_a)
      where
        level : (x y : ℤ) → x ≡ y → y ≤ℤ x
        level x y e = omega (arith, ints, e)

    later : point_cmp (foot strip) z ≡ Less
    later = after_foot strip a z proper_a hz met.at_first.on z_on_border

    left_of : Left (lean n (foot strip)) (lean n z)
    left_of = lean_left n (foot strip) z hn (near n (foot strip) z steep (foot_small strip) met.small) (forward_from_less (foot strip) z later)

    -- both reach from the foot to the place where the first is met
    reaches_a : Reaches n a (foot strip) z
    reaches_a = record {
      from = lean_at_most n (whole a.left) (foot strip) steep (left_small a proper_a) (foot_small strip) (goes_on_foot a z proper_a met.at_first left_a).begun;
      to = lean_at_most n z (whole a.right) steep met.small (right_small a proper_a) (before_right a z hz met.at_first.on);
    }

    not_later : point_cmp met.second z ≡ Less → ⊥
    not_later h = by met.in_order
      where
        by : (point_cmp met.first met.second ≡ Less) ⊎ (IsTrue (same_place met.first met.second) × (pos 0 <ℤ turn_of b a)) → ⊥
        by (inl e) = not_after_less met.first met.second hz met.at_second.positive e h
        by (inr e) = not_before_self met.second met.first met.at_second.positive hz (same_turned met.first met.second e.0) h

    reaches_b : Reaches n b (foot strip) z
    reaches_b = record {
      from = lean_at_most n (whole b.left) (foot strip) steep (left_small b proper_b) (foot_small strip) (goes_on_foot b met.second proper_b met.at_second left_b).begun;
      to = lean_at_most n z (whole b.right) steep met.small (right_small b proper_b)
          (not_before_through (whole b.right) met.second z one_positive met.at_second.positive hz (before_right b met.second met.at_second.positive met.at_second.on) not_later);
    }

    -- no place of the first lies between
    none_between : (m : Point) → pos 0 <ℤ m.w → IsTrue (is_on a m) → point_cmp (foot strip) m ≡ Less → point_cmp m z ≡ Less → ⊥
    none_between m hm on after_it before_it =
        less_none (height_over a m) (waits_on strip m a proper_a hm z met.at_first before_it (from (x_in_order (foot strip) m after_it)) left_a).passes_over (on_line a m on)
      where
        from : (border strip.first *ℤ m.w) ≤ℤ (m.x *ℤ pos 1) → (border strip.first *ℤ m.w) ≤ℤ m.x
        from h = omega (arith, ints, h)

    meets_not : (m : Point) → pos 0 <ℤ m.w → IsSmall m → IsTrue (is_on a m) → Left (lean n (foot strip)) (lean n m) → Left (lean n m) (lean n z) → ⊥
    meets_not m hm small on after_it before_it =
        none_between m hm on (less_from_forward (foot strip) m (before_from_lean n (foot strip) m hn (near n (foot strip) m steep (foot_small strip) small) after_it))
        (less_from_forward m z (before_from_lean n m z hn (near n m z steep small met.small) before_it))

    apart : CrossNotBetween n a b (foot strip) z
    apart left meets after_it before_it = meets_not (meeting a b) left (meeting_small a b proper_a proper_b left meets) meets.at.on_first after_it before_it

    apart_back : CrossNotBetween n b a (foot strip) z
    apart_back left meets after_it before_it = meets_not (meeting b a) left (meeting_small b a proper_b proper_a left meets) meets.at.on_second after_it before_it

    -- ---- over the place where the first is met
    abbrev a' : Segment
    a' = lean_segment n a

    abbrev b' : Segment
    b' = lean_segment n b

    level_a : height_over a' (lean n z) ≡ pos 0
    level_a = lean_height n a z ∙ ap (λ h. n *ℤ h) (on_line a z met.at_first.on) ∙ *ℤ-zero n

    wide_a : pos 0 <ℤ width a'
    wide_a = (fits n a steep proper_a).wide

    -- where the other is met later, it stands above there
    gap_up : point_cmp met.first met.second ≡ Less → pos 0 <ℤ gap a' b' (lean n z)
    gap_up e = up (height_over a' (lean n z)) (height_over b' (lean n z)) (width a') (width b') (gap a' b' (lean n z)) (heights_give_gap a' b' (lean n z)) level_a low wide_a
      where
        plain : height_over b z <ℤ pos 0
        plain = (waits_on strip z b proper_b hz met.second met.at_second e z_on_border left_b).passes_over

        down : (n h g : ℤ) → pos 0 <ℤ n → h <ℤ pos 0 → g ≡ n *ℤ h → g <ℤ pos 0
        down n h g k l e = omega (arith, ints, e, *ℤ_comm n h, negative_times h n l k)

        low : height_over b' (lean n z) <ℤ pos 0
        low = down n (height_over b z) (height_over b' (lean n z)) hn plain (lean_height n b z)

        up : (h k d e g : ℤ) → (h *ℤ e) -ℤ (k *ℤ d) ≡ g → h ≡ pos 0 → k <ℤ pos 0 → pos 0 <ℤ d → pos 0 <ℤ g
        up h k d e g form zero less hd = omega (arith, ints, form, ap (λ z. z *ℤ e) zero, zero-*ℤ e, negative_times k d less hd)

    -- where both are met at one place, they are level there
    gap_none : IsTrue (same_place met.first met.second) → gap b' a' (lean n z) ≡ pos 0
    gap_none e = gap_at b' a' (lean n z) (lean_height n b z ∙ ap (λ h. n *ℤ h) (on_line b z (on_same b z met.second hz met.at_second.positive e ∙ met.at_second.on)) ∙ *ℤ-zero n) level_a

    opposite : (x y : ℤ) → pos 0 <ℤ (x -ℤ y) → pos 0 ≤ℤ (y -ℤ x) → ⊥
    opposite x y h k = omega (arith, ints, h, k)

    -- so the other is not under it at the foot
    not_under : IsAfter b' a' (lean n (foot strip)) → ⊥
    not_under under = by met.in_order before_z
      where
        before_z : IsBefore b' a' (lean n z)
        before_z = kept n hn (foot strip) z one_positive hz left_of b a (fits n b steep proper_b) (fits n a steep proper_a) reaches_b reaches_a apart_back apart under

        no_gap : (g : ℤ) → g ≡ pos 0 → pos 0 <ℤ g → ⊥
        no_gap g e h = omega (arith, ints, e, h)

        no_turn : (t g n : ℤ) → g ≡ n *ℤ t → pos 0 <ℤ n → pos 0 <ℤ t → g <ℤ pos 0 → ⊥
        no_turn t g n e hn h l = omega (arith, ints, e, l, mul_pos n t hn h)

        by : (point_cmp met.first met.second ≡ Less) ⊎ (IsTrue (same_place met.first met.second) × (pos 0 <ℤ turn_of b a)) → IsBefore b' a' (lean n z) → ⊥
        by (inl e) h = opposite (width a' *ℤ line_height b' (lean n z)) (width b' *ℤ line_height a' (lean n z)) (gap_up e) (gap_most b' a' (lean n z) h)
        by (inr e) (inl h) = no_gap (gap b' a' (lean n z)) (gap_none e.0) h
        by (inr e) (inr h) = no_turn (turn_of b a) (turn_of b' a') n (lean_turn n b a) hn e.1 h.1

    -- nor level with it
    not_level : gap a' b' (lean n (foot strip)) ≡ pos 0 → turn_of a' b' ≡ pos 0 → ⊥
    not_level none flat = by met.in_order
      where
        flat_gap : (t o x y v g h : ℤ) → t ≡ pos 0 → g ≡ (t *ℤ x) +ℤ (o *ℤ pos 1) → g ≡ pos 0 → h ≡ (t *ℤ y) +ℤ (o *ℤ v) → pos 0 <ℤ h → ⊥
        flat_gap t o x y v g h e f k l m =
            let tx : t *ℤ x ≡ pos 0 = ap (λ z. z *ℤ x) e ∙ zero-*ℤ x in
            let ty : t *ℤ y ≡ pos 0 = ap (λ z. z *ℤ y) e ∙ zero-*ℤ y in
            let none : o ≡ pos 0 = omega (arith, ints, f, k, tx) in
            let ov : o *ℤ v ≡ pos 0 = ap (λ z. z *ℤ v) none ∙ zero-*ℤ v in
            omega (arith, ints, l, m, ty, ov)

        no_turn : (t : ℤ) → t ≡ pos 0 → pos 0 <ℤ t → ⊥
        no_turn t e h = omega (arith, ints, e, h)

        plain : turn_of a b ≡ pos 0
        plain = zero_factor (turn_of a b) n hn (*ℤ_comm (turn_of a b) n ∙ sym (lean_turn n a b) ∙ flat)

        by : (point_cmp met.first met.second ≡ Less) ⊎ (IsTrue (same_place met.first met.second) × (pos 0 <ℤ turn_of b a)) → ⊥
        by (inl e) =
            flat_gap (turn_of a' b') (offset a' b') (lean n (foot strip)).x (lean n z).x z.w (gap a' b' (lean n (foot strip))) (gap a' b' (lean n z)) flat (gap_form a' b' (lean n (foot strip))) none
            (gap_form a' b' (lean n z)) (gap_up e)
        by (inr e) = no_turn (turn_of b a) (no_turn_back a b plain) e.1

    abbrev x : ℤ
    x = width a' *ℤ line_height b' (lean n (foot strip))

    abbrev y : ℤ
    y = width b' *ℤ line_height a' (lean n (foot strip))

    abbrev g : ℤ
    g = gap a' b' (lean n (foot strip))

    abbrev t : ℤ
    t = turn_of a' b'

    -- the first is under the other just after the foot
    in_order_at_foot : IsAfter a' b' (lean n (foot strip))
    in_order_at_foot = by_lt_z (pos 0) g (λ h. inl h) (λ h. by_lt_z g (pos 0) (λ l. absurd (not_under (inl (turned_gap x y l)))) (λ l. level (none_of g h l)))
      where
        turned_gap : (x y : ℤ) → (x -ℤ y) <ℤ pos 0 → pos 0 <ℤ (y -ℤ x)
        turned_gap x y h = omega (arith, ints, h)

        turned_none : (x y : ℤ) → x -ℤ y ≡ pos 0 → y -ℤ x ≡ pos 0
        turned_none x y h = omega (arith, ints, h)

        none_of : (g : ℤ) → g ≤ℤ pos 0 → pos 0 ≤ℤ g → g ≡ pos 0
        none_of g h k = omega (arith, ints, h, k)

        turned_turn : (t u : ℤ) → u ≡ neg_ℤ t → t <ℤ pos 0 → pos 0 <ℤ u
        turned_turn t u e h = omega (arith, ints, e, h)

        back : turn_of b' a' ≡ neg_ℤ (turn_of a' b')
        back = turn_back (width a') (rise a') (width b') (rise b')

        level : g ≡ pos 0 → IsAfter a' b' (lean n (foot strip))
        level e =
            by_lt_z (pos 0) t (λ k. inr (e, k))
            (λ k. by_lt_z t (pos 0) (λ m. absurd (not_under (inr (turned_none x y e, turned_turn t (turn_of b' a') back m)))) (λ m. absurd (not_level e (none_of t k m))))

module _ (n : ℤ) (segments units : List Segment) (strip : Span) (met : List Segment) (keys : List Point) (steep : IsSteep n) (proper : All IsProper segments) (are : AreStretches segments units)
    (in_order : strip.first ≤ strip.last) (is : AreMet strip units met) (known : AreKnown segments strip keys) where
  once : (a b : ℤ) → (a *ℤ pos 1) ≤ℤ (b *ℤ pos 1) → a ≤ℤ b
  once a b h = omega (arith, ints, h)

  stretch : (u : Segment) → Contains units u → IsStretchOf segments u
  stretch u c = All-contains (IsStretchOf segments) units u are.stretches c

  unit : (u : Segment) → Contains met u → Contains units u
  unit u c = All-contains (Contains units) met u is.among c

  entry : (u : Segment) → Contains met u → (z : Point) × IsEntry strip u z
  entry u c = All-contains (λ u. (z : Point) × IsEntry strip u z) met u is.entries c

  of_waiting : (u : Segment) → Contains (waiting strip met) u → Contains met u × (begins_left strip u ≡ true)
  of_waiting u c = filter_contains (begins_left strip) met u c

  -- a unit that does not begin left of the strip begins after the foot
  right_of_foot : (u : Segment) → Contains units u → border strip.first ≤ℤ u.left.x → point_cmp (foot strip) (whole u.left) ≡ Less
  right_of_foot u c h = after_foot strip u (whole u.left) (stretch u c).proper one_positive (left_on u (stretch u c).proper) (whole_from (border strip.first) u.left.x h)
    where
      whole_from : (b x : ℤ) → b ≤ℤ x → (b *ℤ pos 1) ≤ℤ x
      whole_from b x h = omega (arith, ints, h)

  -- the units that go on at the foot are those that wait
  members : (u : Segment) → Contains units u → GoesOn u (foot strip) → Contains (waiting strip met) u
  members u c goes = by_lt_z u.left.x (border strip.first) left (λ h. absurd (goes.begun (right_of_foot u c h)))
    where
      near : (l : ℤ) (j k : ℕ) → j ≤ k → l <ℤ border j → l ≤ℤ (border (k + 1) *ℤ pos 1)
      near l j k f h = omega (arith, ints, f, h)

      left : u.left.x <ℤ border strip.first → Contains (waiting strip met) u
      left h =
          contains_filter (begins_left strip) met u
          (is.complete u c (near u.left.x strip.first strip.last in_order h) (once (border strip.first) u.right.x (x_in_order (foot strip) (whole u.right) goes.lasting))) (true_lt u.left.x (border strip.first) h)

  goes_on : (u : Segment) → Contains (waiting strip met) u → GoesOn u (foot strip)
  goes_on u c =
      let parts = of_waiting u c in
      let e = entry u parts.0 in
      goes_on_foot n strip steep u e.0 (stretch u (unit u parts.0)).proper e.1 parts.1

  status : IsStatusAt n segments (foot strip) (waiting strip met)
  status = record {
    small = foot_small strip;
    stretches = all_of (IsStretchOf segments) (waiting strip met) (λ u c. stretch u (unit u (of_waiting u c).0));
    go_on = all_of (λ u. GoesOn u (foot strip)) (waiting strip met) goes_on;
    end_at_nodes = all_of (λ u. IsTrue (is_node segments (whole u.right))) (waiting strip met)
        (λ u c. All-contains (λ u. IsTrue (is_node segments (whole u.right))) units u are.right_nodes (unit u (of_waiting u c).0));
    ordered = λ i j d l m.
        let first = Contains-get_or (waiting strip met) i d (omega (arith, l, m)) in
        let second = Contains-get_or (waiting strip met) j d m in
        let a = of_waiting (get_or (waiting strip met) i d) first in
        let b = of_waiting (get_or (waiting strip met) j d) second in
        in_order_at_foot n strip steep (get_or (waiting strip met) i d) (get_or (waiting strip met) j d) (stretch _ (unit _ a.0)).proper (stretch _ (unit _ b.0)).proper
        (AllPairs-filter (λ a b. begins_left strip a ≡ true → begins_left strip b ≡ true → IsMetBefore strip a b) (begins_left strip) met is.ordered i j d l m a.1 b.1) a.1 b.1;
    covered = λ t among goes. there t (are.along t (foot strip) among one_positive goes);
  }
    where
      there : (t : Segment) → Any (λ u. IsAlong t u × GoesOn u (foot strip)) units → Any (IsAlong t) (waiting strip met)
      there t (i, u, l, e, h) = any_from (IsAlong t) (waiting strip met) u (members u (i, l, e) h.1) h.0

  to_come : (u : Segment) → Contains met u → IsToCome strip (foot strip) u
  to_come u c = record {
    waits = λ e. waits_on strip (foot strip) u (stretch u (unit u c)).proper one_positive (entry u c).0 (entry u c).1
        (after_foot strip u (entry u c).0 (stretch u (unit u c)).proper (entry u c).1.positive (entry u c).1.on (on_border (entry u c).0.x (entry u c).0.w (border strip.first) ((entry u c).1.cut e)))
        (self (border strip.first)) e;
    later = λ e. by_lt_z u.left.x (border strip.first) (λ h. absurd (both_ways (begins_left strip u) e (true_lt u.left.x (border strip.first) h))) (right_of_foot u (unit u c));
  }
    where
      on_border : (k w b : ℤ) → k ≡ b *ℤ w → (b *ℤ w) ≤ℤ k
      on_border k w b e = omega (arith, ints, e)

      self : (b : ℤ) → (b *ℤ pos 1) ≤ℤ b
      self b = omega (arith, ints)

  ahead : (z : Point) → Contains keys z → IsAhead segments strip (foot strip) z
  ahead z c = record {
    small = All-contains IsSmall keys z known.small c;
    node = node;
    after = after_foot strip held.segment z (All-contains IsProper segments held.segment proper held.among) hz held.on from;
    from = from;
    up_to = All-contains (IsUpTo strip) keys z known.up_to c;
  }
    where
      hz : pos 0 <ℤ z.w
      hz = (All-contains IsSmall keys z known.small c).positive

      node : IsTrue (is_node segments z)
      node = All-contains (λ z. IsTrue (is_node segments z)) keys z known.nodes c

      from : (border strip.first *ℤ z.w) ≤ℤ z.x
      from = All-contains (λ z. (border strip.first *ℤ z.w) ≤ℤ z.x) keys z known.from c

      held : LiesOn segments z
      held = lies_on segments proper z hz node

  begun : strip.first < column_count → HasCome n segments units strip (foot strip) [] met keys
  begun few = record {
    few = few;
    full = record {
      status_at = status;
      among = all_of (Contains units) (waiting strip met) (λ u c. unit u (of_waiting u c).0);
      members = members;
    };
    coming = all_of (IsToCome strip (foot strip)) met to_come;
    among = is.among;
    complete = λ u c later up_to. is.complete u c up_to (reach u c (once (border strip.first) u.left.x (x_in_order (foot strip) (whole u.left) later)));
    queue = record {
      fixed = λ p hp fixed later up_to. known.fixed p hp fixed (from p (x_in_order (foot strip) p later)) up_to;
      seams = λ i d p l. absurd (omega (arith, l));
    };
    ahead = all_of (IsAhead segments strip (foot strip)) keys ahead;
  }
    where
      from : (p : Point) → (border strip.first *ℤ p.w) ≤ℤ (p.x *ℤ pos 1) → (border strip.first *ℤ p.w) ≤ℤ p.x
      from p h = omega (arith, ints, h)

      reach : (u : Segment) → Contains units u → border strip.first ≤ℤ u.left.x → border strip.first ≤ℤ u.right.x
      reach u c h = through (border strip.first) u.left.x u.right.x h (x_in_order (whole u.left) (whole u.right) (ends_in_order u (stretch u c).proper.first))
        where
          through : (b l r : ℤ) → b ≤ℤ l → (l *ℤ pos 1) ≤ℤ (r *ℤ pos 1) → b ≤ℤ r
          through b l r h k = omega (arith, ints, h, k)

pub pass_begins : PassBegins
pass_begins n segments units strip met keys steep proper are in_order few is known = begun n segments units strip met keys steep proper are in_order is known few
