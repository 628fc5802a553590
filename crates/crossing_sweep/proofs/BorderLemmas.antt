-- Where a stretch waits at the left border, the next node lies on it: the place where the stretch enters is no later.
use Rattle.std.proofs.Common.{◌≡◌, ℕ, ℤ, pos, ◌<◌, ◌-ℤ◌, ◌*ℤ◌, ◌<ℤ◌, ◌≤ℤ◌, inl, inr, ◌⊎◌, true, false, List, [], ◌∷◌, refl, ap, subst, arith}
use Rattle.std.specs.Prelude.{IsTrue, All, ◌&&◌, ◌||◌, not, Contains}
use Rattle.std.specs.List.{list_any}
use Rattle.std.specs.Ordering.{int_eq}
use Rattle.std.specs.declared.cmp.Ordering.TheVariants.{Less}
use Rattle.std.proofs.lemmas.Int.{ints, by_lt_z}
use Rattle.std.proofs.lemmas.Bool.{and_parts, and_from, or_cases, or_left, or_right, both_ways, not-true, not_from_false, false_from_ne_true}
use Rattle.std.proofs.lemmas.Bool.Decides.{Decides-int_eq}
use Rattle.std.proofs.lemmas.List.{append-nil}
use Rattle.std.proofs.lemmas.List.Folds.{Any-from_list_any}
use Rattle.std.proofs.lemmas.List.Elements.{All-head}
use Rattle.std.proofs.Math.IntN.{*ℤ-zero, zero-*ℤ, *ℤ_comm}
use Rattle.overlay_terms.specs.Plane.{Point, Segment, whole, point_cmp, height_over, is_on}
use Rattle.overlay_terms.specs.Column.{column_count, columns, border}
use Rattle.overlay_terms.specs.Tiles.{is_parallel, is_vertical, is_end, is_crossing, is_on_border, is_node}
use Rattle.overlay_terms.specs.TileLaws.{IsProper}
use Rattle.overlay_terms.proofs.InputLists.{any_from_Contains}
use Rattle.overlay_terms.proofs.InputNumbers.{x_in_order, in_order_by_x, border_found, point_over, on_point_over, last_turned, less_times, most_back}
use Rattle.overlay_terms.proofs.InputNodes.{border_node}
use Rattle.overlay_terms.proofs.Lists.{any_contains}
use Rattle.exact_point.proofs.Lines.{width, rise}
use Rattle.exact_point.proofs.Signs.{negative_times, not_negative_times}
use Rattle.exact_point.proofs.Nodes.{wide_too}
use Rattle.exact_point.proofs.OnLine.{on_line, way_up, less_from_forward, no_turn_back}
use Rattle.exact_point.proofs.PlaceOrder.{one_positive, level_from}
use Rattle.tile_laws.proofs.Ranks.{Told, yes, no, told}
use Rattle.crossing_sweep.specs.StripInput.{Span}
use Rattle.crossing_sweep.specs.Leaning.{IsSteep}
use Rattle.crossing_sweep.specs.Status.{IsStretchOf}
use Rattle.crossing_sweep.specs.NextNode.{IsNextNode}
use Rattle.crossing_sweep.specs.Queue.{GoesOn, IsStatusAt, IsUpTo, IsQueued}
use Rattle.crossing_sweep.specs.Border.{IsWaiting, HasEntered, NextIsQueuedAtBorder, FirstIsNextAtBorder}
use Rattle.crossing_sweep.proofs.StretchLemmas.{holder_holds, no_turn}
use Rattle.overlay_terms.proofs.Pairs.{all_second}
use Rattle.crossing_sweep.proofs.QueueLemmas.{queued, first_from}

-- a node over the left border, after a place of it
record Entry (segments : List Segment) (strip : Span) (q : Point) : Type 0 where
  pub place : Point
  pub positive : pos 0 <ℤ place.w
  pub node : IsTrue (is_node segments place)
  pub after_q : point_cmp q place ≡ Less
  pub over : place.x ≡ border strip.first *ℤ place.w

module _ (segments : List Segment) (strip : Span) (few : strip.first < column_count) (q : Point) (hq : pos 0 <ℤ q.w) (u : Segment) (is : IsStretchOf segments u) (goes : GoesOn u q) (ends : IsTrue (is_node segments (whole u.right))) (wait : IsWaiting strip q u) where
  -- it ends on the border
  at_end : u.right.x ≤ℤ border strip.first → Entry segments strip q
  at_end h = record {
    place = whole u.right;
    positive = one_positive;
    node = ends;
    after_q = goes.lasting;
    over = level u.right.x (border strip.first) h (not_left u.right.x q.x q.w (border strip.first) hq wait.on_border (x_in_order q (whole u.right) goes.lasting));
  }
    where
      not_left : (x y w b : ℤ) → pos 0 <ℤ w → y ≡ b *ℤ w → (y *ℤ pos 1) ≤ℤ (x *ℤ w) → b ≤ℤ x
      not_left x y w b hw e h = by_lt_z x b (λ l. absurd (less y w x b e h (less_times x b w hw l))) (λ l. l)
        where
          less : (y w x b : ℤ) → y ≡ b *ℤ w → (y *ℤ pos 1) ≤ℤ (x *ℤ w) → (x *ℤ w) <ℤ (b *ℤ w) → ⊥
          less y w x b e h k = omega (arith, ints, e, h, k)

      level : (x b : ℤ) → x ≤ℤ b → b ≤ℤ x → x ≡ b *ℤ pos 1
      level x b h k = omega (arith, ints, h, k)

  -- it crosses the border
  at_cut : border strip.first <ℤ u.right.x → Entry segments strip q
  at_cut h = record {
    place = point_over u (border strip.first);
    positive = wide;
    node = border_node segments is.holder strip.first (point_over u (border strip.first)) few refl (holder_holds segments u is (point_over u (border strip.first)) wide on) slanted is.among;
    after_q = less_from_forward q (point_over u (border strip.first)) (inr (level, up));
    over = refl;
  }
    where
      wide_of : (l r b : ℤ) → l <ℤ b → b <ℤ r → pos 0 <ℤ (r -ℤ l)
      wide_of l r b h k = omega (arith, ints, h, k)

      wide : pos 0 <ℤ (u.right.x -ℤ u.left.x)
      wide = wide_of u.left.x u.right.x (border strip.first) wait.begins_left h

      on : IsTrue (is_on u (point_over u (border strip.first)))
      on = on_point_over u (border strip.first) wait.begins_left h

      not_level : (l r : ℤ) → pos 0 <ℤ (r -ℤ l) → int_eq l r ≡ false
      not_level l r h = false_from_ne_true (int_eq l r) (λ e. no_way l r h (level_from l r e))
        where
          no_way : (l r : ℤ) → pos 0 <ℤ (r -ℤ l) → l ≡ r → ⊥
          no_way l r h e = omega (arith, ints, h, e)

      slanted : is.holder.left.x <ℤ is.holder.right.x
      slanted = wide_too is.holder u is.held_by.first (no_turn_back u is.holder (no_turn segments u is)) (not_level u.left.x u.right.x wide)

      level : ((point_over u (border strip.first)).x *ℤ q.w) -ℤ (q.x *ℤ (point_over u (border strip.first)).w) ≡ pos 0
      level = same_x (border strip.first) q.x q.w (u.right.x -ℤ u.left.x) wait.on_border
        where
          same_x : (b x w d : ℤ) → x ≡ b *ℤ w → ((b *ℤ d) *ℤ w) -ℤ (x *ℤ d) ≡ pos 0
          same_x b x w d e = omega (arith, ints, ap (λ z. z *ℤ d) e, last_turned b d w)

      -- the way from the place up to q falls
      falls : (width u *ℤ ((q.y *ℤ (point_over u (border strip.first)).w) -ℤ ((point_over u (border strip.first)).y *ℤ q.w))) <ℤ pos 0
      falls =
          down (width u) ((q.y *ℤ (point_over u (border strip.first)).w) -ℤ ((point_over u (border strip.first)).y *ℤ q.w)) (rise u) ((q.x *ℤ (point_over u (border strip.first)).w) -ℤ ((point_over u (border strip.first)).x *ℤ q.w)) ((point_over u (border strip.first)).w *ℤ height_over u q)
          (way_up u (point_over u (border strip.first)) q (on_line u (point_over u (border strip.first)) on)) (turned ((point_over u (border strip.first)).x *ℤ q.w) (q.x *ℤ (point_over u (border strip.first)).w) level) (less_product ((point_over u (border strip.first)).w) (height_over u q) wide wait.passes_over)
        where
          turned : (a b : ℤ) → a -ℤ b ≡ pos 0 → b -ℤ a ≡ pos 0
          turned a b e = omega (arith, ints, e)

          less_product : (w h : ℤ) → pos 0 <ℤ w → h <ℤ pos 0 → (w *ℤ h) <ℤ pos 0
          less_product w h hw l = omega (arith, ints, *ℤ_comm w h, negative_times h w l hw)

          down : (d y e x z : ℤ) → (d *ℤ y) -ℤ (e *ℤ x) ≡ z → x ≡ pos 0 → z <ℤ pos 0 → (d *ℤ y) <ℤ pos 0
          down d y e x z f g h = omega (arith, ints, f, h, ap (λ t. e *ℤ t) g, *ℤ-zero e)

      up : pos 0 <ℤ (((point_over u (border strip.first)).y *ℤ q.w) -ℤ (q.y *ℤ (point_over u (border strip.first)).w))
      up = rising (width u) ((q.y *ℤ (point_over u (border strip.first)).w)) ((point_over u (border strip.first)).y *ℤ q.w) wide falls
        where
          rising : (d a b : ℤ) → pos 0 <ℤ d → (d *ℤ (a -ℤ b)) <ℤ pos 0 → pos 0 <ℤ (b -ℤ a)
          rising d a b hd h =
              by_lt_z a b (λ l. omega (arith, ints, l))
              (λ l. absurd (omega (arith, ints, h, *ℤ_comm d (a -ℤ b), not_negative_times (a -ℤ b) d (apart_from a b l) hd)))
            where
              apart_from : (a b : ℤ) → b ≤ℤ a → pos 0 ≤ℤ (a -ℤ b)
              apart_from a b l = omega (arith, ints, l)

  -- in either case a node over the border comes after the place
  entry : Entry segments strip q
  entry = by_lt_z (border strip.first) u.right.x at_cut at_end

  -- so the next node is on the border, or it is none
  not_right : (r : Point) → IsNextNode segments q r → (border strip.first *ℤ r.w) <ℤ r.x → ⊥
  not_right r next right =
      next.clear entry.place entry.positive entry.node entry.after_q
      (in_order_by_x entry.place r (right_of entry.place.x (border strip.first) entry.place.w r.w r.x entry.over (less_times (border strip.first *ℤ r.w) r.x entry.place.w entry.positive right)))
    where
      right_of : (x b w v y : ℤ) → x ≡ b *ℤ w → ((b *ℤ v) *ℤ w) <ℤ (y *ℤ w) → (x *ℤ v) <ℤ (y *ℤ w)
      right_of x b w v y e h = omega (arith, ints, h, ap (λ z. z *ℤ v) e, last_turned b w v)

-- of two segments that are not parallel one is not vertical
one_slanted : (s t : Segment) → is_parallel s t ≡ false → (is_vertical s ≡ false) ⊎ (is_vertical t ≡ false)
one_slanted s t np = by (told (is_vertical s)) (told (is_vertical t))
  where
    flat : (a b c d : ℤ) → a ≡ pos 0 → c ≡ pos 0 → a *ℤ d ≡ b *ℤ c
    flat a b c d e f = omega (arith, ints, ap (λ z. z *ℤ d) e, zero-*ℤ d, ap (λ z. b *ℤ z) f, *ℤ-zero b)

    no_width : (l r : ℤ) → int_eq l r ≡ true → r -ℤ l ≡ pos 0
    no_width l r e = let f : l ≡ r = level_from l r e in omega (arith, ints, f)

    by : Told (is_vertical s) → Told (is_vertical t) → (is_vertical s ≡ false) ⊎ (is_vertical t ≡ false)
    by (no e) h = inl e
    by (yes e) (no f) = inr f
    by (yes e) (yes f) =
        absurd (both_ways (is_parallel s t) np ((Decides-int_eq (width s *ℤ rise t) (rise s *ℤ width t)).1 (flat (width s) (rise s) (width t) (rise t) (no_width s.left.x s.right.x e) (no_width t.left.x t.right.x f))))

-- a crossing over the left border is a border place
border_crossing : (segments : List Segment) (k : ℕ) (r : Point) → k < column_count → is_crossing segments r ≡ true → r.x ≡ border k *ℤ r.w → is_on_border segments r ≡ true
border_crossing segments k r few e over =
    let first = Any-from_list_any (λ t. is_on t r && list_any (λ u. is_on u r && not (is_parallel t u)) segments) segments e in
    let tests = and_parts (is_on first.1 r) (list_any (λ u. is_on u r && not (is_parallel first.1 u)) segments) first.4 in
    let second = Any-from_list_any (λ u. is_on u r && not (is_parallel first.1 u)) segments tests.1 in
    let more = and_parts (is_on second.1 r) (not (is_parallel first.1 second.1)) second.4 in
    which first.1 second.1 (any_contains (λ t. IsTrue (is_on t r && list_any (λ u. is_on u r && not (is_parallel t u)) segments)) segments first)
    (any_contains (λ u. IsTrue (is_on u r && not (is_parallel first.1 u))) segments second) tests.0 more.0 (one_slanted first.1 second.1 (not-true _ more.1))
  where
    on_border : (s : Segment) → Contains segments s → is_on s r ≡ true → is_vertical s ≡ false → is_on_border segments r ≡ true
    on_border s among on slanted =
        and_from (list_any (λ j. int_eq r.x (border j *ℤ r.w)) columns) (list_any (λ s. is_on s r && not (is_vertical s)) segments) (border_found k r few over)
        (any_from_Contains (λ s. is_on s r && not (is_vertical s)) segments s among (and_from (is_on s r) (not (is_vertical s)) on (not_from_false (is_vertical s) slanted)))

    which : (s t : Segment) → Contains segments s → Contains segments t → is_on s r ≡ true → is_on t r ≡ true → (is_vertical s ≡ false) ⊎ (is_vertical t ≡ false) → is_on_border segments r ≡ true
    which s t among_s among_t on_s on_t (inl h) = on_border s among_s on_s h
    which s t among_s among_t on_s on_t (inr h) = on_border t among_t on_t h

-- a node over a border is an end or a border place
pub fixed_on_border : (segments : List Segment) (column : ℕ) (r : Point) → column < column_count → IsTrue (is_node segments r) → r.x ≡ border column *ℤ r.w → IsTrue (is_end segments r || is_on_border segments r)
fixed_on_border segments column r few node over = by (or_cases (is_end segments r || is_crossing segments r) (is_on_border segments r) node)
  where
    by_two : (is_end segments r ≡ true) ⊎ (is_crossing segments r ≡ true) → IsTrue (is_end segments r || is_on_border segments r)
    by_two (inl e) = or_left (is_end segments r) (is_on_border segments r) e
    by_two (inr k) = or_right (is_end segments r) (is_on_border segments r) (border_crossing segments column r few k over)

    by : ((is_end segments r || is_crossing segments r) ≡ true) ⊎ (is_on_border segments r ≡ true) → IsTrue (is_end segments r || is_on_border segments r)
    by (inl e) = by_two e'
      where
        e' : (is_end segments r ≡ true) ⊎ (is_crossing segments r ≡ true)
        e' = or_cases (is_end segments r) (is_crossing segments r) e
    by (inr e) = or_right (is_end segments r) (is_on_border segments r) e

-- a next node that is no border place lies right of the border
right_of_border : (segments : List Segment) (strip : Span) (q r : Point) → strip.first < column_count → pos 0 <ℤ q.w → q.x ≡ border strip.first *ℤ q.w → IsNextNode segments q r → is_crossing segments r ≡ true → is_on_border segments r ≡ false → (border strip.first *ℤ r.w) <ℤ r.x
right_of_border segments strip q r few hq on_it next crossing no_border =
    by_lt_z (border strip.first *ℤ r.w) r.x (λ l. l)
    (λ l. absurd (both_ways (is_on_border segments r) no_border (border_crossing segments strip.first r few crossing (level (border strip.first *ℤ r.w) r.x l (not_left (border strip.first) q.x q.w r.x r.w hq on_it (x_in_order q r next.after))))))
  where
    level : (b x : ℤ) → x ≤ℤ b → b ≤ℤ x → x ≡ b
    level b x h k = omega (arith, ints, h, k)

    not_left : (b x w y v : ℤ) → pos 0 <ℤ w → x ≡ b *ℤ w → (x *ℤ v) ≤ℤ (y *ℤ w) → (b *ℤ v) ≤ℤ y
    not_left b x w y v hw e h = most_back (b *ℤ v) y w hw (most b x w y v e h)
      where
        most : (b x w y v : ℤ) → x ≡ b *ℤ w → (x *ℤ v) ≤ℤ (y *ℤ w) → ((b *ℤ v) *ℤ w) ≤ℤ (y *ℤ w)
        most b x w y v e h = omega (arith, ints, h, ap (λ z. z *ℤ v) e, last_turned b w v)

module _ (n : ℤ) (segments : List Segment) (strip : Span) (q r : Point) (entered : List Segment) (keys : List Point) (steep : IsSteep n) (proper : All IsProper segments) (next : IsNextNode segments q r) (up_to : IsUpTo strip r) where
  by_waiting : (waiting : List Segment) → HasEntered n segments strip q entered waiting keys → IsQueued keys r
  by_waiting [] has =
      let P : List Segment → Type 0 = λ s. IsStatusAt n segments q s in
      queued n segments q r entered steep proper (subst P (append-nil entered) has.status_at) next strip keys has.queue up_to
  by_waiting (w ∷ ws) has = by (or_cases (is_end segments r || is_crossing segments r) (is_on_border segments r) next.node)
    where
      fixed : (is_end segments r || is_on_border segments r) ≡ true → IsQueued keys r
      fixed h = has.queue.fixed r next.small.positive h next.after up_to

      wait : IsWaiting strip q w
      wait = All-head (IsWaiting strip q) w ws has.wait

      crossing : is_crossing segments r ≡ true → Told (is_on_border segments r) → IsQueued keys r
      crossing k (yes e) = fixed (or_right (is_end segments r) (is_on_border segments r) e)
      crossing k (no e) =
          absurd (not_right segments strip has.few q has.status_at.small.positive w
          (All-head (IsStretchOf segments) w ws (all_second (IsStretchOf segments) entered (w ∷ ws) has.status_at.stretches))
          (All-head (λ u. GoesOn u q) w ws (all_second (λ u. GoesOn u q) entered (w ∷ ws) has.status_at.go_on))
          (All-head (λ u. IsTrue (is_node segments (whole u.right))) w ws (all_second (λ u. IsTrue (is_node segments (whole u.right))) entered (w ∷ ws) has.status_at.end_at_nodes)) wait r next
          (right_of_border segments strip q r has.few has.status_at.small.positive wait.on_border next k e))

      by_two : (is_end segments r ≡ true) ⊎ (is_crossing segments r ≡ true) → IsQueued keys r
      by_two (inl e) = fixed (or_left (is_end segments r) (is_on_border segments r) e)
      by_two (inr k) = crossing k (told (is_on_border segments r))

      by : ((is_end segments r || is_crossing segments r) ≡ true) ⊎ (is_on_border segments r ≡ true) → IsQueued keys r
      by (inl e) = by_two (or_cases (is_end segments r) (is_crossing segments r) e)
      by (inr e) = fixed (or_right (is_end segments r) (is_on_border segments r) e)

pub next_is_queued_at_border : NextIsQueuedAtBorder
next_is_queued_at_border n segments strip q r entered waiting keys steep proper has next up_to = by_waiting n segments strip q r entered keys steep proper next up_to waiting has

pub first_is_next_at_border : FirstIsNextAtBorder
first_is_next_at_border n segments strip q r entered waiting keys steep proper has first =
    first_from segments strip q r keys proper has.status_at.small (λ z next up_to. next_is_queued_at_border n segments strip q z entered waiting keys steep proper has next up_to) first
