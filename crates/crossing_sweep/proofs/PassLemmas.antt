-- One step of a pass over a strip, and its end.
use Rattle.std.proofs.Common.{◌≡◌, ℤ, pos, ◌+◌, ◌-ℤ◌, ◌*ℤ◌, ◌<ℤ◌, ◌≤ℤ◌, inl, inr, ◌⊎◌, true, Bool, List, [], ◌∷◌, ◌++◌, get_or, refl, ap, sym, subst, ◌∙◌, arith, append_assoc}
use Rattle.std.specs.Prelude.{IsTrue, All, Contains, filter}
use Rattle.std.specs.List.{AllPairs}
use Rattle.std.proofs.lemmas.Int.{ints, by_lt_z}
use Rattle.std.proofs.lemmas.Bool.{both_ways, and_parts}
use Rattle.std.proofs.lemmas.List.{append-nil}
use Rattle.std.proofs.lemmas.List.Elements.{All-head, All-contains, All-append, filter-append, Contains-get_or, Contains-append_cases, Contains-append_left, Contains-append_right}
use Rattle.std.specs.declared.cmp.Ordering.TheVariants.{Less}
use Rattle.overlay_terms.specs.Plane.{Point, Segment, whole, point_cmp, same_place, height_over}
use Rattle.overlay_terms.specs.Column.{border}
use Rattle.overlay_terms.specs.TileLaws.{IsProper}
use Rattle.overlay_terms.proofs.InputNumbers.{x_in_order, most_back, less_times, last_turned, most_through, lt_true}
use Rattle.overlay_terms.proofs.Lists.{Contains-cons_cases, contains_first, contains_rest, none_in_empty}
use Rattle.exact_point.proofs.OnLine.{on_line, way_up, forward_from_less}
use Rattle.exact_point.proofs.OnSegment.{reached}
use Rattle.exact_point.proofs.Lexical.{Forward, NotBack}
use Rattle.exact_point.proofs.Signs.{negative_times, not_negative_times}
use Rattle.std.proofs.Math.IntN.{*ℤ-zero, *ℤ_comm}
use Rattle.std.specs.Ordering.{int_eq}
use Rattle.exact_point.proofs.PlaceOrder.{Way, before, at, after, way_of, one_positive, less_through, alike_right, on_same, same_turned, not_after_less, not_before_self, same_self, same_through, level_from}
use Rattle.tile_laws.proofs.Ranks.{Told, yes, no, told}
use Rattle.crossing_sweep.specs.StripInput.{Span}
use Rattle.crossing_sweep.specs.Leaning.{IsSteep}
use Rattle.crossing_sweep.specs.Status.{IsStretchOf, AreTurned}
use Rattle.crossing_sweep.specs.NextNode.{IsNextNode}
use Rattle.crossing_sweep.specs.Queue.{GoesOn, IsUpTo, IsQueued}
use Rattle.crossing_sweep.specs.Step.{AreStretches, IsFullStatus, IsSplitAt, AreStaying}
use Rattle.crossing_sweep.specs.Border.{IsWaiting}
use Rattle.crossing_sweep.specs.Passing.{begins_left, waiting, IsToCome, IsAhead, HasCome, IsEntry, IsStepTo, IsTaken, PassGoesOn, PassEnds}
use Rattle.overlay_terms.proofs.Pairs.{all_second, pairs_second, pairs_head}
use Rattle.overlay_terms.proofs.Whole.{less_none, more_none, same_most}
use Rattle.crossing_sweep.proofs.NextNode.{each_has_next}
use Rattle.crossing_sweep.proofs.QueueLemmas.{up_to_next}
use Rattle.crossing_sweep.proofs.StatusLemmas.{sides_fall}
use Rattle.crossing_sweep.proofs.StepLemmas.{status_goes_on, queue_goes_on}
use Rattle.crossing_sweep.proofs.BorderLemmas.{next_is_queued_at_border, first_is_next_at_border}

-- ---- lists
-- what passes a test is in the list, and passes it
filtered : {X : Type 0} (p : X → Bool) (y : X) (ys : List X) (x : X) → (Contains (filter p ys) x → Contains ys x × (p x ≡ true)) → Told (p y) → Contains (filter p (y ∷ ys)) x → Contains (y ∷ ys) x × (p x ≡ true)
filtered p y ys x more (yes e) c = first (Contains-cons_cases y (filter p ys) x (rw e at c))
  where
    first : (y ≡ x) ⊎ Contains (filter p ys) x → Contains (y ∷ ys) x × (p x ≡ true)
    first (inl f) = (subst (λ z. Contains (y ∷ ys) z) f (contains_first y ys), subst (λ z. p z ≡ true) f e)
    first (inr h) = let both = more h in (contains_rest y ys x both.0, both.1)
filtered p y ys x more (no e) c = let both = more (rw e at c) in (contains_rest y ys x both.0, both.1)

pub filter_contains : {X : Type 0} (p : X → Bool) (xs : List X) (x : X) → Contains (filter p xs) x → Contains xs x × (p x ≡ true)
filter_contains p [] x c = absurd (none_in_empty x c)
filter_contains p (y ∷ ys) x c = filtered p y ys x (filter_contains p ys x) (told (p y)) c

-- and what is in the list and passes the test is kept
still_filtered : {X : Type 0} (p : X → Bool) (y : X) (ys : List X) (x : X) → (Contains ys x → Contains (filter p ys) x) → p x ≡ true → Told (p y) → (y ≡ x) ⊎ Contains ys x → Contains (filter p (y ∷ ys)) x
still_filtered p y ys x more e (yes f) (inl g) = rw f (subst (λ z. Contains (y ∷ filter p ys) z) g (contains_first y (filter p ys)))
still_filtered p y ys x more e (yes f) (inr h) = rw f (contains_rest y (filter p ys) x (more h))
still_filtered p y ys x more e (no f) (inl g) = absurd (both_ways (p y) f (subst (λ z. p z ≡ true) (sym g) e))
still_filtered p y ys x more e (no f) (inr h) = rw f (more h)

pub contains_filter : {X : Type 0} (p : X → Bool) (xs : List X) (x : X) → Contains xs x → p x ≡ true → Contains (filter p xs) x
contains_filter p [] x c e = absurd (none_in_empty x c)
contains_filter p (y ∷ ys) x c e = still_filtered p y ys x (λ h. contains_filter p ys x h e) e (told (p y)) (Contains-cons_cases y ys x c)

-- what holds of each element of a list
pub all_of : {X : Type 0} (P : X → Type 0) (xs : List X) → ((x : X) → Contains xs x → P x) → All P xs
all_of P xs h k d l = h (get_or xs k d) (Contains-get_or xs k d l)

-- parts of a status with those that wait after it, put in order again
pub regrouped : (under bundle over w1 w2 : List Segment) → (w1 ≡ []) ⊎ (over ≡ []) → (under ++ bundle ++ over) ++ (w1 ++ w2) ≡ under ++ (bundle ++ w1) ++ (over ++ w2)
regrouped under bundle over w1 w2 (inl e) =
    ap (λ w. (under ++ bundle ++ over) ++ (w ++ w2)) e ∙ append_assoc (under ++ bundle) over w2
    ∙ ap (λ b. under ++ b ++ (over ++ w2)) (sym (append-nil bundle)) ∙ ap (λ w. under ++ (bundle ++ w) ++ (over ++ w2)) (sym e)
regrouped under bundle over w1 w2 (inr e) =
    ap (λ o. (under ++ bundle ++ o) ++ (w1 ++ w2)) e ∙ ap (λ u. u ++ (w1 ++ w2)) (append-nil (under ++ bundle))
    ∙ sym (append_assoc (under ++ bundle) w1 w2) ∙ ap (λ u. u ++ w2) (append_assoc under bundle w1) ∙ ap (λ o. under ++ (bundle ++ w1) ++ (o ++ w2)) (sym e)

-- ---- where a segment is met first
module _ (strip : Span) (r : Point) (u : Segment) (proper : IsProper u) (hr : pos 0 <ℤ r.w) where
  -- one that is met at the place holds it
  pub entered_holds : (z : Point) → IsEntry strip u z → IsTrue (same_place z r) → height_over u r ≡ pos 0
  entered_holds z entry same = on_line u r (sym (on_same u z r entry.positive hr same) ∙ entry.on)

  -- one that is met later at the left border waits there
  module _ (z : Point) (entry : IsEntry strip u z) (later : point_cmp r z ≡ Less) (from : (border strip.first *ℤ r.w) ≤ℤ r.x) (left : begins_left strip u ≡ true) where
    begins : u.left.x <ℤ border strip.first
    begins = lt_true u.left.x (border strip.first) left

    over_border : r.x ≡ border strip.first *ℤ r.w
    over_border = same_most r.x (border strip.first *ℤ r.w) (near r.x z.x r.w z.w (border strip.first) entry.positive (x_in_order r z later) (entry.cut left)) from
      where
        near : (x y w v b : ℤ) → pos 0 <ℤ v → (x *ℤ v) ≤ℤ (y *ℤ w) → y ≡ b *ℤ v → x ≤ℤ (b *ℤ w)
        near x y w v b hv h e = most_back x (b *ℤ w) v hv (omega (arith, ints, h, ap (λ z. z *ℤ w) e, last_turned b v w))

    over_one : (z.x *ℤ r.w) -ℤ (r.x *ℤ z.w) ≡ pos 0
    over_one = same_x r.x z.x r.w z.w (border strip.first) over_border (entry.cut left)
      where
        same_x : (x y w v b : ℤ) → x ≡ b *ℤ w → y ≡ b *ℤ v → (y *ℤ w) -ℤ (x *ℤ v) ≡ pos 0
        same_x x y w v b e f = omega (arith, ints, ap (λ z. z *ℤ v) e, ap (λ z. z *ℤ w) f, last_turned b w v)

    up : pos 0 <ℤ ((z.y *ℤ r.w) -ℤ (r.y *ℤ z.w))
    up = rising ((z.x *ℤ r.w) -ℤ (r.x *ℤ z.w)) ((z.y *ℤ r.w) -ℤ (r.y *ℤ z.w)) over_one (forward_from_less r z later)
      where
        rising : (x y : ℤ) → x ≡ pos 0 → Forward x y → pos 0 <ℤ y
        rising x y e (inl h) = absurd (omega (arith, ints, e, h))
        rising x y e (inr h) = h.1

    wide : pos 0 <ℤ (u.right.x -ℤ u.left.x)
    wide = wide_of u.left.x u.right.x (border strip.first) begins (reaches u.right.x z.x z.w (border strip.first) _ entry.positive (entry.cut left) (reached u z entry.on).to_right)
      where
        wide_of : (l r b : ℤ) → l <ℤ b → b ≤ℤ r → pos 0 <ℤ (r -ℤ l)
        wide_of l r b h k = omega (arith, ints, h, k)

        most : (d e y : ℤ) → NotBack (d -ℤ e) y → e ≤ℤ d
        most d e y (inl h) = omega (arith, ints, h)
        most d e y (inr h) = let f : d -ℤ e ≡ pos 0 = h.0 in omega (arith, ints, f)

        reaches : (d x w b y : ℤ) → pos 0 <ℤ w → x ≡ b *ℤ w → NotBack ((d *ℤ w) -ℤ x) y → b ≤ℤ d
        reaches d x w b y hw e h = let m : x ≤ℤ (d *ℤ w) = most (d *ℤ w) x y h in most_back b d w hw (omega (arith, ints, m, e))

    times : (z.w *ℤ height_over u r) <ℤ pos 0
    times =
        down (u.right.x -ℤ u.left.x) ((r.y *ℤ z.w) -ℤ (z.y *ℤ r.w)) (u.right.y -ℤ u.left.y) ((r.x *ℤ z.w) -ℤ (z.x *ℤ r.w)) (z.w *ℤ height_over u r)
        (way_up u z r (on_line u z entry.on)) (turned_level (z.x *ℤ r.w) (r.x *ℤ z.w) over_one) wide (turned_down (z.y *ℤ r.w) (r.y *ℤ z.w) up)
      where
        turned_level : (a b : ℤ) → a -ℤ b ≡ pos 0 → b -ℤ a ≡ pos 0
        turned_level a b e = omega (arith, ints, e)

        turned_down : (a b : ℤ) → pos 0 <ℤ (a -ℤ b) → (b -ℤ a) <ℤ pos 0
        turned_down a b h = omega (arith, ints, h)

        down : (d y e x z : ℤ) → (d *ℤ y) -ℤ (e *ℤ x) ≡ z → x ≡ pos 0 → pos 0 <ℤ d → y <ℤ pos 0 → z <ℤ pos 0
        down d y e x z f g hd hy = omega (arith, ints, f, ap (λ t. e *ℤ t) g, *ℤ-zero e, *ℤ_comm d y, negative_times y d hy hd)

    above : height_over u r <ℤ pos 0
    above =
        by_lt_z (height_over u r) (pos 0) (λ l. l)
        (λ l. absurd (no_way (height_over u r) z.w (not_negative_times (height_over u r) z.w l entry.positive) times))
      where
        no_way : (h w : ℤ) → pos 0 ≤ℤ (h *ℤ w) → (w *ℤ h) <ℤ pos 0 → ⊥
        no_way h w k l = omega (arith, ints, k, l, *ℤ_comm h w)

    pub waits_on : IsWaiting strip r u
    waits_on = record { begins_left = begins; on_border = over_border; passes_over = above }

-- ---- the first of the places found ahead
module _ (n : ℤ) (segments units : List Segment) (strip : Span) (q r : Point) (entered to_come : List Segment) (keys : List Point) (steep : IsSteep n) (proper : All IsProper segments)
    (come : HasCome n segments units strip q entered to_come (r ∷ keys)) (least : All (λ z. point_cmp r z ≡ Less) keys) where
  first_ahead : IsAhead segments strip q r
  first_ahead = All-head (IsAhead segments strip q) r keys come.ahead

  -- what waits after the old place
  all_waiting : All (IsWaiting strip q) (waiting strip to_come)
  all_waiting =
      all_of (IsWaiting strip q) (waiting strip to_come)
      (λ u c. let parts = filter_contains (begins_left strip) to_come u c in (All-contains (IsToCome strip q) to_come u come.coming parts.0).waits parts.1)

  not_earlier : (z : Point) → pos 0 <ℤ z.w → (r ≡ z) ⊎ Contains keys z → point_cmp z r ≡ Less → ⊥
  not_earlier z hz (inl e) =
      subst (λ x. point_cmp x r ≡ Less → ⊥) e (not_before_self r r first_ahead.small.positive first_ahead.small.positive (same_self r))
  not_earlier z hz (inr c) = not_after_less r z first_ahead.small.positive hz (All-contains (λ z. point_cmp r z ≡ Less) keys z least c)

  -- it is the next node
  pub first_is_node : IsNextNode segments q r
  first_is_node =
      first_is_next_at_border n segments strip q r entered (waiting strip to_come) (r ∷ keys) steep proper
      (record { few = come.few; status_at = come.full.status_at; wait = all_waiting; queue = come.queue })
      (record {
        small = first_ahead.small;
        node = first_ahead.node;
        after = first_ahead.after;
        up_to = first_ahead.up_to;
        positive = all_of (λ z. pos 0 <ℤ z.w) (r ∷ keys) positive;
        least = all_of (λ z. point_cmp z r ≡ Less → ⊥) (r ∷ keys) (λ z c. not_earlier z (positive z c) (Contains-cons_cases r keys z c));
      })
    where
      positive : (z : Point) → Contains (r ∷ keys) z → pos 0 <ℤ z.w
      positive z c = (All-contains (IsAhead segments strip q) (r ∷ keys) z come.ahead c).small.positive

-- ---- one step
module _ (n : ℤ) (segments units : List Segment) (strip : Span) (q r : Point) (under bundle over entering stay rest : List Segment) (keys new : List Point) (steep : IsSteep n) (proper : All IsProper segments)
    (are : AreStretches segments units) (come : HasCome n segments units strip q (under ++ bundle ++ over) (entering ++ rest) (r ∷ keys))
    (step : IsStepTo segments strip r under bundle over entering stay rest keys new) where
  hq : pos 0 <ℤ q.w
  hq = come.full.status_at.small.positive

  first : IsAhead segments strip q r
  first = All-head (IsAhead segments strip q) r keys come.ahead

  hr : pos 0 <ℤ r.w
  hr = first.small.positive

  abbrev w1 : List Segment
  w1 = waiting strip entering

  abbrev w2 : List Segment
  w2 = waiting strip rest

  -- ---- the place is the next node
  next : IsNextNode segments q r
  next = first_is_node n segments units strip q r (under ++ bundle ++ over) (entering ++ rest) keys steep proper come step.least

  -- ---- those that enter, and those that are still to come
  unit_proper : (u : Segment) → Contains units u → IsProper u
  unit_proper u c = (All-contains (IsStretchOf segments) units u are.stretches c).proper

  entering_unit : (u : Segment) → Contains entering u → Contains units u
  entering_unit u c = All-contains (Contains units) (entering ++ rest) u come.among (Contains-append_left entering rest u c)

  rest_unit : (u : Segment) → Contains rest u → Contains units u
  rest_unit u c = All-contains (Contains units) (entering ++ rest) u come.among (Contains-append_right entering rest u c)

  entering_holds : (u : Segment) → Contains entering u → height_over u r ≡ pos 0
  entering_holds u c =
      let met = All-contains (λ u. (z : Point) × IsEntry strip u z × IsTrue (same_place z r)) entering u step.enter c in
      entered_holds strip r u (unit_proper u (entering_unit u c)) hr met.0 met.1 met.2

  rest_to_come : (u : Segment) → Contains rest u → IsToCome strip r u
  rest_to_come u c =
      let met = All-contains (λ u. (z : Point) × IsEntry strip u z × (point_cmp r z ≡ Less)) rest u step.remain c in
      record {
        waits = λ e. waits_on strip r u (unit_proper u (rest_unit u c)) hr met.0 met.1 met.2 first.from e;
        later = λ e. sym (alike_right r met.0 (whole u.left) hr met.1.positive one_positive (met.1.left e)) ∙ met.2;
      }

  -- one that is still to come does not hold the place after which it goes on
  rest_apart : (u : Segment) → Contains rest u → GoesOn u r → height_over u r ≡ pos 0 → ⊥
  rest_apart u c goes level = by (told (begins_left strip u))
    where
      by : Told (begins_left strip u) → ⊥
      by (yes e) = less_none (height_over u r) ((rest_to_come u c).waits e).passes_over level
      by (no e) = goes.begun ((rest_to_come u c).later e)

  -- ---- those that stay
  stay_holds : (u : Segment) → Contains bundle u ⊎ Contains entering u → height_over u r ≡ pos 0
  stay_holds u (inl c) = All-contains (λ u. height_over u r ≡ pos 0) bundle u step.split.hold c
  stay_holds u (inr c) = entering_holds u c

  bundle_unit : (u : Segment) → Contains bundle u → Contains units u
  bundle_unit u c =
      All-contains (Contains units) (under ++ bundle ++ over ++ waiting strip (entering ++ rest)) u come.full.among
      (Contains-append_left (under ++ bundle ++ over) (waiting strip (entering ++ rest)) u (Contains-append_left (under ++ bundle) over u (Contains-append_right under bundle u c)))

  stay_unit : (u : Segment) → Contains bundle u ⊎ Contains entering u → Contains units u
  stay_unit u (inl c) = bundle_unit u c
  stay_unit u (inr c) = entering_unit u c

  turned : AreTurned segments r stay
  turned = record {
    stretches = all_of (IsStretchOf segments) stay (λ u c. All-contains (IsStretchOf segments) units u are.stretches (stay_unit u (step.stay_from u c).0));
    hold = all_of (λ u. height_over u r ≡ pos 0) stay (λ u c. stay_holds u (step.stay_from u c).0);
    turned = step.turned;
  }

  -- a member of the old status that holds the place and goes on
  from_status : (u : Segment) → Contains (under ++ bundle ++ over ++ waiting strip (entering ++ rest)) u → GoesOn u r → height_over u r ≡ pos 0 → Contains bundle u ⊎ Contains entering u
  from_status u c goes level = last (Contains-append_cases (under ++ bundle ++ over) (waiting strip (entering ++ rest)) u c)
    where
      come_from : Contains entering u ⊎ Contains rest u → Contains bundle u ⊎ Contains entering u
      come_from (inl h) = inr h
      come_from (inr h) = absurd (rest_apart u h goes level)

      two : Contains under u ⊎ Contains bundle u → Contains bundle u ⊎ Contains entering u
      two (inl h) = absurd (more_none (height_over u r) (All-contains (λ u. pos 0 <ℤ height_over u r) under u step.split.passes_under h) level)
      two (inr h) = inl h

      three : Contains (under ++ bundle) u ⊎ Contains over u → Contains bundle u ⊎ Contains entering u
      three (inl h) = two (Contains-append_cases under bundle u h)
      three (inr h) = absurd (less_none (height_over u r) (All-contains (λ u. height_over u r <ℤ pos 0) over u step.split.passes_over h) level)

      last : Contains (under ++ bundle ++ over) u ⊎ Contains (waiting strip (entering ++ rest)) u → Contains bundle u ⊎ Contains entering u
      last (inl h) = three (Contains-append_cases (under ++ bundle) over u h)
      last (inr h) = come_from (Contains-append_cases entering rest u (filter_contains (begins_left strip) (entering ++ rest) u h).0)

  -- the left end of a unit that goes on after the place is not right of the strip
  left_up_to : (u : Segment) → GoesOn u r → IsUpTo strip (whole u.left)
  left_up_to u goes = by (way_of r (whole u.left) hr one_positive)
    where
      by : Way r (whole u.left) → IsUpTo strip (whole u.left)
      by (before e) = absurd (goes.begun e)
      by (at e) = most_through (whole u.left) r (border (strip.last + 1)) one_positive hr (same_first r (whole u.left) e) first.up_to
        where
          same_first : (p z : Point) → IsTrue (same_place p z) → (z.x *ℤ p.w) ≤ℤ (p.x *ℤ z.w)
          same_first p z e = let f = level_from (p.x *ℤ z.w) (z.x *ℤ p.w) (and_parts (int_eq (p.x *ℤ z.w) (z.x *ℤ p.w)) (int_eq (p.y *ℤ z.w) (z.y *ℤ p.w)) e).0 in omega (arith, ints, f)
      by (after e) = most_through (whole u.left) r (border (strip.last + 1)) one_positive hr (x_in_order (whole u.left) r e) first.up_to

  staying : AreStaying segments units r stay
  staying = record {
    turned = turned;
    among = all_of (Contains units) stay (λ u c. stay_unit u (step.stay_from u c).0);
    go_on = all_of (λ u. GoesOn u r) stay (λ u c. (step.stay_from u c).1);
    complete = λ u c goes level. step.stay_all u (there u c goes level (way_of q (whole u.left) hq one_positive)) goes;
  }
    where
      there : (u : Segment) → Contains units u → GoesOn u r → height_over u r ≡ pos 0 → Way q (whole u.left) → Contains bundle u ⊎ Contains entering u
      there u c goes level (before e) = come_from (Contains-append_cases entering rest u (come.complete u c e (left_up_to u goes)))
        where
          come_from : Contains entering u ⊎ Contains rest u → Contains bundle u ⊎ Contains entering u
          come_from (inl h) = inr h
          come_from (inr h) = absurd (rest_apart u h goes level)
      there u c goes level (at e) =
          from_status u (come.full.members u c (record { begun = not_before_self q (whole u.left) hq one_positive e; lasting = less_through q r (whole u.right) hq hr one_positive first.after goes.lasting })) goes level
      there u c goes level (after e) =
          from_status u (come.full.members u c (record { begun = not_after_less (whole u.left) q one_positive hq e; lasting = less_through q r (whole u.right) hq hr one_positive first.after goes.lasting })) goes level

  -- ---- the new status
  -- where one enters from the left border, none has entered above it
  none_above : (w1 ≡ []) ⊎ (over ≡ [])
  none_above = by w1 refl over refl
    where
      by : (w : List Segment) → w1 ≡ w → (o : List Segment) → over ≡ o → (w1 ≡ []) ⊎ (over ≡ [])
      by [] e o f = inl e
      by (w ∷ ws) e [] f = inr f
      by (w ∷ ws) e (o ∷ os) f =
          let R : Segment → Segment → Type 0 = λ a b. height_over a r <ℤ pos 0 → height_over b r <ℤ pos 0 in
          let all : AllPairs R (under ++ bundle ++ over ++ waiting strip (entering ++ rest)) =
          (sides_fall n segments q r (under ++ bundle ++ over ++ waiting strip (entering ++ rest)) steep
          (up_to_next n segments q r (under ++ bundle ++ over ++ waiting strip (entering ++ rest)) steep proper come.full.status_at next)).below in
          let grouped : AllPairs R (under ++ bundle ++ (over ++ (w1 ++ w2))) =
          subst (λ (l : List Segment). AllPairs R l)
          (ap (λ (l : List Segment). under ++ bundle ++ over ++ l) (filter-append (begins_left strip) entering rest) ∙ append_assoc (under ++ bundle) over (w1 ++ w2)) all in
          let behind : AllPairs R (over ++ (w1 ++ w2)) = pairs_second R (under ++ bundle) (over ++ (w1 ++ w2)) grouped in
          let named : AllPairs R ((o ∷ os) ++ ((w ∷ ws) ++ w2)) =
          subst (λ (l : List Segment). AllPairs R ((o ∷ os) ++ (l ++ w2))) e (subst (λ (l : List Segment). AllPairs R (l ++ (w1 ++ w2))) f behind) in
          let falls : R o w = All-head (R o) w (ws ++ w2) (all_second (R o) os ((w ∷ ws) ++ w2) (pairs_head R o (os ++ ((w ∷ ws) ++ w2)) named)) in
          let low : height_over o r <ℤ pos 0 = All-head (λ u. height_over u r <ℤ pos 0) o os (subst (λ (l : List Segment). All (λ u. height_over u r <ℤ pos 0) l) f step.split.passes_over) in
          let among : Contains entering w = (filter_contains (begins_left strip) entering w (subst (λ (l : List Segment). Contains l w) (sym e) (contains_first w ws))).0 in
          absurd (less_none (height_over w r) (falls low) (entering_holds w among))

  waiting_in_two : under ++ bundle ++ over ++ waiting strip (entering ++ rest) ≡ under ++ (bundle ++ w1) ++ (over ++ w2)
  waiting_in_two = ap (λ (l : List Segment). under ++ bundle ++ over ++ l) (filter-append (begins_left strip) entering rest) ∙ regrouped under bundle over w1 w2 none_above

  split_all : IsSplitAt r under (bundle ++ w1) (over ++ w2)
  split_all = record {
    passes_under = step.split.passes_under;
    hold = All-append (λ u. height_over u r ≡ pos 0) bundle w1 step.split.hold (all_of (λ u. height_over u r ≡ pos 0) w1 (λ u c. entering_holds u (filter_contains (begins_left strip) entering u c).0));
    passes_over = All-append (λ u. height_over u r <ℤ pos 0) over w2 step.split.passes_over (all_of (λ u. height_over u r <ℤ pos 0) w2 still_over);
  }
    where
      still_over : (u : Segment) → Contains w2 u → height_over u r <ℤ pos 0
      still_over u c = let parts = filter_contains (begins_left strip) rest u c in ((rest_to_come u parts.0).waits parts.1).passes_over

  full_new : IsFullStatus n segments units r (under ++ stay ++ over ++ w2)
  full_new =
      subst (λ (l : List Segment). IsFullStatus n segments units r l) (sym (append_assoc (under ++ stay) over w2))
      (status_goes_on n segments units q r under (bundle ++ w1) (over ++ w2) stay steep proper are
      (subst (λ (l : List Segment). IsFullStatus n segments units q l) waiting_in_two come.full) next split_all staying)

  complete_new : (u : Segment) → Contains units u → point_cmp r (whole u.left) ≡ Less → IsUpTo strip (whole u.left) → Contains rest u
  complete_new u c later up_to =
      by (Contains-append_cases entering rest u (come.complete u c (less_through q r (whole u.left) hq hr one_positive first.after later) up_to))
    where
      begun : Contains entering u → ⊥
      begun h =
          let met = All-contains (λ u. (z : Point) × IsEntry strip u z × IsTrue (same_place z r)) entering u step.enter h in
          which met.0 met.1 met.2 (told (begins_left strip u))
        where
          no_way : (b l x w : ℤ) → pos 0 <ℤ w → l <ℤ b → (x *ℤ pos 1) ≤ℤ (l *ℤ w) → (b *ℤ w) ≤ℤ x → ⊥
          no_way b l x w hw h k m = omega (arith, ints, less_times l b w hw h, k, m)

          which : (z : Point) → IsEntry strip u z → IsTrue (same_place z r) → Told (begins_left strip u) → ⊥
          which z entry same (yes e) = no_way (border strip.first) u.left.x r.x r.w hr (lt_true u.left.x (border strip.first) e) (x_in_order r (whole u.left) later) first.from
          which z entry same (no e) =
              not_before_self r (whole u.left) hr one_positive (same_through r z (whole u.left) hr entry.positive one_positive (same_turned z r same) (entry.left e)) later

      by : Contains entering u ⊎ Contains rest u → Contains rest u
      by (inl h) = absurd (begun h)
      by (inr h) = h

  taken : IsTaken n segments units strip q r (under ++ stay ++ over) rest new
  taken = record {
    next = next;
    come = record {
      few = come.few;
      full = full_new;
      coming = all_of (IsToCome strip r) rest rest_to_come;
      among = all_of (Contains units) rest rest_unit;
      complete = complete_new;
      queue = queue_goes_on segments strip q r under bundle over stay (r ∷ keys) new hq come.queue next turned step.grown;
      ahead = step.ahead;
    };
  }

pub pass_goes_on : PassGoesOn
pass_goes_on n segments units strip q r under bundle over entering stay rest keys new steep proper are come step =
    taken n segments units strip q r under bundle over entering stay rest keys new steep proper are come step

pub pass_ends : PassEnds
pass_ends n segments units strip q entered to_come steep proper come p hp node later up_to =
    let found = each_has_next segments q p proper hq hp node later in
    none_known found.0 (next_is_queued_at_border n segments strip q found.0 entered (waiting strip to_come) [] steep proper
    (record { few = come.few; status_at = come.full.status_at; wait = all_wait; queue = come.queue }) found.1 (near found.0 found.1 (way_of found.0 p found.1.small.positive hp) found.2))
  where
    hq : pos 0 <ℤ q.w
    hq = come.full.status_at.small.positive

    all_wait : All (IsWaiting strip q) (waiting strip to_come)
    all_wait =
        all_of (IsWaiting strip q) (waiting strip to_come)
        (λ u c. let parts = filter_contains (begins_left strip) to_come u c in (All-contains (IsToCome strip q) to_come u come.coming parts.0).waits parts.1)

    none_known : (r : Point) → IsQueued [] r → ⊥
    none_known r (i, z, l, e, h) = omega (arith, l)

    near : (r : Point) → IsNextNode segments q r → Way r p → (point_cmp p r ≡ Less → ⊥) → IsUpTo strip r
    near r next (before e) not_later = most_through r p (border (strip.last + 1)) next.small.positive hp (x_in_order r p e) up_to
    near r next (at e) not_later = most_through r p (border (strip.last + 1)) next.small.positive hp (same_x r p e) up_to
      where
        same_x : (p z : Point) → IsTrue (same_place p z) → (p.x *ℤ z.w) ≤ℤ (z.x *ℤ p.w)
        same_x p z e = let f = level_from (p.x *ℤ z.w) (z.x *ℤ p.w) (and_parts (int_eq (p.x *ℤ z.w) (z.x *ℤ p.w)) (int_eq (p.y *ℤ z.w) (z.y *ℤ p.w)) e).0 in omega (arith, ints, f)
    near r next (after e) not_later = absurd (not_later e)
