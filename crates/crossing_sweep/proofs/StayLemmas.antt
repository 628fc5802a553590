-- The units that go on after a node are in the order of their directions, no two in one direction.
use Rattle.std.proofs.Common.{◌≡◌, ℕ, ℤ, pos, ◌<◌, ◌-ℤ◌, ◌*ℤ◌, ◌<ℤ◌, ◌≤ℤ◌, inl, inr, ◌⊎◌, List, [], ◌∷◌, ◌++◌, length, get_or, ap, sym, subst, ◌∙◌, arith}
use Rattle.std.specs.Prelude.{IsTrue, All, Contains, filter, ◌≢◌}
use Rattle.std.specs.List.{AllPairs}
use Rattle.std.specs.List.Sorted.{IsPermutation}
use Rattle.std.specs.Ordering.{is_lt}
use Rattle.std.proofs.lemmas.Int.{ints, by_lt_z}
use Rattle.std.proofs.lemmas.List.Elements.{All-contains, Contains-get_or, Contains-append_cases, Contains-append_left, Contains-append_right}
use Rattle.std.proofs.lemmas.List.Kept.{AllPairs-filter}
use Rattle.std.proofs.lemmas.List.Sorted.{Contains-permutation, IsPermutation-sym}
use Rattle.std.proofs.lemmas.Map.Keys.{IsDistinct-IsPermutation}
use Rattle.std.proofs.lemmas.Map.Made.{AllPairs-from_IsDistinct, IsDistinct-from_AllPairs}
use Rattle.std.proofs.Math.IntN.{*ℤ_comm}
use Rattle.std.specs.declared.cmp.Ordering.TheVariants.{Less}
use Rattle.overlay_terms.specs.Plane.{Point, Segment, whole, point_cmp, same_place, height_over}
use Rattle.overlay_terms.specs.Layers.{Marked}
use Rattle.overlay_terms.specs.SameInput.{same_segment, same_segment-Decides}
use Rattle.overlay_terms.proofs.Lists.{Contains-cons_cases, none_in_empty}
use Rattle.overlay_terms.proofs.Tests.{less_told, same_tests}
use Rattle.exact_point.specs.Crossing.{turn_of}
use Rattle.exact_point.proofs.Lines.{width, line_height}
use Rattle.exact_point.proofs.OnLine.{right_on_line, within_on, parallel_line, no_turn_back, parallel_from_turn, after_left}
use Rattle.exact_point.proofs.PlaceOrder.{Way, before, at, after, way_of, one_positive, less_through, alike_left, not_before_self, same_turned, not_after_less}
use Rattle.tile_laws.proofs.Ranks.{Told, yes, no, told}
use Rattle.arrange.specs.Units.{IsUnit}
use Rattle.crossing_sweep.specs.StripInput.{Span}
use Rattle.crossing_sweep.specs.Leaning.{lean, lean_segment, IsAfter, IsSteep}
use Rattle.crossing_sweep.specs.Status.{IsStretchOf}
use Rattle.crossing_sweep.specs.NextNode.{IsNextNode}
use Rattle.crossing_sweep.specs.Queue.{GoesOn}
use Rattle.crossing_sweep.specs.Step.{AreStretches, IsSplitAt}
use Rattle.crossing_sweep.specs.Passing.{begins_left, waiting, IsToCome, HasCome, IsEntry}
use Rattle.crossing_sweep.specs.Member.{ends_after}
use Rattle.overlay_terms.proofs.Pairs.{all_second, pairs_first, pairs_second, pairs_head, pairs_rest, all_pairs_append}
use Rattle.crossing_sweep.proofs.StartLemmas.{not_along, right_held}
use Rattle.crossing_sweep.proofs.PassLemmas.{all_of, filter_contains, contains_filter, entered_holds}

-- ---- two units that hold a place and go on after it do not lie along one another
module _ (marked : List Marked) (a b : Segment) (is_a : IsUnit marked a) (is_b : IsUnit marked b) (apart : a ≡ b → ⊥) (r : Point) (hr : pos 0 <ℤ r.w) (level_a : height_over a r ≡ pos 0)
    (level_b : height_over b r ≡ pos 0) (goes_a : GoesOn a r) (goes_b : GoesOn b r) (flat : turn_of a b ≡ pos 0) where
  later : (l z : Point) → pos 0 <ℤ l.w → pos 0 <ℤ z.w → (point_cmp r l ≡ Less → ⊥) → point_cmp r z ≡ Less → point_cmp l z ≡ Less
  later l z hl hz begun less = by (way_of l r hl hr)
    where
      by : Way l r → point_cmp l z ≡ Less
      by (before e) = less_through l r z hl hr hz e less
      by (at e) = alike_left l r z hl hr hz e ∙ less
      by (after e) = absurd (begun e)

  a_begins : (z : Point) → pos 0 <ℤ z.w → point_cmp r z ≡ Less → point_cmp (whole a.left) z ≡ Less
  a_begins z hz less = later (whole a.left) z one_positive hz goes_a.begun less

  b_begins : (z : Point) → pos 0 <ℤ z.w → point_cmp r z ≡ Less → point_cmp (whole b.left) z ≡ Less
  b_begins z hz less = later (whole b.left) z one_positive hz goes_b.begun less

  b_holds : (z : Point) → height_over a z ≡ pos 0 → height_over b z ≡ pos 0
  b_holds z h = parallel_line a b r z is_a.forward flat hr level_a level_b h

  a_holds : (z : Point) → height_over b z ≡ pos 0 → height_over a z ≡ pos 0
  a_holds z h = parallel_line b a r z is_b.forward (no_turn_back a b flat) hr level_b level_a h

  first_ends : (point_cmp (whole b.right) (whole a.right) ≡ Less → ⊥) → ⊥
  first_ends high =
      let z : Point = whole a.right in
      not_along marked a b is_a is_b apart z one_positive (right_held a is_a.forward)
      (within_on b z one_positive (b_holds z (right_on_line a)) (not_after_less (whole b.left) z one_positive one_positive (b_begins z one_positive goes_a.lasting)) high)
      (a_begins z one_positive goes_a.lasting) (b_begins z one_positive goes_a.lasting) (parallel_from_turn a b flat)

  second_ends : (point_cmp (whole a.right) (whole b.right) ≡ Less → ⊥) → ⊥
  second_ends high =
      let z : Point = whole b.right in
      not_along marked a b is_a is_b apart z one_positive
      (within_on a z one_positive (a_holds z (right_on_line b)) (not_after_less (whole a.left) z one_positive one_positive (a_begins z one_positive goes_b.lasting)) high)
      (right_held b is_b.forward) (a_begins z one_positive goes_b.lasting) (b_begins z one_positive goes_b.lasting) (parallel_from_turn a b flat)

  pub not_flat : ⊥
  not_flat = by (way_of (whole a.right) (whole b.right) one_positive one_positive)
    where
      by : Way (whole a.right) (whole b.right) → ⊥
      by (before e) = first_ends (not_after_less (whole a.right) (whole b.right) one_positive one_positive e)
      by (at e) = first_ends (not_before_self (whole b.right) (whole a.right) one_positive one_positive (same_turned (whole a.right) (whole b.right) e))
      by (after e) = second_ends (not_after_less (whole b.right) (whole a.right) one_positive one_positive e)

-- ---- lists in which nothing is there twice
same_back : (s t : Segment) → same_segment s t ≡ same_segment t s
same_back s t =
    same_tests (same_segment s t) (same_segment t s) (λ h. (same_segment-Decides t s).1 (sym ((same_segment-Decides s t).0 h))) (λ h. (same_segment-Decides s t).1 (sym ((same_segment-Decides t s).0 h)))

apart_moved : (xs ys : List Segment) → IsPermutation xs ys → AllPairs (λ a b. a ≢ b) xs → AllPairs (λ a b. a ≢ b) ys
apart_moved xs ys moved h =
    AllPairs-from_IsDistinct same_segment-Decides ys (IsDistinct-IsPermutation same_segment same_back xs ys moved (IsDistinct-from_AllPairs same_segment-Decides xs h))

pairs_across : {X : Type 0} (R : X → X → Type 0) (xs ys : List X) (a b : X) → AllPairs R (xs ++ ys) → Contains xs a → Contains ys b → R a b
pairs_across R [] ys a b h c d = absurd (none_in_empty a c)
pairs_across R (x ∷ xs) ys a b h c d = by (λ k. pairs_across R xs ys a b (pairs_rest R x (xs ++ ys) h) k d) (Contains-cons_cases x xs a c)
  where
    by : (Contains xs a → R a b) → (x ≡ a) ⊎ Contains xs a → R a b
    by more (inl e) = subst (λ z. R z b) e (All-contains (R x) ys b (all_second (R x) xs ys (pairs_head R x (xs ++ ys) h)) d)
    by more (inr k) = more k

-- nothing stands over itself
not_after_itself : (a : Segment) (q : Point) → IsAfter a a q → ⊥
not_after_itself a q (inl h) = none (width a *ℤ line_height a q) h
  where
    none : (x : ℤ) → pos 0 <ℤ (x -ℤ x) → ⊥
    none x h = omega (arith, ints, h)
not_after_itself a q (inr h) = none (a.right.x -ℤ a.left.x) (a.right.y -ℤ a.left.y) h.1
  where
    none : (x y : ℤ) → pos 0 <ℤ ((x *ℤ y) -ℤ (y *ℤ x)) → ⊥
    none x y h = omega (arith, ints, h, *ℤ_comm x y)

-- ---- those that stay
module _ (n : ℤ) (segments units : List Segment) (marked : List Marked) (strip : Span) (q r : Point) (under bundle over entering rest : List Segment) (keys : List Point) (steep : IsSteep n)
    (are : AreStretches segments units) (are_units : All (IsUnit marked) units) (come : HasCome n segments units strip q (under ++ bundle ++ over) (entering ++ rest) keys) (next : IsNextNode segments q r)
    (split : IsSplitAt r under bundle over) (enter : All (λ u. (z : Point) × IsEntry strip u z × IsTrue (same_place z r)) entering) (once : AllPairs (λ a b. a ≢ b) entering) (stay : List Segment)
    (moved : IsPermutation (filter (ends_after r) (bundle ++ entering)) stay) where
  hq : pos 0 <ℤ q.w
  hq = come.full.status_at.small.positive

  hr : pos 0 <ℤ r.w
  hr = next.small.positive

  abbrev entered : List Segment
  entered = under ++ bundle ++ over

  abbrev w : List Segment
  w = waiting strip (entering ++ rest)

  in_entered : (u : Segment) → Contains bundle u → Contains entered u
  in_entered u c = Contains-append_left (under ++ bundle) over u (Contains-append_right under bundle u c)

  bundle_goes : (u : Segment) → Contains bundle u → GoesOn u q
  bundle_goes u c = All-contains (λ u. GoesOn u q) (entered ++ w) u come.full.status_at.go_on (Contains-append_left entered w u (in_entered u c))

  unit_of : (u : Segment) → Contains bundle u ⊎ Contains entering u → Contains units u
  unit_of u (inl c) = All-contains (Contains units) (entered ++ w) u come.full.among (Contains-append_left entered w u (in_entered u c))
  unit_of u (inr c) = All-contains (Contains units) (entering ++ rest) u come.among (Contains-append_left entering rest u c)

  holds : (u : Segment) → Contains bundle u ⊎ Contains entering u → height_over u r ≡ pos 0
  holds u (inl c) = All-contains (λ u. height_over u r ≡ pos 0) bundle u split.hold c
  holds u (inr c) =
      let met = All-contains (λ u. (z : Point) × IsEntry strip u z × IsTrue (same_place z r)) entering u enter c in
      entered_holds strip r u (All-contains (IsStretchOf segments) units u are.stretches (unit_of u (inr c))).proper hr met.0 met.1 met.2

  begun : (u : Segment) → Contains bundle u ⊎ Contains entering u → point_cmp r (whole u.left) ≡ Less → ⊥
  begun u (inl c) less = (bundle_goes u c).begun (less_through q r (whole u.left) hq hr one_positive next.after less)
  begun u (inr c) less =
      let met = All-contains (λ u. (z : Point) × IsEntry strip u z × IsTrue (same_place z r)) entering u enter c in
      after_left u met.0 met.1.on (alike_left met.0 r (whole u.left) met.1.positive hr one_positive met.2 ∙ less)

  -- ---- none of them is there twice
  status_apart : AllPairs (λ a b. a ≢ b) (entered ++ w)
  status_apart i j d l m e =
      not_after_itself (lean_segment n (get_or (entered ++ w) i d)) (lean n q)
      (subst (λ s. IsAfter (lean_segment n (get_or (entered ++ w) i d)) (lean_segment n s) (lean n q)) (sym e) (come.full.status_at.ordered i j d l m))

  bundle_apart : AllPairs (λ a b. a ≢ b) bundle
  bundle_apart =
      pairs_second (λ a b. a ≢ b) under bundle (pairs_first (λ a b. a ≢ b) (under ++ bundle) over (pairs_first (λ a b. a ≢ b) entered w status_apart))

  across : (a b : Segment) → Contains bundle a → Contains entering b → a ≡ b → ⊥
  across a b c d e = by (told (begins_left strip b))
    where
      coming : IsToCome strip q b
      coming = All-contains (IsToCome strip q) (entering ++ rest) b come.coming (Contains-append_left entering rest b d)

      by : Told (begins_left strip b) → ⊥
      by (yes f) =
          pairs_across (λ a b. a ≢ b) entered w a b status_apart (in_entered a c) (contains_filter (begins_left strip) (entering ++ rest) b (Contains-append_left entering rest b d) f) e
      by (no f) = (bundle_goes b (subst (λ z. Contains bundle z) e c)).begun (coming.later f)

  all_apart : AllPairs (λ a b. a ≢ b) (bundle ++ entering)
  all_apart =
      all_pairs_append (λ a b. a ≢ b) bundle entering bundle_apart once
      (all_of (λ a. All (λ b. a ≢ b) entering) bundle (λ a c. all_of (λ b. a ≢ b) entering (λ b d. across a b c d)))

  stay_apart : AllPairs (λ a b. a ≢ b) stay
  stay_apart = apart_moved (filter (ends_after r) (bundle ++ entering)) stay moved (AllPairs-filter (λ a b. a ≢ b) (ends_after r) (bundle ++ entering) all_apart)

  -- ---- those that stay are those that go on
  pub stay_from : (u : Segment) → Contains stay u → (Contains bundle u ⊎ Contains entering u) × GoesOn u r
  stay_from u c =
      let kept = Contains-permutation stay (filter (ends_after r) (bundle ++ entering)) u (IsPermutation-sym (filter (ends_after r) (bundle ++ entering)) stay moved) c in
      let parts = filter_contains (ends_after r) (bundle ++ entering) u kept in
      let from = Contains-append_cases bundle entering u parts.0 in
      (from, record { begun = begun u from; lasting = less_told (point_cmp r (whole u.right)) parts.1 })

  pub stay_all : (u : Segment) → Contains bundle u ⊎ Contains entering u → GoesOn u r → Contains stay u
  stay_all u from goes =
      Contains-permutation (filter (ends_after r) (bundle ++ entering)) stay u moved (contains_filter (ends_after r) (bundle ++ entering) u (there from) (ap is_lt goes.lasting))
    where
      there : Contains bundle u ⊎ Contains entering u → Contains (bundle ++ entering) u
      there (inl c) = Contains-append_left bundle entering u c
      there (inr c) = Contains-append_right bundle entering u c

  -- no two in one direction
  module _ (i j : ℕ) (d : Segment) (l : i < j) (m : j < length stay) where
    abbrev a : Segment
    a = get_or stay i d

    abbrev b : Segment
    b = get_or stay j d

    from_a : (Contains bundle a ⊎ Contains entering a) × GoesOn a r
    from_a = stay_from a (Contains-get_or stay i d (omega (arith, l, m)))

    from_b : (Contains bundle b ⊎ Contains entering b) × GoesOn b r
    from_b = stay_from b (Contains-get_or stay j d m)

    flat : turn_of a b ≡ pos 0 → ⊥
    flat e =
        not_flat marked a b (All-contains (IsUnit marked) units a are_units (unit_of a from_a.0)) (All-contains (IsUnit marked) units b are_units (unit_of b from_b.0)) (stay_apart i j d l m) r hr (holds a from_a.0)
        (holds b from_b.0) from_a.1 from_b.1 e

  strict : (z : ℤ) → pos 0 ≤ℤ z → (z ≡ pos 0 → ⊥) → pos 0 <ℤ z
  strict z h none = by_lt_z (pos 0) z (λ k. k) (λ k. absurd (none (level z h k)))
    where
      level : (z : ℤ) → pos 0 ≤ℤ z → z ≤ℤ pos 0 → z ≡ pos 0
      level z h k = omega (arith, ints, h, k)

  pub stay_turned : AllPairs (λ a b. pos 0 ≤ℤ turn_of a b) stay → AllPairs (λ a b. pos 0 <ℤ turn_of a b) stay
  stay_turned sorted i j d l m = strict (turn_of (get_or stay i d) (get_or stay j d)) (sorted i j d l m) (flat i j d l m)
