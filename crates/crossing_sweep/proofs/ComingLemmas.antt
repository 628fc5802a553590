-- The units that are still to come: none of them is met before the next node.
use Rattle.std.proofs.Common.{◌≡◌, ℕ, ℤ, pos, ◌+◌, ◌<◌, ◌≤◌, ◌-ℤ◌, ◌*ℤ◌, ◌<ℤ◌, ◌≤ℤ◌, inl, inr, ◌⊎◌, true, false, Bool, List, ◌++◌, map, take, drop, length, get_or, ap, sym, subst, ◌∙◌, arith}
use Rattle.std.specs.Prelude.{IsTrue, All, Contains, ◌≢◌}
use Rattle.std.specs.List.{AllPairs, prefix_len}
use Rattle.std.specs.Ordering.{int_eq}
use Rattle.std.proofs.lemmas.Int.{ints, by_lt_z}
use Rattle.std.proofs.lemmas.Bool.{both_ways, false_from_ne_true, cases_eq}
use Rattle.std.proofs.lemmas.List.{get_or-take, get_or-drop, length-take-le, length-drop}
use Rattle.std.proofs.lemmas.List.Elements.{All-map, All-contains, Contains-get_or, Contains-append_right}
use Rattle.std.proofs.lemmas.List.Sums.{prefix_len-le-length, prefix_len_passes, prefix_len_stops}
use Rattle.std.proofs.Math.IntN.{*ℤ-zero, *ℤ_comm}
use Rattle.std.specs.declared.cmp.Ordering.TheVariants.{Less}
use Rattle.overlay_terms.specs.Plane.{Point, Segment, whole, point_cmp, same_place, height_over, is_on}
use Rattle.overlay_terms.specs.Column.{column_count, border}
use Rattle.overlay_terms.specs.Tiles.{is_node}
use Rattle.overlay_terms.specs.TileLaws.{IsProper}
use Rattle.overlay_terms.proofs.InputNumbers.{x_in_order, less_times, last_turned}
use Rattle.overlay_terms.proofs.InputNodes.{border_node}
use Rattle.overlay_terms.proofs.PointOrder.{is_eq_then}
use Rattle.exact_point.specs.Place.{place, same_hpoint}
use Rattle.exact_point.specs.declared.point.HPoint.{HPoint}
use Rattle.exact_point.proofs.Lines.{width, rise}
use Rattle.exact_point.proofs.Nodes.{wide_too}
use Rattle.exact_point.proofs.OnLine.{on_line, way_up, less_from_forward, no_turn_back}
use Rattle.exact_point.proofs.PlaceOrder.{Way, before, at, after, way_of, one_positive, less_through, alike_left, level_from, same_turned, same_self, not_before_self}
use Rattle.exact_point.proofs.Signs.{negative_times, not_negative_times}
use Rattle.tile_laws.proofs.Ranks.{Told, yes, no, told}
use Rattle.crossing_sweep.specs.StripInput.{Span}
use Rattle.crossing_sweep.specs.Leaning.{IsSteep}
use Rattle.crossing_sweep.specs.Status.{IsStretchOf, SidesFallAlong}
use Rattle.crossing_sweep.specs.NextNode.{IsNextNode}
use Rattle.crossing_sweep.specs.Queue.{GoesOn}
use Rattle.crossing_sweep.specs.Step.{AreStretches}
use Rattle.crossing_sweep.specs.Border.{IsWaiting}
use Rattle.crossing_sweep.specs.Passing.{begins_left, waiting, IsToCome, HasCome, IsEntry}
use Rattle.crossing_sweep.specs.declared.start.Start.{Start}
use Rattle.overlay_terms.proofs.Pairs.{all_first, pairs_first}
use Rattle.crossing_sweep.proofs.QueueLemmas.{up_to_next}
use Rattle.crossing_sweep.proofs.StatusLemmas.{sides_fall}
use Rattle.crossing_sweep.proofs.StretchLemmas.{holder_holds, no_turn}
use Rattle.crossing_sweep.proofs.PassLemmas.{contains_filter}
use Rattle.arrange.proofs.FoundLemmas.{place_positive}

-- ---- where one that waits is met is a node after the place
module _ (segments : List Segment) (strip : Span) (few : strip.first < column_count) (q : Point) (hq : pos 0 <ℤ q.w) (u : Segment) (is : IsStretchOf segments u) (goes : GoesOn u q) (wait : IsWaiting strip q u)
    (z : Point) (entry : IsEntry strip u z) (left : begins_left strip u ≡ true) where
  reaches : border strip.first ≤ℤ u.right.x
  reaches = not_left u.right.x q.x q.w (border strip.first) hq wait.on_border (x_in_order q (whole u.right) goes.lasting)
    where
      not_left : (x y w b : ℤ) → pos 0 <ℤ w → y ≡ b *ℤ w → (y *ℤ pos 1) ≤ℤ (x *ℤ w) → b ≤ℤ x
      not_left x y w b hw e h = by_lt_z x b (λ l. absurd (less y w x b e h (less_times x b w hw l))) (λ l. l)
        where
          less : (y w x b : ℤ) → y ≡ b *ℤ w → (y *ℤ pos 1) ≤ℤ (x *ℤ w) → (x *ℤ w) <ℤ (b *ℤ w) → ⊥
          less y w x b e h k = omega (arith, ints, e, h, k)

  wide : pos 0 <ℤ (u.right.x -ℤ u.left.x)
  wide = wide_of u.left.x u.right.x (border strip.first) wait.begins_left reaches
    where
      wide_of : (l r b : ℤ) → l <ℤ b → b ≤ℤ r → pos 0 <ℤ (r -ℤ l)
      wide_of l r b h k = omega (arith, ints, h, k)

  slanted : is.holder.left.x <ℤ is.holder.right.x
  slanted = wide_too is.holder u is.held_by.first (no_turn_back u is.holder (no_turn segments u is)) (not_level u.left.x u.right.x wide)
    where
      not_level : (l r : ℤ) → pos 0 <ℤ (r -ℤ l) → int_eq l r ≡ false
      not_level l r h = false_from_ne_true (int_eq l r) (λ e. no_way l r h (level_from l r e))
        where
          no_way : (l r : ℤ) → pos 0 <ℤ (r -ℤ l) → l ≡ r → ⊥
          no_way l r h e = omega (arith, ints, h, e)

  pub entry_node : IsTrue (is_node segments z)
  entry_node = border_node segments is.holder strip.first z few (entry.cut left) (holder_holds segments u is z entry.positive entry.on) slanted is.among

  pub entry_after : point_cmp q z ≡ Less
  entry_after = less_from_forward q z (inr (level, up))
    where
      level : (z.x *ℤ q.w) -ℤ (q.x *ℤ z.w) ≡ pos 0
      level = same_x z.x z.w q.x q.w (border strip.first) (entry.cut left) wait.on_border
        where
          same_x : (x w y v b : ℤ) → x ≡ b *ℤ w → y ≡ b *ℤ v → (x *ℤ v) -ℤ (y *ℤ w) ≡ pos 0
          same_x x w y v b e f = omega (arith, ints, ap (λ t. t *ℤ v) e, ap (λ t. t *ℤ w) f, last_turned b w v)

      falls : (width u *ℤ ((q.y *ℤ z.w) -ℤ (z.y *ℤ q.w))) <ℤ pos 0
      falls =
          down (width u) ((q.y *ℤ z.w) -ℤ (z.y *ℤ q.w)) (rise u) ((q.x *ℤ z.w) -ℤ (z.x *ℤ q.w)) (z.w *ℤ height_over u q) (way_up u z q (on_line u z entry.on))
          (turned (z.x *ℤ q.w) (q.x *ℤ z.w) level) (less_product z.w (height_over u q) entry.positive wait.passes_over)
        where
          turned : (a b : ℤ) → a -ℤ b ≡ pos 0 → b -ℤ a ≡ pos 0
          turned a b e = omega (arith, ints, e)

          less_product : (w h : ℤ) → pos 0 <ℤ w → h <ℤ pos 0 → (w *ℤ h) <ℤ pos 0
          less_product w h hw l = omega (arith, ints, *ℤ_comm w h, negative_times h w l hw)

          down : (d y e x z : ℤ) → (d *ℤ y) -ℤ (e *ℤ x) ≡ z → x ≡ pos 0 → z <ℤ pos 0 → (d *ℤ y) <ℤ pos 0
          down d y e x z f g h = omega (arith, ints, f, h, ap (λ t. e *ℤ t) g, *ℤ-zero e)

      up : pos 0 <ℤ ((z.y *ℤ q.w) -ℤ (q.y *ℤ z.w))
      up = rising (width u) (q.y *ℤ z.w) (z.y *ℤ q.w) wide falls
        where
          rising : (d a b : ℤ) → pos 0 <ℤ d → (d *ℤ (a -ℤ b)) <ℤ pos 0 → pos 0 <ℤ (b -ℤ a)
          rising d a b hd h =
              by_lt_z a b (λ l. omega (arith, ints, l))
              (λ l. absurd (omega (arith, ints, h, *ℤ_comm d (a -ℤ b), not_negative_times (a -ℤ b) d (apart_from a b l) hd)))
            where
              apart_from : (a b : ℤ) → b ≤ℤ a → pos 0 ≤ℤ (a -ℤ b)
              apart_from a b l = omega (arith, ints, l)

module _ (n : ℤ) (segments units : List Segment) (strip : Span) (q r : Point) (entered to_come : List Segment) (keys : List Point) (steep : IsSteep n) (proper : All IsProper segments)
    (are : AreStretches segments units) (come : HasCome n segments units strip q entered to_come keys) (next : IsNextNode segments q r) where
  hq : pos 0 <ℤ q.w
  hq = come.full.status_at.small.positive

  hr : pos 0 <ℤ r.w
  hr = next.small.positive

  abbrev w : List Segment
  w = waiting strip to_come

  -- the entered units fall along the node
  pub falls : SidesFallAlong r entered
  falls = record {
    not_above = pairs_first (λ a b. height_over a r ≤ℤ pos 0 → height_over b r ≤ℤ pos 0) entered w all.not_above;
    below = pairs_first (λ a b. height_over a r <ℤ pos 0 → height_over b r <ℤ pos 0) entered w all.below;
    held = all_first (λ a. height_over a r ≡ pos 0 → IsTrue (is_on a r)) entered w all.held;
  }
    where
      all : SidesFallAlong r (entered ++ w)
      all = sides_fall n segments q r (entered ++ w) steep (up_to_next n segments q r (entered ++ w) steep proper come.full.status_at next)

  -- none that is to come is met before the node
  pub not_met_before : (u : Segment) → Contains to_come u → (z : Point) → IsEntry strip u z → point_cmp z r ≡ Less → ⊥
  not_met_before u among z entry less = by (told (begins_left strip u))
    where
      coming : IsToCome strip q u
      coming = All-contains (IsToCome strip q) to_come u come.coming among

      unit : Contains units u
      unit = All-contains (Contains units) to_come u come.among among

      is : IsStretchOf segments u
      is = All-contains (IsStretchOf segments) units u are.stretches unit

      by : Told (begins_left strip u) → ⊥
      by (yes e) =
          let goes : GoesOn u q = All-contains (λ u. GoesOn u q) (entered ++ w) u come.full.status_at.go_on (Contains-append_right entered w u (contains_filter (begins_left strip) to_come u among e)) in
          next.clear z entry.positive (entry_node segments strip come.few q hq u is goes (coming.waits e) z entry e) (entry_after segments strip come.few q hq u is goes (coming.waits e) z entry e) less
      by (no e) =
          next.clear (whole u.left) one_positive (All-contains (λ u. IsTrue (is_node segments (whole u.left))) units u are.left_nodes unit) (coming.later e)
          (sym (alike_left z (whole u.left) r entry.positive one_positive hr (entry.left e)) ∙ less)

-- ---- those that enter at a node are the first of those to come
abbrev pub seg_of_start : Start → Segment
seg_of_start s = s.unit.seg

module _ (strip : Span) (at_r : HPoint) (coming : List Start) (entries : All (λ s. IsEntry strip s.unit.seg (place s.at)) coming) where
  abbrev r : Point
  r = place at_r

  hr' : pos 0 <ℤ r.w
  hr' = place_positive at_r

  abbrev enters : Start → Bool
  enters s = same_hpoint s.at at_r

  abbrev k : ℕ
  k = prefix_len enters coming

  few : k ≤ length coming
  few = prefix_len-le-length enters coming

  same_from : (s : Start) → enters s ≡ true → IsTrue (same_place (place s.at) r)
  same_from s e = sym (is_eq_then _ _) ∙ e

  pub all_enter : All (λ u. (z : Point) × IsEntry strip u z × IsTrue (same_place z r)) (map seg_of_start (take k coming))
  all_enter = All-map (λ u. (z : Point) × IsEntry strip u z × IsTrue (same_place z r)) seg_of_start (take k coming) each
    where
      each : All (λ s. (z : Point) × IsEntry strip (seg_of_start s) z × IsTrue (same_place z r)) (take k coming)
      each i d l =
          let inside : i < k = omega (arith, l, length-take-le k coming few) in
          let e = get_or-take k coming i d inside in
          subst (λ s. (z : Point) × IsEntry strip (seg_of_start s) z × IsTrue (same_place z r)) (sym e)
          (place (get_or coming i d).at, entries i d (omega (arith, inside, few)), same_from (get_or coming i d) (prefix_len_passes enters coming i d inside))

  module _ (ordered : AllPairs (λ s t. ¬ (point_cmp (place t.at) (place s.at) ≡ Less)) coming) (none_before : (s : Start) → Contains coming s → point_cmp (place s.at) r ≡ Less → ⊥) where
    -- one after the first ones is met later
    module _ (i : ℕ) (d : Start) (l : k + i < length coming) where
      abbrev x : Point
      x = place (get_or coming k d).at

      abbrev z : Point
      z = place (get_or coming (k + i) d).at

      hx : pos 0 <ℤ x.w
      hx = place_positive (get_or coming k d).at

      hz : pos 0 <ℤ z.w
      hz = place_positive (get_or coming (k + i) d).at

      inside : k < length coming
      inside = omega (arith, l)

      not_back : point_cmp z x ≡ Less → ⊥
      not_back = by (cases_eq i 0)
        where
          by : (i ≡ 0) ⊎ (i ≢ 0) → point_cmp z x ≡ Less → ⊥
          by (inl e) =
              let same : k + i ≡ k = omega (arith, e) in
              subst (λ j. point_cmp (place (get_or coming j d).at) x ≡ Less → ⊥) (sym same) (not_before_self x x hx hx (same_self x))
          by (inr ne) = ordered k (k + i) d (omega (arith, ne)) l

      by_next : point_cmp r x ≡ Less → Way r z → point_cmp r z ≡ Less
      by_next h (before e) = e
      by_next h (at e) = absurd (not_back (sym (alike_left r z x hr' hz hx e) ∙ h))
      by_next h (after e) = absurd (not_back (less_through z r x hz hr' hx e h))

      by_first : Way r x → point_cmp r z ≡ Less
      by_first (before e) = by_next e (way_of r z hr' hz)
      by_first (at e) = absurd (both_ways (enters (get_or coming k d)) (prefix_len_stops enters coming d inside) (is_eq_then _ _ ∙ same_turned r x e))
      by_first (after e) = absurd (none_before (get_or coming k d) (Contains-get_or coming k d inside) e)

      later : point_cmp r z ≡ Less
      later = by_first (way_of r x hr' hx)

    pub all_later : All (λ u. (z : Point) × IsEntry strip u z × (point_cmp r z ≡ Less)) (map seg_of_start (drop k coming))
    all_later = All-map (λ u. (z : Point) × IsEntry strip u z × (point_cmp r z ≡ Less)) seg_of_start (drop k coming) each
      where
        each : All (λ s. (z : Point) × IsEntry strip (seg_of_start s) z × (point_cmp r z ≡ Less)) (drop k coming)
        each i d l =
            let inside : k + i < length coming = omega (arith, l, length-drop k coming, few) in
            subst (λ s. (z : Point) × IsEntry strip (seg_of_start s) z × (point_cmp r z ≡ Less)) (sym (get_or-drop k coming i d))
            (place (get_or coming (k + i) d).at, entries (k + i) d inside, later i d inside)
