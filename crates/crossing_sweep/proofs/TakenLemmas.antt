-- What the code does at a node is one step of a pass.
use Rattle.std.proofs.Common.{◌≡◌, ℕ, ℤ, pos, ◌+◌, ◌<◌, ◌≤◌, ◌*ℤ◌, ◌<ℤ◌, ◌≤ℤ◌, int_le, append_assoc, inl, inr, ◌⊎◌, Bool, true, false, List, [], ◌∷◌, ◌++◌, map, take, drop, length, get_or, ap, sym, subst, ◌∙◌, arith}
use Rattle.std.specs.Prelude.{IsTrue, All, Contains, filter, ◌≢◌}
use Rattle.std.specs.List.{AllPairs, prefix_len, slice_range}
use Rattle.std.specs.List.Sorted.{IsPermutation}
use Rattle.std.proofs.lemmas.Int.{ints}
use Rattle.std.proofs.lemmas.Bool.{and_parts, and_from, or_left, both_ways}
use Rattle.std.proofs.lemmas.List.{map-append, take-append-drop, length-map, length-take-le}
use Rattle.std.proofs.lemmas.List.Folds.{drop_split}
use Rattle.std.proofs.Math.ListN.{length-append}
use Rattle.std.proofs.lemmas.List.Elements.{All-map, All-contains, Contains-get_or, Contains-append_cases, Contains-append_left, Contains-append_right}
use Rattle.std.specs.declared.cmp.Ordering.TheVariants.{Less}
use Rattle.overlay_terms.specs.Plane.{Point, Segment, whole, point_cmp, same_place, height_over}
use Rattle.overlay_terms.specs.Column.{border}
use Rattle.overlay_terms.specs.Layers.{Marked}
use Rattle.overlay_terms.specs.TileLaws.{IsProper}
use Rattle.overlay_terms.proofs.InputNumbers.{x_in_order, most_back, most_times, last_turned, le_true, true_le}
use Rattle.overlay_terms.proofs.Lists.{any_from, any_contains, contains_map, Contains-cons_cases, contains_first, contains_rest, from_map}
use Rattle.exact_point.specs.Crossing.{IsCrossingOf, turn_of}
use Rattle.exact_point.specs.Place.{place, same_hpoint}
use Rattle.exact_point.specs.declared.point.HPoint.{HPoint}
use Rattle.exact_point.specs.declared.point_name.PointName.{PointName}
use Rattle.exact_point.proofs.PlaceOrder.{not_before_self, same_turned, less_through}
use Rattle.arrange.specs.Units.{IsUnit}
use Rattle.arrange.specs.declared.unit.Unit.{Unit}
use Rattle.arrange.proofs.FoundLemmas.{place_positive}
use Rattle.crossing_sweep.specs.StripInput.{StripInput, is_in_strip, segments_in, is_in_closed_strip}
use Rattle.crossing_sweep.specs.Leaning.{lean, lean_segment, IsAfter}
use Rattle.crossing_sweep.specs.Status.{IsStretchOf, IsActive, IsStatus, AreOrderedAfter, SidesFallAlong}
use Rattle.crossing_sweep.specs.NextNode.{IsNextNode}
use Rattle.crossing_sweep.specs.Queue.{GoesOn, IsUpTo, IsQueued}
use Rattle.crossing_sweep.specs.Step.{AreStretches, IsSplitAt, IsGrown}
use Rattle.crossing_sweep.specs.Passing.{waiting, IsAhead, HasCome, IsEntry, IsStepTo}
use Rattle.crossing_sweep.specs.Ahead.{points_of}
use Rattle.crossing_sweep.specs.Member.{seg_of, units_of, segs_of, ends_after}
use Rattle.crossing_sweep.specs.Rows.{AreBegun, mask_over, rows_of}
use Rattle.crossing_sweep.specs.declared.row.Row.{Row}
use Rattle.crossing_sweep.specs.Testing.{IsInOrder, IsFoundIn, CrossAhead, AreSeamsTested, seams_at}
use Rattle.crossing_sweep.specs.Stepping.{segs_to_come, StandsBefore, IsStepped}
use Rattle.crossing_sweep.specs.declared.member.Member.{Member}
use Rattle.crossing_sweep.specs.declared.start.Start.{Start}
use Rattle.crossing_sweep.specs.declared.search.Search.{Search}
use Rattle.overlay_terms.specs.Tiles.{is_end, is_on_border, is_node}
use Rattle.tile_laws.proofs.Ranks.{Told, yes, no, told}
use Rattle.crossing_sweep.proofs.BorderLemmas.{fixed_on_border}
use Rattle.crossing_sweep.proofs.RightBorder.{not_left, not_last, on_border as on_right}
use Rattle.overlay_terms.proofs.Pairs.{all_first, pairs_first, pairs_map}
use Rattle.crossing_sweep.proofs.StretchLemmas.{stretches_cross}
use Rattle.crossing_sweep.proofs.UnitStretchLemmas.{units_are_stretches, end_at_right}
use Rattle.crossing_sweep.proofs.PassLemmas.{all_of, first_is_node, entered_holds}
use Rattle.crossing_sweep.proofs.QueueLemmas.{up_to_next}
use Rattle.crossing_sweep.proofs.TurnLemmas.{status_turned_round}
use Rattle.crossing_sweep.proofs.KnownLemmas.{point_small}
use Rattle.crossing_sweep.proofs.ComingLemmas.{falls, not_met_before, all_enter, all_later}
use Rattle.crossing_sweep.proofs.StayLemmas.{stay_from, stay_all, stay_turned}
use Rattle.crossing_sweep.proofs.TurnedLemmas.{unit_after, same_segs, segs_moved, stay_units}

-- the segments of the three parts of a status
pub segs_parts : (under bundle over : List Member) → segs_of (under ++ bundle ++ over) ≡ segs_of under ++ segs_of bundle ++ segs_of over
segs_parts under bundle over = map-append seg_of (under ++ bundle) over ∙ ap (λ us. us ++ segs_of over) (map-append seg_of under bundle)

module _ (input : StripInput) (n : ℤ) (units : List Unit) (q : Point) (at : HPoint) (under bundle over stay : List Member) (coming entering rest : List Start) (old new : Search)
    (stands : StandsBefore n input units q at (under ++ bundle ++ over) coming old.ahead)
    (enters : entering ≡ take (prefix_len (λ s. same_hpoint s.at at) coming) coming) (remains : rest ≡ drop (prefix_len (λ s. same_hpoint s.at at) coming) coming)
    (split_of : SidesFallAlong (place at) (segs_of (under ++ bundle ++ over)) → IsSplitAt (place at) (segs_of under) (segs_of bundle) (segs_of over))
    (moved : IsPermutation (filter (ends_after (place at)) (segs_of bundle ++ segs_to_come entering)) (segs_of stay)) (sorted : AllPairs (λ a b. pos 0 ≤ℤ turn_of a b) (segs_of stay))
    (tests : Bool) (known : tests ≡ false → (is_in_strip input.strip (place at) ≡ false) ⊎ (segs_of stay ≡ segs_of bundle))
    (tested : AreSeamsTested input.strip (place at) (segs_of (under ++ stay ++ over)) (seams_at tests (length under) (length (under ++ stay))) old new) where
  abbrev r : Point
  r = place at

  abbrev segments : List Segment
  segments = segments_in input

  abbrev unit_segs : List Segment
  unit_segs = map (λ (u : Unit). u.seg) units

  abbrev keys : List Point
  keys = points_of old.ahead

  abbrev u : List Segment
  u = segs_of under

  abbrev b : List Segment
  b = segs_of bundle

  abbrev o : List Segment
  o = segs_of over

  abbrev s : List Segment
  s = segs_of stay

  abbrev e : List Segment
  e = segs_to_come entering

  abbrev t : List Segment
  t = segs_to_come rest

  proper : All IsProper segments
  proper = All-map IsProper (λ (m : Marked). m.segment) input.marked stands.valid.proper

  stretches : AreStretches segments unit_segs
  stretches = units_are_stretches input units stands.valid stands.are

  whole_coming : entering ++ rest ≡ coming
  whole_coming =
      ap (λ xs. xs ++ rest) enters ∙ ap (λ ys. take (prefix_len (λ s. same_hpoint s.at at) coming) coming ++ ys) remains ∙ take-append-drop (prefix_len (λ s. same_hpoint s.at at) coming) coming

  coming_parts : segs_to_come coming ≡ e ++ t
  coming_parts = ap segs_to_come (sym whole_coming) ∙ map-append (λ (s : Start). s.unit.seg) entering rest

  come : HasCome n segments unit_segs input.strip q (u ++ b ++ o) (e ++ t) (r ∷ keys)
  come =
      subst (λ (us : List Segment). HasCome n segments unit_segs input.strip q us (e ++ t) (r ∷ keys)) (segs_parts under bundle over)
      (subst (λ (us : List Segment). HasCome n segments unit_segs input.strip q (segs_of (under ++ bundle ++ over)) us (r ∷ keys)) coming_parts stands.come)

  least : All (λ z. point_cmp r z ≡ Less) keys
  least = All-map (λ z. point_cmp r z ≡ Less) (λ (d : HPoint × PointName). place d.0) old.ahead stands.least

  next : IsNextNode segments q r
  next = first_is_node n segments unit_segs input.strip q r (u ++ b ++ o) (e ++ t) keys stands.steep proper come least

  hr : pos 0 <ℤ r.w
  hr = place_positive at

  split : IsSplitAt r u b o
  split = split_of (subst (λ (us : List Segment). SidesFallAlong r us) (sym (segs_parts under bundle over))
      (falls n segments unit_segs input.strip q r (u ++ b ++ o) (e ++ t) (r ∷ keys) stands.steep proper stretches come next))

  -- ---- those that enter, and those that come later
  enter : All (λ u. (z : Point) × IsEntry input.strip u z × IsTrue (same_place z r)) e
  enter =
      subst (λ (xs : List Start). All (λ u. (z : Point) × IsEntry input.strip u z × IsTrue (same_place z r)) (segs_to_come xs)) (sym enters) (all_enter input.strip at coming stands.entries)

  not_earlier : (x : Start) → Contains coming x → point_cmp (place x.at) r ≡ Less → ⊥
  not_earlier x c =
      not_met_before n segments unit_segs input.strip q r (u ++ b ++ o) (e ++ t) (r ∷ keys) stands.steep proper stretches come next x.unit.seg
      (subst (λ (us : List Segment). Contains us x.unit.seg) coming_parts (contains_map (λ (s : Start). s.unit.seg) coming x c)) (place x.at)
      (All-contains (λ s. IsEntry input.strip s.unit.seg (place s.at)) coming x stands.entries c)

  remain : All (λ u. (z : Point) × IsEntry input.strip u z × (point_cmp r z ≡ Less)) t
  remain =
      subst (λ (xs : List Start). All (λ u. (z : Point) × IsEntry input.strip u z × (point_cmp r z ≡ Less)) (segs_to_come xs)) (sym remains)
      (all_later input.strip at coming stands.entries stands.ordered not_earlier)

  once : AllPairs (λ a b. a ≢ b) e
  once =
      pairs_map (λ a b. a ≢ b) (λ (s : Start). s.unit.seg) entering
      (pairs_first (λ (x y : Start). x.unit.seg ≢ y.unit.seg) entering rest (subst (λ (xs : List Start). AllPairs (λ x y. x.unit.seg ≢ y.unit.seg) xs) (sym whole_coming) stands.once))

  are_units : All (IsUnit input.marked) unit_segs
  are_units = All-map (IsUnit input.marked) (λ (u : Unit). u.seg) units stands.are.sound

  -- ---- those that stay
  from : (v : Segment) → Contains s v → (Contains b v ⊎ Contains e v) × GoesOn v r
  from v c = stay_from n segments unit_segs input.marked input.strip q r u b o e t (r ∷ keys) stands.steep stretches are_units come next split enter once s moved v c

  abbrev w : List Segment
  w = waiting input.strip (e ++ t)

  unit_among : (v : Segment) → Contains (segs_of (under ++ stay ++ over)) v → Contains unit_segs v
  unit_among v c = last (Contains-append_cases (u ++ s) o v (subst (λ (us : List Segment). Contains us v) (segs_parts under stay over) c))
    where
      of_status : Contains (u ++ b ++ o) v → Contains unit_segs v
      of_status d = All-contains (Contains unit_segs) (u ++ b ++ o ++ w) v come.full.among (Contains-append_left (u ++ b ++ o) w v d)

      of_stay : Contains b v ⊎ Contains e v → Contains unit_segs v
      of_stay (inl d) = of_status (Contains-append_left (u ++ b) o v (Contains-append_right u b v d))
      of_stay (inr d) = All-contains (Contains unit_segs) (e ++ t) v come.among (Contains-append_left e t v d)

      two : Contains u v ⊎ Contains s v → Contains unit_segs v
      two (inl d) = of_status (Contains-append_left (u ++ b) o v (Contains-append_left u b v d))
      two (inr d) = of_stay (from v d).0

      last : Contains (u ++ s) v ⊎ Contains o v → Contains unit_segs v
      last (inl d) = two (Contains-append_cases u s v d)
      last (inr d) = of_status (Contains-append_right (u ++ b) o v d)

  stretch_of : (v : Segment) → Contains (segs_of (under ++ stay ++ over)) v → IsStretchOf segments v
  stretch_of v c = All-contains (IsStretchOf segments) unit_segs v stretches.stretches (unit_among v c)

  -- ---- the members after the node are in order
  old_status : IsStatus n segments q r (u ++ b ++ o)
  old_status =
      let all = up_to_next n segments q r (u ++ b ++ o ++ w) stands.steep proper come.full.status_at next in
      record {
        from_small = all.from_small;
        to_small = all.to_small;
        in_order = all.in_order;
        clear = all.clear;
        stretches = all_first (IsStretchOf segments) (u ++ b ++ o) w all.stretches;
        active = all_first (λ u. IsActive u q r) (u ++ b ++ o) w all.active;
        ordered = pairs_first (λ a b. IsAfter (lean_segment n a) (lean_segment n b) (lean n q)) (u ++ b ++ o) w all.ordered;
      }

  stay_among : (v : Segment) → Contains s v → Contains (segs_of (under ++ stay ++ over)) v
  stay_among v c = subst (λ (us : List Segment). Contains us v) (sym (segs_parts under stay over)) (Contains-append_left (u ++ s) o v (Contains-append_right u s v c))

  stay_level : (v : Segment) → Contains s v → height_over v r ≡ pos 0
  stay_level v c = by (from v c).0
    where
      by : Contains b v ⊎ Contains e v → height_over v r ≡ pos 0
      by (inl h) = All-contains (λ u. height_over u r ≡ pos 0) b v split.hold h
      by (inr h) =
          let met = All-contains (λ u. (z : Point) × IsEntry input.strip u z × IsTrue (same_place z r)) e v enter h in
          entered_holds input.strip r v (stretch_of v (stay_among v c)).proper hr met.0 met.1 met.2

  sorted_stay : AllPairs (λ a b. pos 0 <ℤ turn_of a b) s
  sorted_stay = stay_turned n segments unit_segs input.marked input.strip q r u b o e t (r ∷ keys) stands.steep stretches are_units come next split enter once s moved sorted

  in_order : IsInOrder r (segs_of (under ++ stay ++ over))
  in_order = record {
    n = n;
    steep = stands.steep;
    small = next.small;
    proper = all_of IsProper (segs_of (under ++ stay ++ over)) (λ v c. (stretch_of v c).proper);
    ordered =
        subst (λ (us : List Segment). AreOrderedAfter n r us) (sym (segs_parts under stay over))
        (status_turned_round n segments q r u b o s stands.steep old_status split.passes_under split.passes_over
        (record { stretches = all_of (IsStretchOf segments) s (λ v c. stretch_of v (stay_among v c)); hold = all_of (λ v. height_over v r ≡ pos 0) s stay_level; turned = sorted_stay }));
  }

  -- ---- the places found ahead
  first : IsAhead segments input.strip q r
  first = All-contains (IsAhead segments input.strip q) (r ∷ keys) r come.ahead (contains_first r keys)

  ahead : All (IsAhead segments input.strip r) (points_of new.ahead)
  ahead = All-map (IsAhead segments input.strip r) (λ (d : HPoint × PointName). place d.0) new.ahead (all_of (λ (d : HPoint × PointName). IsAhead segments input.strip r (place d.0)) new.ahead (λ d c. by d (tested.only in_order d c)))
    where
      by : (d : HPoint × PointName) → Contains old.ahead d ⊎ IsFoundIn input.strip r (segs_of (under ++ stay ++ over)) old.listed new.tests.items d → IsAhead segments input.strip r (place d.0)
      by d (inl c) =
          let was = All-contains (IsAhead segments input.strip q) (r ∷ keys) (place d.0) come.ahead (contains_rest r keys (place d.0) (contains_map (λ (d : HPoint × PointName). place d.0) old.ahead d c)) in
          record { small = was.small; node = was.node; after = All-contains (λ (d : HPoint × PointName). point_cmp r (place d.0) ≡ Less) old.ahead d stands.least c; from = was.from; up_to = was.up_to }
      by d (inr f) =
          let parts = and_parts (int_le (border input.strip.first *ℤ (place d.0).w) (place d.0).x) (int_le (place d.0).x (border (input.strip.last + 1) *ℤ (place d.0).w)) f.found.in_strip in
          record {
            small = point_small d.0;
            node = stretches_cross segments f.lower f.upper (place d.0) (stretch_of f.lower f.lower_among) (stretch_of f.upper f.upper_among) (place_positive d.0) f.found.crossing.on_first f.found.crossing.on_second
                f.found.crossing.not_parallel;
            after = f.found.after;
            from = le_true (border input.strip.first *ℤ (place d.0).w) (place d.0).x parts.0;
            up_to = le_true (place d.0).x (border (input.strip.last + 1) *ℤ (place d.0).w) parts.1;
          }

  kept : (p : Point) → pos 0 <ℤ p.w → IsQueued (r ∷ keys) p → point_cmp r p ≡ Less → IsQueued (points_of new.ahead) p
  kept p hp queued less = by (Contains-cons_cases r keys queued.1 (any_contains (λ z. IsTrue (same_place p z)) (r ∷ keys) queued))
    where
      by : (r ≡ queued.1) ⊎ Contains keys queued.1 → IsQueued (points_of new.ahead) p
      by (inl f) = absurd (not_before_self r p hr hp (same_turned p r (subst (λ z. IsTrue (same_place p z)) (sym f) queued.4)) less)
      by (inr c) =
          let d = from_map (λ (d : HPoint × PointName). place d.0) old.ahead queued.1 c in
          any_from (λ z. IsTrue (same_place p z)) (points_of new.ahead) (place d.0.0) (contains_map (λ (d : HPoint × PointName). place d.0) new.ahead d.0 (tested.kept d.0 d.1))
          (subst (λ z. IsTrue (same_place p z)) (sym d.2) queued.4)

  within : (p : Point) → pos 0 <ℤ p.w → point_cmp r p ≡ Less → IsUpTo input.strip p → IsTrue (is_in_closed_strip input.strip p)
  within p hp less up_to =
      and_from (int_le (border input.strip.first *ℤ p.w) p.x) (int_le p.x (border (input.strip.last + 1) *ℤ p.w))
      (true_le (border input.strip.first *ℤ p.w) p.x (from_later (border input.strip.first) r.x r.w p.x p.w hr hp first.from (x_in_order r p less)))
      (true_le p.x (border (input.strip.last + 1) *ℤ p.w) up_to)
    where
      from_later : (b x w y v : ℤ) → pos 0 <ℤ w → pos 0 <ℤ v → (b *ℤ w) ≤ℤ x → (x *ℤ v) ≤ℤ (y *ℤ w) → (b *ℤ v) ≤ℤ y
      from_later b x w y v hw hv h k = most_back (b *ℤ v) y w hw (omega (arith, ints, k, most_times (b *ℤ w) x v hv h, last_turned b w v))

  abbrev Found : Segment → Segment → Point → Type 0
  Found a b p = pos 0 <ℤ p.w → IsCrossingOf a b p → point_cmp r p ≡ Less → IsUpTo input.strip p → IsQueued (points_of new.ahead) p

  -- on the right border of the strip each node was known before
  on_border : is_in_strip input.strip r ≡ false → (a b : Segment) (p : Point) → Contains (u ++ s ++ o) a → Contains (u ++ s ++ o) b → Found a b p
  on_border out a b p among_a among_b hp crossing less up_to =
      kept p hp (come.queue.fixed p hp (fixed_on_border segments (input.strip.last + 1) p (not_last input.strip.last at stands.valid.known past) node (on_right input.strip r p hr hp past less up_to))
      (less_through q r p stands.come.full.status_at.small.positive hr hp first.after less) up_to) less
    where
      past : (border (input.strip.last + 1) *ℤ r.w) ≤ℤ r.x
      past = not_left input.strip r first.from out

      whole : (v : Segment) → Contains (u ++ s ++ o) v → IsStretchOf segments v
      whole v c = stretch_of v (subst (λ (us : List Segment). Contains us v) (sym (segs_parts under stay over)) c)

      node : IsTrue (is_node segments p)
      node = stretches_cross segments a b p (whole a among_a) (whole b among_b) hp crossing.on_first crossing.on_second crossing.not_parallel

  -- where the neighbours are those that there were, their crossings were known before
  by_old : s ≡ b → (i : ℕ) (d : Segment) (p : Point) → i + 1 < length (u ++ s ++ o) → Found (get_or (u ++ s ++ o) i d) (get_or (u ++ s ++ o) (i + 1) d) p
  by_old same i d p inside hp crossing less up_to =
      kept p hp (seams i d p inside hp crossing (less_through q r p stands.come.full.status_at.small.positive hr hp first.after less) up_to) less
    where
      WereKnown : List Segment → Type 0
      WereKnown us = (i : ℕ) (d : Segment) (p : Point) → i + 1 < length us → pos 0 <ℤ p.w → IsCrossingOf (get_or us i d) (get_or us (i + 1) d) p → point_cmp q p ≡ Less → IsUpTo input.strip p
          → IsQueued (r ∷ keys) p

      seams : WereKnown (u ++ s ++ o)
      seams = subst (λ (us : List Segment). WereKnown (u ++ us ++ o)) (sym same) come.queue.seams

  -- else the two seams are tested
  at_seams : tests ≡ true → (i : ℕ) (d : Segment) (p : Point) → (i + 1 ≡ length u) ⊎ (i + 1 ≡ length (u ++ s)) → i + 1 < length (u ++ s ++ o)
      → Found (get_or (u ++ s ++ o) i d) (get_or (u ++ s ++ o) (i + 1) d) p
  at_seams test i d p which inside hp crossing less up_to = by (told (same_place p (whole lower.right)))
    where
      lower : Segment
      lower = get_or (u ++ s ++ o) i d

      seams : List ℕ
      seams = length under ∷ length (under ++ stay) ∷ []

      both : AreSeamsTested input.strip r (segs_of (under ++ stay ++ over)) seams old new
      both = subst (λ b. AreSeamsTested input.strip r (segs_of (under ++ stay ++ over)) (seams_at b (length under) (length (under ++ stay))) old new) test tested

      found : (i : ℕ) (d : Segment) (p : Point) → Contains seams (i + 1) → i + 1 < length (u ++ s ++ o) → CrossAhead input.strip r (get_or (u ++ s ++ o) i d) (get_or (u ++ s ++ o) (i + 1) d) p
          → IsQueued (points_of new.ahead) p
      found =
          subst (λ (us : List Segment).
          (i : ℕ) (d : Segment) (p : Point) → Contains seams (i + 1) → i + 1 < length us → CrossAhead input.strip r (get_or us i d) (get_or us (i + 1) d) p → IsQueued (points_of new.ahead) p)
          (segs_parts under stay over) (both.found in_order)

      seam : (i : ℕ) → (i + 1 ≡ length u) ⊎ (i + 1 ≡ length (u ++ s)) → Contains seams (i + 1)
      seam i (inl f) = subst (λ x. Contains seams x) (sym (f ∙ length-map under seg_of)) (contains_first (length under) (length (under ++ stay) ∷ []))
      seam i (inr f) =
          subst (λ x. Contains seams x) (sym (f ∙ ap length (sym (map-append seg_of under stay)) ∙ length-map (under ++ stay) seg_of))
          (contains_rest (length under) (length (under ++ stay) ∷ []) (length (under ++ stay)) (contains_first (length (under ++ stay)) []))

      among : Contains unit_segs lower
      among = unit_among lower
          (subst (λ (us : List Segment). Contains us lower) (sym (segs_parts under stay over)) (Contains-get_or (u ++ s ++ o) i d (omega (arith, inside))))

      -- where the lower one ends, the place was known before
      by : Told (same_place p (whole lower.right)) → IsQueued (points_of new.ahead) p
      by (yes e) =
          kept p hp (come.queue.fixed p hp (or_left (is_end segments p) (is_on_border segments p) (end_at_right input lower p (All-contains (IsUnit input.marked) unit_segs lower are_units among) e))
          (less_through q r p stands.come.full.status_at.small.positive hr hp first.after less) up_to) less
      by (no e) =
          found i d p (seam i which) inside (record { positive = hp; crossing = crossing; after = less; in_strip = within p hp less up_to; no_end = λ f. both_ways (same_place p (whole lower.right)) e f })

  grown : IsGrown input.strip r u s o (r ∷ keys) (points_of new.ahead)
  grown = record { kept = kept; tested = λ i d p which inside. by i d p which inside (told tests) }
    where
      untested : (i : ℕ) (d : Segment) (p : Point) → i + 1 < length (u ++ s ++ o) → (is_in_strip input.strip r ≡ false) ⊎ (s ≡ b) → Found (get_or (u ++ s ++ o) i d) (get_or (u ++ s ++ o) (i + 1) d) p
      untested i d p inside (inr same) = by_old same i d p inside
      untested i d p inside (inl out) =
          on_border out (get_or (u ++ s ++ o) i d) (get_or (u ++ s ++ o) (i + 1) d) p (Contains-get_or (u ++ s ++ o) i d (before_next i (length (u ++ s ++ o)) inside)) (Contains-get_or (u ++ s ++ o) (i + 1) d inside)
        where
          before_next : (i n : ℕ) → i + 1 < n → i < n
          before_next i n l = omega (arith, l)

      by : (i : ℕ) (d : Segment) (p : Point) → (i + 1 ≡ length u) ⊎ (i + 1 ≡ length (u ++ s)) → i + 1 < length (u ++ s ++ o) → Told tests
          → Found (get_or (u ++ s ++ o) i d) (get_or (u ++ s ++ o) (i + 1) d) p
      by i d p which inside (yes e) = at_seams e i d p which inside
      by i d p which inside (no e) = untested i d p inside (known e)

  pub is_step : IsStepTo segments input.strip r u b o e s t keys (points_of new.ahead)
  is_step = record {
    split = split;
    enter = enter;
    remain = remain;
    stay_from = stay_from n segments unit_segs input.marked input.strip q r u b o e t (r ∷ keys) stands.steep stretches are_units come next split enter once s moved;
    stay_all = stay_all n segments unit_segs input.marked input.strip q r u b o e t (r ∷ keys) stands.steep stretches are_units come next split enter once s moved;
    turned = sorted_stay;
    least = least;
    grown = grown;
    ahead = ahead;
  }

-- what the code has done, by the numbers of members
module _ (input : StripInput) (at : HPoint) (begin : ℕ) (ms after turned stay : List Member) (low high len k : ℕ) (coming : List Start) (old new : Search) (rows more_rows : List Row) (in_order : low ≤ high)
    (few : high ≤ length ms)
    (split : SidesFallAlong (place at) (segs_of ms) → IsSplitAt (place at) (segs_of (take low ms)) (segs_of (slice_range ms low high)) (segs_of (drop high ms)))
    (count : k ≡ prefix_len (λ s. same_hpoint s.at at) coming)
    (moved : IsPermutation (filter (unit_after (place at)) (units_of (slice_range ms low high) ++ map (λ (s : Start). s.unit) (take k coming))) (units_of turned))
    (sorted : AllPairs (λ a b. pos 0 ≤ℤ turn_of a b) (segs_of turned)) (labelled : units_of stay ≡ units_of turned)
    (begun : AreBegun input.steps (mask_over 0 (take low ms)) begin (is_in_strip input.strip (place at)) stay) (closed : more_rows ≡ rows ++ rows_of begin (slice_range ms low high))
    (is : after ≡ take low ms ++ stay ++ drop high ms) (long : len ≡ length stay) (tests : Bool)
    (known : tests ≡ false → (is_in_strip input.strip (place at) ≡ false) ⊎ (segs_of stay ≡ segs_of (slice_range ms low high))) (tested : AreSeamsTested input.strip (place at) (segs_of after) (seams_at tests low (low + len)) old new) where
  was : ms ≡ take low ms ++ slice_range ms low high ++ drop high ms
  was =
      sym (take-append-drop low ms) ∙ ap (λ ys. take low ms ++ ys) (drop_split ms low high in_order) ∙ sym (append_assoc (take low ms) (slice_range ms low high) (drop high ms))

  below : length (take low ms) ≡ low
  below = length-take-le low ms (omega (arith, in_order, few))

  up : low + len ≡ length (take low ms ++ stay)
  up = omega (arith, length-append (take low ms) stay, below, long)

  seams_tested : AreSeamsTested input.strip (place at) (segs_of after) (seams_at tests (length (take low ms)) (length (take low ms ++ stay))) old new
  seams_tested =
      subst (λ j. AreSeamsTested input.strip (place at) (segs_of after) (seams_at tests j (length (take low ms ++ stay))) old new) (sym below)
      (subst (λ j. AreSeamsTested input.strip (place at) (segs_of after) (seams_at tests low j) old new) up tested)

  stay_moved : IsPermutation (filter (unit_after (place at)) (units_of (slice_range ms low high) ++ map (λ (s : Start). s.unit) (take k coming))) (units_of stay)
  stay_moved =
      subst (λ (us : List Unit). IsPermutation (filter (unit_after (place at)) (units_of (slice_range ms low high) ++ map (λ (s : Start). s.unit) (take k coming))) us) (sym labelled) moved

  stay_sorted : AllPairs (λ a b. pos 0 ≤ℤ turn_of a b) (segs_of stay)
  stay_sorted = subst (λ (us : List Segment). AllPairs (λ a b. pos 0 ≤ℤ turn_of a b) us) (same_segs turned stay (sym labelled)) sorted

  pub stepped : IsStepped input at begin ms after coming (drop k coming) old new rows more_rows
  stepped = record {
    under = take low ms;
    bundle = slice_range ms low high;
    over = drop high ms;
    stay = stay;
    entering = take k coming;
    was = was;
    is = is;
    came = sym (take-append-drop k coming);
    among = stay_units (place at) (slice_range ms low high) stay (take k coming) stay_moved;
    begun = begun;
    closed = closed;
    tests = tests;
    known = known;
    tested = seams_tested;
    step = λ n units q stands.
        is_step input n units q at (take low ms) (slice_range ms low high) (drop high ms) stay coming (take k coming) (drop k coming) old new
        (subst (λ (xs : List Member). StandsBefore n input units q at xs coming old.ahead) was stands) (ap (λ j. take j coming) count) (ap (λ j. drop j coming) count)
        (λ falls. split (subst (λ (xs : List Member). SidesFallAlong (place at) (segs_of xs)) (sym was) falls)) (segs_moved (place at) (slice_range ms low high) stay (take k coming) stay_moved) stay_sorted
        tests known (subst (λ (xs : List Member). AreSeamsTested input.strip (place at) (segs_of xs) (seams_at tests (length (take low ms)) (length (take low ms ++ stay))) old new) is seams_tested);
  }
