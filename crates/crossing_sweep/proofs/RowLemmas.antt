-- One step of a pass carries on: the pieces that end at the next node become rows, and the pieces that begin there are carried.
use Rattle.std.proofs.Common.{◌≡◌, ℕ, ℤ, pos, ◌+◌, ◌<◌, ◌-ℤ◌, ◌*ℤ◌, ◌<ℤ◌, ◌≤ℤ◌, inl, inr, ◌⊎◌, Bool, true, false, ◌&&◌, List, [], ◌∷◌, ◌++◌, length, get_or, map, filter, refl, ap, sym, subst, ◌∙◌, arith, append_assoc}
use Rattle.std.specs.Prelude.{IsTrue, All, AllPairs, Any, Contains, int_le, int_lt}
use Rattle.std.proofs.lemmas.Int.{ints}
use Rattle.std.proofs.lemmas.Bool.{and_parts, and_from}
use Rattle.std.proofs.lemmas.List.{get_or_default}
use Rattle.std.proofs.lemmas.List.Elements.{All-head, All-map, All-filter, All-contains, All-append, filter_passes, Contains-append_cases, Contains-append_left, Contains-append_right}
use Rattle.std.proofs.lemmas.List.Kept.{AllPairs-filter}
use Rattle.std.proofs.Math.IntN.{*ℤ-zero, *ℤ_comm}
use Rattle.std.specs.declared.cmp.Ordering.TheVariants.{Less}
use Rattle.overlay_terms.specs.Plane.{Point, Segment, whole, point_cmp, same_place, height_over, is_on}
use Rattle.overlay_terms.specs.Column.{border}
use Rattle.overlay_terms.specs.Tiles.{is_node, midpoint, below_bits, over_bits, over_of}
use Rattle.overlay_terms.specs.TileLaws.{IsProper}
use Rattle.overlay_terms.specs.Trees.{steps_value}
use Rattle.overlay_terms.proofs.InputNumbers.{le_true, left_most, most_times, last_turned}
use Rattle.overlay_terms.proofs.Lists.{any_from, any_left, any_contains, contains_map, from_map}
use Rattle.exact_point.specs.Crossing.{turn_of}
use Rattle.exact_point.proofs.Lexical.{Forward}
use Rattle.exact_point.proofs.Lines.{gap, gap_at, flat_gap}
use Rattle.exact_point.proofs.OnLine.{within_on, on_line, one_direction, after_left, before_right, forward_from_less, way_up}
use Rattle.exact_point.proofs.Signs.{negative_times, not_negative_times}
use Rattle.exact_point.proofs.PlaceOrder.{Way, before, at, after, way_of, one_positive, less_through, alike_right, same_turned, on_same, not_after_less}
use Rattle.crossing_sweep.proofs.StripLemmas.{in_strip_alike, sides_alike}
use Rattle.tile_laws.proofs.Ranks.{Told, yes, no, told}
use Rattle.arrange.specs.Units.{AreUnits}
use Rattle.arrange.specs.declared.unit.Unit.{Unit}
use Rattle.arrange.proofs.UnitPieces.{IsUnitPiece, piece_on_unit}
use Rattle.crossing_sweep.specs.StripInput.{StripInput, IsStripInput, IsStripBoundary, is_in_strip, segments_in, Span}
use Rattle.crossing_sweep.specs.Leaning.{lean, lean_segment, IsSteep, IsSmall, IsAfter}
use Rattle.crossing_sweep.specs.Status.{IsStretchOf}
use Rattle.crossing_sweep.specs.NextNode.{IsNextNode}
use Rattle.crossing_sweep.specs.Queue.{GoesOn, IsStatusAt}
use Rattle.crossing_sweep.specs.Step.{AreStretches}
use Rattle.crossing_sweep.specs.Sides.{IsNodal}
use Rattle.crossing_sweep.specs.Border.{IsWaiting}
use Rattle.crossing_sweep.specs.Passing.{begins_left, waiting, IsToCome, IsAhead, HasCome, IsEntry, IsStepTo, IsTaken}
use Rattle.crossing_sweep.specs.Member.{seg_of, segs_of}
use Rattle.crossing_sweep.specs.Rows.{place_at, is_one_of, under_unit, up_to_unit, sides_differ, IsCarriedFrom, IsCarried, IsRow, row_to, rows_of, mask_over, BeginAt, Carries}
use Rattle.crossing_sweep.specs.RowLaws.{RowsGoOn}
use Rattle.crossing_sweep.specs.declared.member.Member.{Member}
use Rattle.crossing_sweep.specs.declared.row.Row.{Row}
use Rattle.crossing_sweep.proofs.Lean.{lean_height, lean_turn}
use Rattle.overlay_terms.proofs.Pairs.{all_first, all_second, pairs_first, pairs_second, all_pairs_append, pairs_map, pairs_from_map, all_from_map}
use Rattle.overlay_terms.proofs.Whole.{less_none, more_none}
use Rattle.crossing_sweep.proofs.SideLemmas.{known_few, bits_over}
use Rattle.crossing_sweep.proofs.MaskLemmas.{masks_step_up}
use Rattle.crossing_sweep.proofs.LastNodeLemmas.{last_node_stays}
use Rattle.crossing_sweep.proofs.ClosedLemmas.{stretch_is_closed}
use Rattle.crossing_sweep.proofs.UnitStretchLemmas.{units_are_stretches}
use Rattle.crossing_sweep.proofs.PassLemmas.{pass_goes_on, entered_holds, filter_contains, contains_filter, all_of}
use Rattle.crossing_sweep.proofs.Passed.{not_after_before, still_known, still_at, last_known, last_at, one_passed}
use Rattle.crossing_sweep.proofs.Labels.{before_in_strip, all_out, all_in, first_under}

-- ---- whether two values are one
differ_from : (u o : Bool) → is_one_of u o ≡ true → u ≡ o → ⊥
differ_from true true e f = absurd (apart e)
  where
    apart : false ≡ true → ⊥
    apart e = cc
differ_from true false e f = absurd (apart f)
  where
    apart : true ≡ false → ⊥
    apart e = cc
differ_from false true e f = absurd (apart f)
  where
    apart : false ≡ true → ⊥
    apart e = cc
differ_from false false e f = absurd (apart e)
  where
    apart : false ≡ true → ⊥
    apart e = cc

differ_back : (u o : Bool) → (u ≡ o → ⊥) → is_one_of u o ≡ true
differ_back true true h = absurd (h refl)
differ_back true false h = refl
differ_back false true h = refl
differ_back false false h = absurd (h refl)

-- ---- a unit that waits at the left border holds no earlier place of the strip
module _ (strip : Span) (q p : Point) (u : Segment) (proper : IsProper u) (hq : pos 0 <ℤ q.w) (hp : pos 0 <ℤ p.w) (waits : IsWaiting strip q u) (on : IsTrue (is_on u p)) (from : (border strip.first *ℤ p.w) ≤ℤ p.x) where
  wide : pos 0 ≤ℤ (u.right.x -ℤ u.left.x)
  wide = up_from u.left.x u.right.x (left_most u proper.first)
    where
      up_from : (l r : ℤ) → l ≤ℤ r → pos 0 ≤ℤ (r -ℤ l)
      up_from l r h = omega (arith, ints, h)

  no_earlier : Way p q → (point_cmp q p ≡ Less → ⊥) → ⊥
  no_earlier (before e) not_after = by (forward_from_less p q e)
    where
      not_right : (x w y v b : ℤ) → pos 0 <ℤ v → (b *ℤ w) ≤ℤ x → y ≡ b *ℤ v → pos 0 <ℤ ((y *ℤ w) -ℤ (x *ℤ v)) → ⊥
      not_right x w y v b hv h e l = omega (arith, ints, l, most_times (b *ℤ w) x v hv h, ap (λ z. z *ℤ w) e, last_turned b v w)

      higher : (d y e x w h : ℤ) → (d *ℤ y) -ℤ (e *ℤ x) ≡ w *ℤ h → x ≡ pos 0 → pos 0 <ℤ y → pos 0 ≤ℤ d → pos 0 <ℤ w → h <ℤ pos 0 → ⊥
      higher d y e x w h form none up hd hw low = omega (arith, ints, form, ap (λ z. e *ℤ z) none, *ℤ-zero e, not_negative_times d y hd up, *ℤ_comm w h, negative_times h w low hw)

      by : Forward ((q.x *ℤ p.w) -ℤ (p.x *ℤ q.w)) ((q.y *ℤ p.w) -ℤ (p.y *ℤ q.w)) → ⊥
      by (inl h) = not_right p.x p.w q.x q.w (border strip.first) hq from waits.on_border h
      by (inr h) = higher (u.right.x -ℤ u.left.x) ((q.y *ℤ p.w) -ℤ (p.y *ℤ q.w)) (u.right.y -ℤ u.left.y) ((q.x *ℤ p.w) -ℤ (p.x *ℤ q.w)) p.w (height_over u q) (way_up u p q (on_line u p on)) h.0 h.1 wide hp waits.passes_over
  no_earlier (at e) not_after = level (height_over u q) (on_line u q (sym (on_same u p q hp hq e) ∙ on)) waits.passes_over
    where
      level : (h : ℤ) → h ≡ pos 0 → h <ℤ pos 0 → ⊥
      level h e l = omega (arith, ints, e, l)
  no_earlier (after e) not_after = not_after e

-- ---- one step
module _ (n : ℤ) (input : StripInput) (units : List Unit) (q r : Point) (under bundle over stay : List Member) (entering rest : List Segment) (keys new passed : List Point) (rows : List Row) (end : ℕ)
    (steep : IsSteep n) (valid : IsStripInput input) (are : AreUnits input.marked units)
    (come : HasCome n (segments_in input) (map (λ (u : Unit). u.seg) units) input.strip q (segs_of under ++ segs_of bundle ++ segs_of over) (entering ++ rest) (r ∷ keys))
    (step : IsStepTo (segments_in input) input.strip r (segs_of under) (segs_of bundle) (segs_of over) entering (segs_of stay) rest keys new)
    (begin : BeginAt input units r passed under stay end) (carries : Carries n input q passed (under ++ bundle ++ over) rows) where
  proper : All IsProper (segments_in input)
  proper = All-map IsProper (λ m. m.segment) input.marked valid.proper

  stretches : AreStretches (segments_in input) (map (λ (u : Unit). u.seg) units)
  stretches = units_are_stretches input units valid are

  taken : IsTaken n (segments_in input) (map (λ (u : Unit). u.seg) units) input.strip q r (segs_of under ++ segs_of stay ++ segs_of over) rest new
  taken = pass_goes_on n (segments_in input) (map (λ (u : Unit). u.seg) units) input.strip q r (segs_of under) (segs_of bundle) (segs_of over) entering (segs_of stay) rest keys new steep proper stretches come step

  next : IsNextNode (segments_in input) q r
  next = taken.next

  nodal : IsNodal r
  nodal = begin.nodal

  hq : pos 0 <ℤ q.w
  hq = come.full.status_at.small.positive

  hr : pos 0 <ℤ r.w
  hr = next.small.positive

  first : IsAhead (segments_in input) input.strip q r
  first = All-head (IsAhead (segments_in input) input.strip q) r keys come.ahead

  abbrev later : List Point
  later = passed ++ r ∷ []

  end_known : end < length (passed ++ r ∷ [])
  end_known = last_known passed r end begin.number

  end_at : place_at (passed ++ r ∷ []) end ≡ r
  end_at = last_at passed r end begin.number

  -- ---- the members
  members_low : All (IsCarried n input passed q) (under ++ bundle)
  members_low = all_first (IsCarried n input passed q) (under ++ bundle) over carries.members

  -- where a member begins
  begin_place : (m : Member) → IsCarried n input passed q m → Contains passed (place_at passed m.begin)
  begin_place m c = (m.begin, c.known, get_or_default passed m.begin (place_at passed m.begin) _ c.known)

  positive_begin : (m : Member) → IsCarried n input passed q m → pos 0 <ℤ (place_at passed m.begin).w
  positive_begin m c = (All-contains IsSmall passed (place_at passed m.begin) carries.passes.small (begin_place m c)).positive

  not_later_begin : (m : Member) → IsCarried n input passed q m → point_cmp q (place_at passed m.begin) ≡ Less → ⊥
  not_later_begin m c = All-contains (λ z. point_cmp q z ≡ Less → ⊥) passed (place_at passed m.begin) carries.passes.up_to (begin_place m c)

  before_r : (m : Member) → IsCarried n input passed q m → point_cmp (place_at passed m.begin) r ≡ Less
  before_r m c = not_after_before (place_at passed m.begin) q r (positive_begin m c) hq hr (not_later_begin m c) next.after

  from_border : (m : Member) → IsCarried n input passed q m → (border input.strip.first *ℤ (place_at passed m.begin).w) ≤ℤ (place_at passed m.begin).x
  from_border m c = All-contains (λ z. (border input.strip.first *ℤ z.w) ≤ℤ z.x) passed (place_at passed m.begin) carries.passes.from (begin_place m c)

  -- one that does not hold the node goes on as it was
  kept : (m : Member) → IsCarried n input passed q m → (height_over (seg_of m) r ≡ pos 0 → ⊥) → IsCarried n input (passed ++ r ∷ []) r m
  kept m c off = record {
    known = still_known passed r m.begin c.known;
    carried =
        let P : Point → Type 0 = λ p. IsCarriedFrom n input p r m in
        subst P (sym (still_at passed r m.begin c.known))
        (record {
          on = c.carried.on;
          last = λ within. last_node_stays input (seg_of m) (place_at passed m.begin) q r hq (c.carried.last within) next off;
          over = c.carried.over;
          value = c.carried.value;
          differs = c.carried.differs;
        });
  }

  kept_under : All (IsCarried n input (passed ++ r ∷ []) r) under
  kept_under i d l =
      kept (get_or under i d) (all_first (IsCarried n input passed q) under bundle members_low i d l)
      (more_none (height_over (seg_of (get_or under i d)) r) (all_from_map (λ u. pos 0 <ℤ height_over u r) seg_of under step.split.passes_under i d l))

  kept_over : All (IsCarried n input (passed ++ r ∷ []) r) over
  kept_over i d l =
      kept (get_or over i d) (all_second (IsCarried n input passed q) (under ++ bundle) over carries.members i d l)
      (less_none (height_over (seg_of (get_or over i d)) r) (all_from_map (λ u. height_over u r <ℤ pos 0) seg_of over step.split.passes_over i d l))

  -- ---- those that begin
  new_status : IsStatusAt n (segments_in input) r (segs_of under ++ segs_of stay ++ segs_of over ++ waiting input.strip rest)
  new_status = taken.come.full.status_at

  stay_level : (m : Member) → Contains stay m → height_over (seg_of m) r ≡ pos 0
  stay_level m c = by (step.stay_from (seg_of m) (contains_map seg_of stay m c)).0
    where
      by : Contains (segs_of bundle) (seg_of m) ⊎ Contains entering (seg_of m) → height_over (seg_of m) r ≡ pos 0
      by (inl h) = All-contains (λ u. height_over u r ≡ pos 0) (segs_of bundle) (seg_of m) step.split.hold h
      by (inr h) =
          let met = All-contains (λ u. (z : Point) × IsEntry input.strip u z × IsTrue (same_place z r)) entering (seg_of m) step.enter h in
          let among = All-contains (Contains (map (λ (u : Unit). u.seg) units)) (entering ++ rest) (seg_of m) come.among (Contains-append_left entering rest (seg_of m) h) in
          entered_holds input.strip r (seg_of m) (All-contains (IsStretchOf (segments_in input)) (map (λ (u : Unit). u.seg) units) (seg_of m) stretches.stretches among).proper hr met.0 met.1 met.2

  stay_on : All (λ m. IsTrue (is_on (seg_of m) r)) stay
  stay_on = all_of (λ m. IsTrue (is_on (seg_of m) r)) stay on
    where
      on : (m : Member) → Contains stay m → IsTrue (is_on (seg_of m) r)
      on m c =
          let goes : GoesOn (seg_of m) r = (step.stay_from (seg_of m) (contains_map seg_of stay m c)).1 in
          within_on (seg_of m) r hr (stay_level m c) goes.begun (λ h. not_after_less r (whole (seg_of m).right) hr one_positive goes.lasting h)

  abbrev full : List Segment
  full = segs_of under ++ segs_of stay ++ segs_of over ++ waiting input.strip rest

  begun : All (IsCarried n input (passed ++ r ∷ []) r) stay
  begun = by (told (is_in_strip input.strip r))
    where
      split : segs_of under ++ segs_of stay ++ segs_of over ++ waiting input.strip rest ≡ segs_of under ++ (segs_of stay ++ (segs_of over ++ waiting input.strip rest))
      split = append_assoc (segs_of under ++ segs_of stay) (segs_of over) (waiting input.strip rest) ∙ append_assoc (segs_of under) (segs_of stay) (segs_of over ++ waiting input.strip rest)

      Within : Point → Type 0
      Within z = IsTrue (is_in_strip input.strip z)

      by : Told (is_in_strip input.strip r) → All (IsCarried n input (passed ++ r ∷ []) r) stay
      by (no e) = all_out n input units r (passed ++ r ∷ []) steep valid are nodal next.node end end_known end_at e (mask_over 0 under) stay stay_on begin.begun
      by (yes e) =
          let go_up = masks_step_up n input r full steep valid new_status in
          all_in n input units r (passed ++ r ∷ []) steep valid are nodal next.node end end_known end_at full (segs_of over ++ waiting input.strip rest) new_status go_up (segs_of under) stay (mask_over 0 under) split begin.among stay_on
          (first_under n input units r (passed ++ r ∷ []) steep valid are nodal next.node end end_known end_at full (segs_of over ++ waiting input.strip rest) new_status go_up e under (segs_of stay ++ (segs_of over ++ waiting input.strip rest)) split kept_under
          (λ i d l. let c = all_first (IsCarried n input passed q) under bundle members_low i d l in
          subst Within (sym (still_at passed r (get_or under i d).begin c.known)) (before_in_strip input.strip (place_at passed (get_or under i d).begin) r (positive_begin (get_or under i d) c) hr (from_border (get_or under i d) c) (before_r (get_or under i d) c) e))
          under refl)
          begin.begun

  -- ---- those that end
  -- what is known of a member of the bundle
  record IsEnding (m : Member) : Type 0 where
    pub carried : IsCarried n input passed q m
    pub stretch : IsStretchOf (segments_in input) (seg_of m)
    pub goes : GoesOn (seg_of m) q
    pub ends : IsTrue (is_node (segments_in input) (whole (seg_of m).right))
    pub level : height_over (seg_of m) r ≡ pos 0

  abbrev old_status : List Segment
  old_status = segs_of under ++ segs_of bundle ++ segs_of over ++ waiting input.strip (entering ++ rest)

  middle : (P : Segment → Type 0) → All P (segs_of under ++ segs_of bundle ++ segs_of over ++ waiting input.strip (entering ++ rest)) → All (λ m. P (seg_of m)) bundle
  middle P h =
      all_from_map P seg_of bundle
      (all_second P (segs_of under) (segs_of bundle) (all_first P (segs_of under ++ segs_of bundle) (segs_of over) (all_first P (segs_of under ++ segs_of bundle ++ segs_of over) (waiting input.strip (entering ++ rest)) h)))

  endings : All IsEnding bundle
  endings i d l = record {
    carried = all_second (IsCarried n input passed q) under bundle members_low i d l;
    stretch = middle (IsStretchOf (segments_in input)) come.full.status_at.stretches i d l;
    goes = middle (λ u. GoesOn u q) come.full.status_at.go_on i d l;
    ends = middle (λ u. IsTrue (is_node (segments_in input) (whole u.right))) come.full.status_at.end_at_nodes i d l;
    level = all_from_map (λ u. height_over u r ≡ pos 0) seg_of bundle step.split.hold i d l;
  }

  module _ (m : Member) (is : IsEnding m) where
    abbrev p : Point
    p = place_at passed m.begin

    on_r : IsTrue (is_on (seg_of m) r)
    on_r =
        within_on (seg_of m) r hr is.level (λ h. is.goes.begun (less_through q r (whole (seg_of m).left) hq hr one_positive next.after h))
        (λ h. next.clear (whole (seg_of m).right) one_positive is.ends is.goes.lasting h)

    module _ (within : IsTrue (is_in_strip input.strip (place_at passed m.begin))) where
      abbrev Sides : Type 0
      Sides = (below_bits input.marked (midpoint (place_at passed m.begin) r) ≡ under_unit n input (seg_of m) (place_at passed m.begin))
          × (over_bits input.marked (midpoint (place_at passed m.begin) r) ≡ up_to_unit n input (seg_of m) (place_at passed m.begin))

      -- the sides of the piece are what is under the unit and up to it where the piece begins
      sides : Sides
      sides =
          let closed = stretch_is_closed n input (seg_of m) (place_at passed m.begin) q r steep valid is.stretch is.goes (is.carried.carried.last within) next nodal hq is.level is.ends in
          ((λ i k. closed.under k i), (λ i k. closed.over k i))

      differ_there : (steps_value input.steps (below_bits input.marked (midpoint (place_at passed m.begin) r)) ≡ steps_value input.steps (over_bits input.marked (midpoint (place_at passed m.begin) r)) → ⊥)
          → sides_differ n input (seg_of m) (place_at passed m.begin) ≡ true
      differ_there apart =
          differ_back (steps_value input.steps (under_unit n input (seg_of m) (place_at passed m.begin))) (steps_value input.steps (up_to_unit n input (seg_of m) (place_at passed m.begin)))
          (λ e. apart (ap (steps_value input.steps) sides.0 ∙ e ∙ sym (ap (steps_value input.steps) sides.1)))

      piece_ends : sides_differ n input (seg_of m) (place_at passed m.begin) ≡ true → IsStripBoundary input.marked input.steps input.strip (place_at passed m.begin) r
      piece_ends d =
          let closed = stretch_is_closed n input (seg_of m) (place_at passed m.begin) q r steep valid is.stretch is.goes (is.carried.carried.last within) next nodal hq is.level is.ends in
          record {
            piece = closed.piece;
            begins = within;
            sides = λ e. differ_from (steps_value input.steps (under_unit n input (seg_of m) (place_at passed m.begin))) (steps_value input.steps (up_to_unit n input (seg_of m) (place_at passed m.begin))) d
                (sym (ap (steps_value input.steps) sides.0) ∙ e ∙ ap (steps_value input.steps) sides.1);
          }

      -- its value is what the layer is over the piece
      side_there : m.value ≡ over_of input.marked input.steps (place_at passed m.begin) r
      side_there =
          is.carried.carried.value
          ∙ ap (steps_value input.steps)
          (bits_over input.marked m.over (midpoint (place_at passed m.begin) r) (known_few input valid)
          (λ k few. is.carried.carried.over within k few ∙ sym (ap (λ bits. bits k) sides.1)))

    -- one that differs becomes a row
    one_row : m.differs ≡ true → IsRow input (passed ++ r ∷ []) (row_to end m)
    one_row d =
        let parts = and_parts (is_in_strip input.strip (place_at passed m.begin)) (sides_differ n input (seg_of m) (place_at passed m.begin)) (sym is.carried.carried.differs ∙ d) in
        let begins_at : place_at (passed ++ r ∷ []) m.begin ≡ place_at passed m.begin = still_at passed r m.begin is.carried.known in
        let P : Point → Type 0 = λ z. IsStripBoundary input.marked input.steps input.strip (place_at (passed ++ r ∷ []) m.begin) z in
        let R : Point → Type 0 = λ z. IsStripBoundary input.marked input.steps input.strip z r in
        let Q : Point → Type 0 = λ z. IsTrue (is_on (seg_of m) z) in
        record {
          from_known = still_known passed r m.begin is.carried.known;
          to_known = end_known;
          from_on = subst Q (sym begins_at) is.carried.carried.on;
          to_on = subst Q (sym end_at) on_r;
          boundary = subst P (sym end_at) (subst R (sym begins_at) (piece_ends parts.0 parts.1));
          side = side_there parts.0 ∙ ap (λ z. over_of input.marked input.steps z r) (sym begins_at) ∙ ap (λ z. over_of input.marked input.steps (place_at (passed ++ r ∷ []) m.begin) z) (sym end_at);
        }

  new_rows : All (IsRow input (passed ++ r ∷ [])) (rows_of end bundle)
  new_rows =
      All-map (IsRow input (passed ++ r ∷ [])) (row_to end) (filter (λ m. m.differs) bundle)
      (λ i d l. one_row (get_or (filter (λ m. m.differs) bundle) i d) (All-filter (λ m. m.differs) IsEnding bundle endings i d l) (filter_passes (λ (m : Member). m.differs) bundle i d l))

  old_row : (row : Row) → IsRow input passed row → IsRow input (passed ++ r ∷ []) row
  old_row row is = record {
    from_known = still_known passed r row.first is.from_known;
    to_known = still_known passed r row.last is.to_known;
    from_on = subst On (sym (still_at passed r row.first is.from_known)) is.from_on;
    to_on = subst On (sym (still_at passed r row.last is.to_known)) is.to_on;
    boundary = subst From (sym (still_at passed r row.first is.from_known)) (subst To (sym (still_at passed r row.last is.to_known)) is.boundary);
    side =
        is.side ∙ ap (λ z. over_of input.marked input.steps z (place_at passed row.last)) (sym (still_at passed r row.first is.from_known))
        ∙ ap (λ z. over_of input.marked input.steps (place_at (passed ++ r ∷ []) row.first) z) (sym (still_at passed r row.last is.to_known));
  }
    where
      On : Point → Type 0
      On z = IsTrue (is_on row.support z)

      To : Point → Type 0
      To z = IsStripBoundary input.marked input.steps input.strip (place_at passed row.first) z

      From : Point → Type 0
      From z = IsStripBoundary input.marked input.steps input.strip z (place_at (passed ++ r ∷ []) row.last)

  -- ---- each once
  apart : (a b : Member) → IsEnding a → IsEnding b → IsAfter (lean_segment n (seg_of a)) (lean_segment n (seg_of b)) (lean n q) → a.begin ≡ b.begin → ⊥
  apart a b is_a is_b after_it e = by after_it
    where
      same_begin : place_at passed a.begin ≡ place_at passed b.begin
      same_begin = ap (place_at passed) e

      b_there : height_over (seg_of b) (place_at passed a.begin) ≡ pos 0
      b_there = ap (λ z. height_over (seg_of b) z) same_begin ∙ on_line (seg_of b) (place_at passed b.begin) is_b.carried.carried.on

      none : turn_of (seg_of a) (seg_of b) ≡ pos 0
      none =
          one_direction (seg_of a) (seg_of b) (place_at passed a.begin) r (on_line (seg_of a) (place_at passed a.begin) is_a.carried.carried.on) is_a.level b_there is_b.level (before_r a is_a.carried)

      no_turn : turn_of (lean_segment n (seg_of a)) (lean_segment n (seg_of b)) ≡ pos 0
      no_turn = lean_turn n (seg_of a) (seg_of b) ∙ ap (λ z. n *ℤ z) none ∙ *ℤ-zero n

      no_gap : gap (lean_segment n (seg_of a)) (lean_segment n (seg_of b)) (lean n q) ≡ pos 0
      no_gap =
          flat_gap (lean_segment n (seg_of a)) (lean_segment n (seg_of b)) (lean n r) (lean n q) hr no_turn
          (gap_at (lean_segment n (seg_of a)) (lean_segment n (seg_of b)) (lean n r) (lean_height n (seg_of a) r ∙ ap (λ z. n *ℤ z) is_a.level ∙ *ℤ-zero n) (lean_height n (seg_of b) r ∙ ap (λ z. n *ℤ z) is_b.level ∙ *ℤ-zero n))

      not_both : (z : ℤ) → z ≡ pos 0 → pos 0 <ℤ z → ⊥
      not_both z e h = omega (arith, ints, e, h)

      by : IsAfter (lean_segment n (seg_of a)) (lean_segment n (seg_of b)) (lean n q) → ⊥
      by (inl h) = not_both (gap (lean_segment n (seg_of a)) (lean_segment n (seg_of b)) (lean n q)) no_gap h
      by (inr h) = not_both (turn_of (lean_segment n (seg_of a)) (lean_segment n (seg_of b))) no_turn h.1

  abbrev AreAfter : Segment → Segment → Type 0
  AreAfter a b = IsAfter (lean_segment n a) (lean_segment n b) (lean n q)

  in_order : AllPairs (λ a b. IsAfter (lean_segment n (seg_of a)) (lean_segment n (seg_of b)) (lean n q)) bundle
  in_order =
      pairs_from_map AreAfter seg_of bundle
      (pairs_second AreAfter (segs_of under) (segs_of bundle) (pairs_first AreAfter (segs_of under ++ segs_of bundle) (segs_of over)
      (pairs_first AreAfter (segs_of under ++ segs_of bundle ++ segs_of over) (waiting input.strip (entering ++ rest)) come.full.status_at.ordered)))

  abbrev AreApart : Row → Row → Type 0
  AreApart a b = a.first ≡ b.first → a.last ≡ b.last → ⊥

  once_new : AllPairs AreApart (rows_of end bundle)
  once_new =
      pairs_map AreApart (row_to end) (filter (λ m. m.differs) bundle)
      (AllPairs-filter (λ a b. AreApart (row_to end a) (row_to end b)) (λ m. m.differs) bundle (λ i j d l m e f. apart (get_or bundle i d) (get_or bundle j d) (endings i d (omega (arith, l, m))) (endings j d m) (in_order i j d l m) e))

  once : AllPairs AreApart (rows ++ rows_of end bundle)
  once =
      all_pairs_append AreApart rows (rows_of end bundle) carries.are_rows.once once_new
      (λ i d l. All-map (AreApart (get_or rows i d)) (row_to end) (filter (λ m. m.differs) bundle) (λ j e m f g. not_last (get_or rows i d).last (carries.are_rows.sound i d l).to_known g))
    where
      not_last : (k : ℕ) → k < length passed → k ≡ end → ⊥
      not_last k l e = omega (arith, l, e, begin.number)

  -- ---- all of them
  abbrev IsOf : Point → Point → Row → Type 0
  IsOf a b row = IsTrue (same_place a (place_at (passed ++ r ∷ []) row.first) && same_place b (place_at (passed ++ r ∷ []) row.last))

  -- a piece of the boundary that ends at the node lies on the unit of a member, and is its row
  module _ (a b : Point) (boundary : IsStripBoundary input.marked input.steps input.strip a b) (at_r : IsTrue (same_place b r)) where
    ha : pos 0 <ℤ a.w
    ha = boundary.piece.from_positive

    hb : pos 0 <ℤ b.w
    hb = boundary.piece.to_positive

    a_before_r : point_cmp a r ≡ Less
    a_before_r = sym (alike_right a b r ha hb hr at_r) ∙ boundary.piece.in_order

    not_later_a : point_cmp q a ≡ Less → ⊥
    not_later_a h = next.clear a ha boundary.piece.from_node h a_before_r

    module _ (m : Member) (among : Contains bundle m) (is : IsEnding m) (piece : IsUnitPiece input.marked (seg_of m) a b) where
      same_from : Way (place_at passed m.begin) a → IsTrue (same_place a (place_at passed m.begin))
      same_from (before e) =
          let within = before_in_strip input.strip (place_at passed m.begin) a (positive_begin m is.carried) ha (from_border m is.carried) e boundary.begins in
          absurd ((is.carried.carried.last within).last a ha piece.from_on boundary.piece.from_node e not_later_a)
      same_from (at e) = same_turned (place_at passed m.begin) a e
      same_from (after e) =
          absurd (piece.none_between (place_at passed m.begin) (positive_begin m is.carried) is.carried.carried.on e (alike_right (place_at passed m.begin) b r (positive_begin m is.carried) hb hr at_r ∙ before_r m is.carried)
          (All-contains (λ z. IsTrue (is_node (segments_in input) z)) passed (place_at passed m.begin) carries.passes.nodes (begin_place m is.carried)))

      found_row : IsTrue (same_place a (place_at passed m.begin)) → Any (IsOf a b) (rows_of end bundle)
      found_row e =
          let within : IsTrue (is_in_strip input.strip (place_at passed m.begin)) = sym (in_strip_alike a (place_at passed m.begin) ha (positive_begin m is.carried) e input.strip) ∙ boundary.begins in
          let there = sides_alike input.marked input.steps a b (place_at passed m.begin) r ha hb (positive_begin m is.carried) hr e at_r boundary.sides in
          let d : m.differs ≡ true = is.carried.carried.differs ∙ and_from (is_in_strip input.strip (place_at passed m.begin)) (sides_differ n input (seg_of m) (place_at passed m.begin)) within (differ_there m is within there) in
          any_from (IsOf a b) (rows_of end bundle) (row_to end m) (contains_map (row_to end) (filter (λ m. m.differs) bundle) m (contains_filter (λ (m : Member). m.differs) bundle m among d))
          (and_from (same_place a (place_at (passed ++ r ∷ []) m.begin)) (same_place b (place_at (passed ++ r ∷ []) end)) (ap (λ z. same_place a z) (still_at passed r m.begin is.carried.known) ∙ e) (ap (λ z. same_place b z) end_at ∙ at_r))

      found : Any (IsOf a b) (rows_of end bundle)
      found = found_row (same_from (way_of (place_at passed m.begin) a (positive_begin m is.carried) ha))

    on_unit : (u : Segment) → IsUnitPiece input.marked u a b → Any (IsOf a b) (rows_of end bundle)
    on_unit u piece = last (Contains-append_cases (segs_of under ++ segs_of bundle ++ segs_of over) (waiting input.strip (entering ++ rest)) u in_status)
      where
        among : Contains (map (λ (u : Unit). u.seg) units) u
        among = are.complete u piece.unit

        proper_u : IsProper u
        proper_u = (All-contains (IsStretchOf (segments_in input)) (map (λ (u : Unit). u.seg) units) u stretches.stretches among).proper

        level : height_over u r ≡ pos 0
        level = on_line u r (sym (on_same u b r hb hr at_r) ∙ piece.to_on)

        goes : GoesOn u q
        goes = record {
          begun = λ h. after_left u a piece.from_on (not_after_before a q (whole u.left) ha hq one_positive not_later_a h);
          lasting = by (way_of r (whole u.right) hr one_positive);
        }
          where
            by : Way r (whole u.right) → point_cmp q (whole u.right) ≡ Less
            by (before e) = less_through q r (whole u.right) hq hr one_positive next.after e
            by (at e) = sym (alike_right q r (whole u.right) hq hr one_positive e) ∙ next.after
            by (after e) = absurd (before_right u r hr (sym (on_same u b r hb hr at_r) ∙ piece.to_on) e)

        in_status : Contains (segs_of under ++ segs_of bundle ++ segs_of over ++ waiting input.strip (entering ++ rest)) u
        in_status = come.full.members u among goes

        from_left : (border input.strip.first *ℤ a.w) ≤ℤ a.x
        from_left = le_true (border input.strip.first *ℤ a.w) a.x (and_parts (int_le (border input.strip.first *ℤ a.w) a.x) (int_lt a.x (border (input.strip.last + 1) *ℤ a.w)) boundary.begins).0

        of_member : (m : Member) × Contains bundle m × (seg_of m ≡ u) → Any (IsOf a b) (rows_of end bundle)
        of_member (m, c, e) =
            let P : Segment → Type 0 = λ s. IsUnitPiece input.marked s a b in
            found m c (All-contains IsEnding bundle m endings c) (subst P (sym e) piece)

        two : Contains (segs_of under) u ⊎ Contains (segs_of bundle) u → Any (IsOf a b) (rows_of end bundle)
        two (inl h) = absurd (more_none (height_over u r) (All-contains (λ u. pos 0 <ℤ height_over u r) (segs_of under) u step.split.passes_under h) level)
        two (inr h) = of_member (from_map seg_of bundle u h)

        three : Contains (segs_of under ++ segs_of bundle) u ⊎ Contains (segs_of over) u → Any (IsOf a b) (rows_of end bundle)
        three (inl h) = two (Contains-append_cases (segs_of under) (segs_of bundle) u h)
        three (inr h) = absurd (less_none (height_over u r) (All-contains (λ u. height_over u r <ℤ pos 0) (segs_of over) u step.split.passes_over h) level)

        last : Contains (segs_of under ++ segs_of bundle ++ segs_of over) u ⊎ Contains (waiting input.strip (entering ++ rest)) u → Any (IsOf a b) (rows_of end bundle)
        last (inl h) = three (Contains-append_cases (segs_of under ++ segs_of bundle) (segs_of over) u h)
        last (inr h) =
            let parts = filter_contains (begins_left input.strip) (entering ++ rest) u h in
            let waits : IsWaiting input.strip q u = (All-contains (IsToCome input.strip q) (entering ++ rest) u come.coming parts.0).waits parts.1 in
            absurd (no_earlier input.strip q a u proper_u hq ha waits piece.from_on from_left (way_of a q ha hq) not_later_a)

    ends_at_r : Any (IsOf a b) (rows_of end bundle)
    ends_at_r = let unit = piece_on_unit input.marked valid.proper a b boundary.piece in on_unit unit.0 unit.1

  -- a row has its places with one more passed
  still_of : (a b : Point) → Any (λ row. IsTrue (same_place a (place_at passed row.first) && same_place b (place_at passed row.last))) rows → Any (IsOf a b) rows
  still_of a b any =
      any_from (IsOf a b) rows any.1 among
      (ap (λ z. same_place a z && same_place b (place_at (passed ++ r ∷ []) any.1.last)) (still_at passed r any.1.first is.from_known) ∙ ap (λ z. same_place a (place_at passed any.1.first) && same_place b z) (still_at passed r any.1.last is.to_known) ∙ any.4)
    where
      among : Contains rows any.1
      among = any_contains (λ (row : Row). IsTrue (same_place a (place_at passed row.first) && same_place b (place_at passed row.last))) rows any

      is : IsRow input passed any.1
      is = All-contains (IsRow input passed) rows any.1 carries.are_rows.sound among

  complete : (a b : Point) → IsStripBoundary input.marked input.steps input.strip a b → (point_cmp r b ≡ Less → ⊥) → Any (IsOf a b) (rows ++ rows_of end bundle)
  complete a b boundary not_after = by (way_of b r hb hr)
    where
      hb : pos 0 <ℤ b.w
      hb = boundary.piece.to_positive

      by : Way b r → Any (IsOf a b) (rows ++ rows_of end bundle)
      by (before e) = any_left (IsOf a b) rows (rows_of end bundle) (still_of a b (carries.are_rows.complete a b boundary (λ h. next.clear b hb boundary.piece.to_node h e)))
      by (at e) = any_right (ends_at_r a b boundary e)
        where
          any_right : Any (IsOf a b) (rows_of end bundle) → Any (IsOf a b) (rows ++ rows_of end bundle)
          any_right any = any_from (IsOf a b) (rows ++ rows_of end bundle) any.1 (Contains-append_right rows (rows_of end bundle) any.1 (any_contains (IsOf a b) (rows_of end bundle) any)) any.4
      by (after e) = absurd (not_after e)

  on_it_goes : Carries n input r (passed ++ r ∷ []) (under ++ stay ++ over) (rows ++ rows_of end bundle)
  on_it_goes = record {
    passes = one_passed (segments_in input) input.strip q r passed carries.passes next hq first.from first.up_to;
    members = All-append (IsCarried n input (passed ++ r ∷ []) r) (under ++ stay) over (All-append (IsCarried n input (passed ++ r ∷ []) r) under stay kept_under begun) kept_over;
    are_rows = record {
      sound = All-append (IsRow input (passed ++ r ∷ [])) rows (rows_of end bundle) (λ i d l. old_row (get_or rows i d) (carries.are_rows.sound i d l)) new_rows;
      once = once;
      complete = complete;
    };
  }

pub rows_go_on : RowsGoOn
rows_go_on n input units q r under bundle over stay entering rest keys new passed rows end steep valid are come step begin carries =
    on_it_goes n input units q r under bundle over stay entering rest keys new passed rows end steep valid are come step begin carries
