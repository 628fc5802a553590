-- A pass under way: how it begins, goes on from node to node, and what it has found at the end.
use Rattle.std.proofs.Common.{◌≡◌, ℕ, pos, ◌+◌, ◌*◌, ◌<◌, ◌≤◌, ◌^◌, ◌*ℤ◌, ◌<ℤ◌, inl, inr, ◌⊎◌, Bool, true, false, ◌&&◌, ◌||◌, List, [], ◌∷◌, ◌++◌, length, get_or, map, refl, ap, sym, subst, ◌∙◌, arith}
use Rattle.std.specs.Prelude.{IsTrue, All, AllPairs, Contains, not}
use Rattle.std.specs.List.{list_any}
use Rattle.std.specs.Ordering.{int_eq}
use Rattle.std.specs.declared.cmp.Ordering.TheVariants.{Less}
use Rattle.std.proofs.lemmas.Int.{ints}
use Rattle.std.proofs.lemmas.Bool.{and_parts, and_from, both_ways, or_cases, or_left, or_right}
use Rattle.std.proofs.lemmas.List.{length-map, map-append}
use Rattle.std.proofs.lemmas.List.Elements.{All-nil, All-head, All-tail, All-map, All-append, All-push, All-weaker, All-contains, Contains-append_left}
use Rattle.std.proofs.lemmas.List.Folds.{Any-from_list_any, list_any-from_Any}
use Rattle.std.proofs.lemmas.List.Sorted.{All-permutation, length_permutation}
use Rattle.std.proofs.Math.ListN.{length-append}
use Rattle.overlay_terms.specs.Plane.{Point, Segment, whole, point_cmp, same_place, is_on}
use Rattle.overlay_terms.specs.Column.{columns, border}
use Rattle.overlay_terms.specs.Tiles.{is_end, is_on_border, is_vertical, over_of}
use Rattle.overlay_terms.specs.TileLaws.{IsProper}
use Rattle.overlay_terms.proofs.InputNumbers.{last_turned}
use Rattle.overlay_terms.proofs.InputLists.{any_from_Contains}
use Rattle.overlay_terms.proofs.Lists.{any_from, any_contains, from_map}
use Rattle.overlay_terms.proofs.PlaceLemmas.{places_alike}
use Rattle.exact_point.specs.Crossing.{IsCrossingOf}
use Rattle.exact_point.specs.Place.{place}
use Rattle.exact_point.specs.PlaceOf.{place_of}
use Rattle.exact_point.specs.PointName.{HasPlace}
use Rattle.exact_point.specs.declared.point.HPoint.{HPoint}
use Rattle.exact_point.specs.declared.point_name.PointName.{PointName}
use Rattle.exact_point.proofs.PlaceOrder.{one_positive, same_through, on_same, level_from, level_test}
use Rattle.exact_point.proofs.SameNodes.{same_back}
use Rattle.arrange.specs.Units.{IsUnit}
use Rattle.arrange.specs.declared.unit.Unit.{Unit}
use Rattle.crossing_sweep.specs.StripInput.{StripInput, IsStripInput, AreStripSome, IsStripTile, segments_in}
use Rattle.crossing_sweep.specs.Leaning.{lean, lean_segment, IsSteep, IsSmall, IsAfter}
use Rattle.crossing_sweep.specs.Queue.{IsQueued}
use Rattle.crossing_sweep.specs.Passing.{waiting, HasCome, IsEntry, IsStepTo, IsTaken}
use Rattle.crossing_sweep.specs.Beginning.{foot}
use Rattle.crossing_sweep.specs.Ahead.{points_of, AreKnownPlaces}
use Rattle.crossing_sweep.specs.Start.{AreStarts}
use Rattle.crossing_sweep.specs.Member.{seg_of, segs_of}
use Rattle.crossing_sweep.specs.Testing.{IsInOrder, IsFoundIn, seams_at}
use Rattle.crossing_sweep.specs.Status.{IsStretchOf}
use Rattle.crossing_sweep.specs.Stepping.{segs_to_come, StandsBefore, IsStepped}
use Rattle.crossing_sweep.specs.PassState.{nodes_max}
use Rattle.crossing_sweep.specs.RowLaws.{AreAll}
use Rattle.crossing_sweep.specs.Rows.{place_at, IsRow, row_ends, count_settled, AreSorted, BeginAt, Carries}
use Rattle.crossing_sweep.specs.NodeNames.{no_name, name_at, IsNamed, named_ends, AreKept}
use Rattle.crossing_sweep.specs.Crossed.{IsUnitPair, IsCrossingAmong, IsRowSpan, HasSide}
use Rattle.crossing_sweep.specs.StripCrossed.{IsInnerInStrip, AreStripNodes, HasStripFound}
use Rattle.crossing_sweep.specs.UnderWay.{IsCaused, IsKey, IsUnderWay}
use Rattle.crossing_sweep.specs.declared.node_name.NodeName.{NodeName}
use Rattle.crossing_sweep.specs.declared.member.Member.{Member}
use Rattle.crossing_sweep.specs.declared.start.Start.{Start}
use Rattle.crossing_sweep.specs.declared.row.Row.{Row}
use Rattle.crossing_sweep.specs.declared.search.Search.{Search}
use Rattle.overlay_terms.proofs.Pairs.{all_first, all_second, pairs_first, pairs_second}
use Rattle.crossing_sweep.proofs.KnownLemmas.{point_small}
use Rattle.crossing_sweep.proofs.UnitStretchLemmas.{units_are_stretches}
use Rattle.crossing_sweep.proofs.PassLemmas.{pass_goes_on, all_of}
use Rattle.crossing_sweep.proofs.BeginLemmas.{pass_begins}
use Rattle.crossing_sweep.proofs.TakenLemmas.{segs_parts}
use Rattle.crossing_sweep.proofs.RowLemmas.{rows_go_on}
use Rattle.crossing_sweep.proofs.NodeCount.{nodes_are_few}
use Rattle.crossing_sweep.proofs.RowOrder.{rows_begin, rows_are_some, rows_end}
use Rattle.crossing_sweep.proofs.StripLemmas.{first_known}
use Rattle.crossing_sweep.proofs.Settled.{settled_sorted}
use Rattle.crossing_sweep.proofs.NameLemmas.{map_alike, place_named, name_same, name_known}

-- the segments of an input are proper
pub proper_segments : (input : StripInput) → IsStripInput input → All IsProper (segments_in input)
proper_segments input valid = All-map IsProper (λ m. m.segment) input.marked valid.proper

-- ---- a pass begins
steep_enough : IsSteep (pos (2 ^ 200))
steep_enough = omega (arith, ints)

begins_way : (input : StripInput) (listed : Bool) (starts : List Start) (ahead : List (HPoint × PointName)) → IsStripInput input → AreStarts input starts → AreKnownPlaces input ahead → IsUnderWay input listed [] starts ahead [] [] []
begins_way input listed starts ahead valid are known = record {
  valid = valid;
  n = pos (2 ^ 200);
  steep = steep_enough;
  units = are.units;
  are = are.are;
  q = foot input.strip;
  come = pass_begins (pos (2 ^ 200)) (segments_in input) (map (λ (u : Unit). u.seg) are.units) input.strip (segs_to_come starts) (points_of ahead) steep_enough (proper_segments input valid) (units_are_stretches input are.units valid are.are) valid.in_order (first_known input valid) are.met known.points;
  entries = are.entries;
  once = are.once;
  ordered = are.ordered;
  to_enter = are.among;
  entered = All-nil (λ (m : Member). Contains are.units m.unit);
  named = All-nil HasPlace;
  carries = rows_begin (pos (2 ^ 200)) input valid;
  few = omega arith;
  pairs = All-nil (IsUnitPair input.marked);
  unlisted = λ e. refl;
  keys = λ i d l. let one = known.named i d l in record { named = one.0; told = one.1; caused = inl (known.fixed i d l) };
  causes = All-nil (IsCaused input listed []);
}

-- with what is empty at first
pub begins_there : (input : StripInput) (listed : Bool) (starts : List Start) (ahead : List (HPoint × PointName)) (status : List Member) (tests : List (Segment × Segment)) (rows : List Row) (names : List PointName) → IsStripInput input → AreStarts input starts → AreKnownPlaces input ahead
    → status ≡ [] → tests ≡ [] → rows ≡ [] → names ≡ [] → IsUnderWay input listed status starts ahead tests rows names
begins_there input listed starts ahead status tests rows names valid are known e f g h =
    let P : List Member → Type 0 = λ l. IsUnderWay input listed l starts ahead tests rows names in
    let Q : List (Segment × Segment) → Type 0 = λ l. IsUnderWay input listed [] starts ahead l rows names in
    let R : List Row → Type 0 = λ l. IsUnderWay input listed [] starts ahead [] l names in
    let S : List PointName → Type 0 = λ l. IsUnderWay input listed [] starts ahead [] [] l in
    subst P (sym e) (subst Q (sym f) (subst R (sym g) (subst S (sym h) (begins_way input listed starts ahead valid are known))))

-- ---- and goes on
-- what was tested is tested after more tests
more_among : (tests more : List (Segment × Segment)) (p : Point) → IsCrossingAmong tests p → IsCrossingAmong (tests ++ more) p
more_among tests more p any =
    any_from (λ (t : Segment × Segment). IsCrossingOf t.0 t.1 p) (tests ++ more) any.1 (Contains-append_left tests more any.1 (any_contains (λ (t : Segment × Segment). IsCrossingOf t.0 t.1 p) tests any)) any.4

still_caused : (input : StripInput) (listed : Bool) (tests more : List (Segment × Segment)) (p : Point) → IsCaused input listed tests p → IsCaused input listed (tests ++ more) p
still_caused input listed tests more p (inl h) = inl h
still_caused input listed tests more p (inr h) = inr (λ e. more_among tests more p (h e))

module _ (input : StripInput) (valid : IsStripInput input) (status after : List Member) (coming rest : List Start) (at : HPoint) (name : PointName) (begin : ℕ) (old new : Search) (rows more_rows : List Row) (names : List PointName)
    (way : IsUnderWay input old.listed status coming ((at, name) ∷ old.ahead) old.tests.items rows names) (least : All (λ e. point_cmp (place at) (place e.0) ≡ Less) old.ahead)
    (numbered : begin ≡ length names) (stepped : IsStepped input at begin status after coming rest old new rows more_rows) where
  abbrev u : List Member
  u = stepped.under

  abbrev b : List Member
  b = stepped.bundle

  abbrev o : List Member
  o = stepped.over

  abbrev s : List Member
  s = stepped.stay

  abbrev e : List Start
  e = stepped.entering

  key : IsKey input old.listed old.tests.items (at, name)
  key = All-head (IsKey input old.listed old.tests.items) (at, name) old.ahead way.keys

  stands : StandsBefore way.n input way.units way.q at status coming old.ahead
  stands = record { valid = valid; steep = way.steep; are = way.are; come = way.come; least = least; entries = way.entries; once = way.once; ordered = way.ordered }

  step : IsStepTo (segments_in input) input.strip (place at) (segs_of u) (segs_of b) (segs_of o) (segs_to_come e) (segs_of s) (segs_to_come rest) (points_of old.ahead) (points_of new.ahead)
  step = stepped.step way.n way.units way.q stands

  status_parts : segs_of status ≡ segs_of u ++ segs_of b ++ segs_of o
  status_parts = ap segs_of stepped.was ∙ segs_parts u b o

  after_parts : segs_of u ++ segs_of s ++ segs_of o ≡ segs_of after
  after_parts = sym (ap segs_of stepped.is ∙ segs_parts u s o)

  coming_parts : segs_to_come coming ≡ segs_to_come e ++ segs_to_come rest
  coming_parts = ap segs_to_come stepped.came ∙ map-append (λ (s : Start). s.unit.seg) e rest

  abbrev unit_segs : List Segment
  unit_segs = map (λ (u : Unit). u.seg) way.units

  come : HasCome way.n (segments_in input) (map (λ (u : Unit). u.seg) way.units) input.strip way.q (segs_of u ++ segs_of b ++ segs_of o) (segs_to_come e ++ segs_to_come rest) (place at ∷ points_of old.ahead)
  come =
      let P : List Segment → Type 0 = λ (l : List Segment). HasCome way.n (segments_in input) (map (λ (u : Unit). u.seg) way.units) input.strip way.q l (segs_to_come coming) (place at ∷ points_of old.ahead) in
      let Q : List Segment → Type 0 = λ (l : List Segment). HasCome way.n (segments_in input) (map (λ (u : Unit). u.seg) way.units) input.strip way.q (segs_of u ++ segs_of b ++ segs_of o) l (place at ∷ points_of old.ahead) in
      subst Q coming_parts (subst P status_parts way.come)

  taken : IsTaken way.n (segments_in input) (map (λ (u : Unit). u.seg) way.units) input.strip way.q (place at) (segs_of u ++ segs_of s ++ segs_of o) (segs_to_come rest) (points_of new.ahead)
  taken =
      pass_goes_on way.n (segments_in input) (map (λ (u : Unit). u.seg) way.units) input.strip way.q (place at) (segs_of u) (segs_of b) (segs_of o) (segs_to_come e) (segs_of s) (segs_to_come rest) (points_of old.ahead) (points_of new.ahead)
      way.steep (proper_segments input valid) (units_are_stretches input way.units valid way.are) come step

  come_after : HasCome way.n (segments_in input) (map (λ (u : Unit). u.seg) way.units) input.strip (place at) (segs_of after) (segs_to_come rest) (points_of new.ahead)
  come_after =
      let P : List Segment → Type 0 = λ (l : List Segment). HasCome way.n (segments_in input) (map (λ (u : Unit). u.seg) way.units) input.strip (place at) l (segs_to_come rest) (points_of new.ahead) in
      subst P after_parts taken.come

  -- ---- the members
  entered_parts : All (λ m. Contains way.units m.unit) (u ++ b ++ o)
  entered_parts = subst (λ (l : List Member). All (λ m. Contains way.units m.unit) l) stepped.was way.entered

  abbrev IsOfUnit : Member → Type 0
  IsOfUnit m = Contains way.units m.unit

  stay_units : All (λ m. Contains way.units m.unit) s
  stay_units =
      stepped.among way.units (all_second IsOfUnit u b (all_first IsOfUnit (u ++ b) o entered_parts))
      (all_first (λ (s : Start). Contains way.units s.unit) e rest (subst (λ (l : List Start). All (λ s. Contains way.units s.unit) l) stepped.came way.to_enter))

  after_units : All (λ m. Contains way.units m.unit) after
  after_units =
      subst (λ (l : List Member). All (λ m. Contains way.units m.unit) l) (sym stepped.is)
      (All-append IsOfUnit (u ++ s) o (All-append IsOfUnit u s (all_first IsOfUnit u b (all_first IsOfUnit (u ++ b) o entered_parts)) stay_units) (all_second IsOfUnit (u ++ b) o entered_parts))

  begin_at : BeginAt input way.units (place at) (map place_of names) u s begin
  begin_at = record {
    number = numbered ∙ sym (length-map names place_of);
    nodal = record { small = point_small at; few = at.w_high };
    among = stay_units;
    begun = stepped.begun;
  }

  passed_there : map place_of names ++ place at ∷ [] ≡ map place_of (names ++ name ∷ [])
  passed_there = ap (λ p. map place_of names ++ p ∷ []) key.told ∙ sym (map-append place_of names (name ∷ []))

  carries : Carries way.n input (place at) (map place_of names ++ place at ∷ []) after more_rows
  carries =
      let P : List Member → Type 0 = λ (l : List Member). Carries way.n input way.q (map place_of names) l rows in
      let Q : List Member → Type 0 = λ (l : List Member). Carries way.n input (place at) ((map place_of names) ++ place at ∷ []) l more_rows in
      let R : List Row → Type 0 = λ (l : List Row). Carries way.n input (place at) ((map place_of names) ++ place at ∷ []) (u ++ s ++ o) l in
      subst Q (sym stepped.is)
      (subst R (sym stepped.closed)
      (rows_go_on way.n input way.units way.q (place at) u b o s (segs_to_come e) (segs_to_come rest) (points_of old.ahead) (points_of new.ahead) (map place_of names) rows begin way.steep valid way.are come step begin_at (subst P stepped.was way.carries)))

  -- ---- the units to come
  abbrev ComesLater : Start → Start → Type 0
  ComesLater s t = ¬ (point_cmp (place t.at) (place s.at) ≡ Less)

  abbrev AreTwo : Start → Start → Type 0
  AreTwo s t = ¬ (s.unit.seg ≡ t.unit.seg)

  -- ---- the tests
  abbrev more : List (Segment × Segment)
  more = stepped.tested.more

  still : (p : Point) → IsCaused input old.listed old.tests.items p → IsCaused input new.listed new.tests.items p
  still p h =
      let P : List (Segment × Segment) → Type 0 = λ (l : List (Segment × Segment)). IsCaused input new.listed l p in
      let Q : Bool → Type 0 = λ (l : Bool). IsCaused input l (old.tests.items ++ stepped.tested.more) p in
      subst P (sym stepped.tested.tests) (subst Q (sym stepped.tested.listed) (still_caused input old.listed old.tests.items stepped.tested.more p h))

  in_order : IsInOrder (place at) (segs_of after)
  in_order =
      let status = come_after.full.status_at in
      record {
        n = way.n;
        steep = way.steep;
        small = status.small;
        proper = λ i d l. (all_first (IsStretchOf (segments_in input)) (segs_of after) (waiting input.strip (segs_to_come rest)) status.stretches i d l).proper;
        ordered = pairs_first (λ a b. IsAfter (lean_segment way.n a) (lean_segment way.n b) (lean way.n (place at))) (segs_of after) (waiting input.strip (segs_to_come rest)) status.ordered;
      }

  new_key : (x : HPoint × PointName) → Contains old.ahead x ⊎ IsFoundIn input.strip (place at) (segs_of after) old.listed new.tests.items x → IsKey input new.listed new.tests.items x
  new_key x (inl c) =
      let is = All-contains (IsKey input old.listed old.tests.items) old.ahead x (All-tail (IsKey input old.listed old.tests.items) (at, name) old.ahead way.keys) c in
      record { named = is.named; told = is.told; caused = still (place x.0) is.caused }
  new_key x (inr is) = record {
    named = is.found.named;
    told = is.found.told;
    caused = inr (λ l. any_from (λ (t : Segment × Segment). IsCrossingOf t.0 t.1 (place x.0)) new.tests.items (is.lower, is.upper) (is.told (sym stepped.tested.listed ∙ l)) is.found.crossing);
  }

  few : length new.tests.items ≤ 2 * length (names ++ name ∷ [])
  few =
      let long : length new.tests.items ≡ length old.tests.items + length stepped.tested.more = ap length stepped.tested.tests ∙ length-append old.tests.items stepped.tested.more in
      let some : length (seams_at stepped.tests (length u) (length (u ++ s))) ≤ 2 = at_most_two stepped.tests (length u) (length (u ++ s)) in
      omega (arith, long, length-append names (name ∷ []), stepped.tested.few, some, way.few)
    where
      at_most_two : (b : Bool) (i j : ℕ) → length (seams_at b i j) ≤ 2
      at_most_two true i j = omega arith
      at_most_two false i j = omega arith

  -- each member is of a unit
  is_unit : (v : Segment) → Contains (segs_of after) v → IsUnit input.marked v
  is_unit v c =
      let m = from_map seg_of after v c in
      let of : Contains way.units m.0.unit = All-contains IsOfUnit after m.0 after_units m.1 in
      subst (λ x. IsUnit input.marked x) m.2 (All-contains (λ (u : Unit). IsUnit input.marked u.seg) way.units m.0.unit way.are.sound of)

  pairs : All (IsUnitPair input.marked) new.tests.items
  pairs =
      subst (λ (l : List (Segment × Segment)). All (IsUnitPair input.marked) l) (sym stepped.tested.tests)
      (All-append (IsUnitPair input.marked) old.tests.items stepped.tested.more way.pairs
      (λ i d l. let both = stepped.tested.pairs i d l in (is_unit (get_or stepped.tested.more i d).0 both.0, is_unit (get_or stepped.tested.more i d).1 both.1)))

  unlisted : new.listed ≡ false → new.tests.items ≡ []
  unlisted l =
      let none : old.listed ≡ false = sym stepped.tested.listed ∙ l in
      stepped.tested.tests ∙ ap (λ (l : List (Segment × Segment)). l ++ stepped.tested.more) (way.unlisted none) ∙ stepped.tested.unlisted none

  pub goes_way : IsUnderWay input new.listed after rest new.ahead new.tests.items more_rows (names ++ name ∷ [])
  goes_way = record {
    valid = valid;
    n = way.n;
    steep = way.steep;
    units = way.units;
    are = way.are;
    q = place at;
    come = come_after;
    entries = all_second (λ (s : Start). IsEntry input.strip s.unit.seg (place s.at)) e rest (subst (λ (l : List Start). All (λ s. IsEntry input.strip s.unit.seg (place s.at)) l) stepped.came way.entries);
    once = pairs_second AreTwo e rest (subst (λ (l : List Start). AllPairs AreTwo l) stepped.came way.once);
    ordered = pairs_second ComesLater e rest (subst (λ (l : List Start). AllPairs ComesLater l) stepped.came way.ordered);
    to_enter = all_second (λ (s : Start). Contains way.units s.unit) e rest (subst (λ (l : List Start). All (λ s. Contains way.units s.unit) l) stepped.came way.to_enter);
    entered = after_units;
    named = All-push HasPlace names name way.named key.named;
    carries = let P : List Point → Type 0 = λ l. Carries way.n input (place at) l after more_rows in subst P passed_there carries;
    few = few;
    pairs = pairs;
    unlisted = unlisted;
    keys = all_of (IsKey input new.listed new.tests.items) new.ahead (λ x c. new_key x (stepped.tested.only in_order x c));
    causes =
        let P : List Point → Type 0 = λ l. All (IsCaused input new.listed new.tests.items) l in
        subst P passed_there (All-push (IsCaused input new.listed new.tests.items) (map place_of names) (place at) (λ i d l. still (get_or (map place_of names) i d) (way.causes i d l)) (still (place at) key.caused));
  }

-- ---- what it has found
-- an end at one of two same places is one at the other
end_there : (segments : List Segment) (p z : Point) → pos 0 <ℤ p.w → pos 0 <ℤ z.w → IsTrue (same_place p z) → is_end segments z ≡ true → is_end segments p ≡ true
end_there segments p z hp hz e h =
    let which = Any-from_list_any (λ s. same_place z (whole s.left) || same_place z (whole s.right)) segments h in
    list_any-from_Any (λ s. same_place p (whole s.left) || same_place p (whole s.right)) segments
    (any_from (λ s. (same_place p (whole s.left) || same_place p (whole s.right)) ≡ true) segments which.1 (any_contains (λ s. (same_place z (whole s.left) || same_place z (whole s.right)) ≡ true) segments which)
    (by which.1 (or_cases (same_place z (whole which.1.left)) (same_place z (whole which.1.right)) which.4)))
  where
    by : (s : Segment) → (same_place z (whole s.left) ≡ true) ⊎ (same_place z (whole s.right) ≡ true) → (same_place p (whole s.left) || same_place p (whole s.right)) ≡ true
    by s (inl f) = or_left (same_place p (whole s.left)) (same_place p (whole s.right)) (same_through p z (whole s.left) hp hz one_positive e f)
    by s (inr f) = or_right (same_place p (whole s.left)) (same_place p (whole s.right)) (same_through p z (whole s.right) hp hz one_positive e f)

-- a place with another name is on a border, too
border_there : (segments : List Segment) (p z : Point) → pos 0 <ℤ p.w → pos 0 <ℤ z.w → IsTrue (same_place p z) → is_on_border segments z ≡ true → is_on_border segments p ≡ true
border_there segments p z hp hz e on =
    let parts = and_parts (list_any (λ j. int_eq z.x (border j *ℤ z.w)) columns) (list_any (λ s. is_on s z && not (is_vertical s)) segments) on in
    let which = Any-from_list_any (λ j. int_eq z.x (border j *ℤ z.w)) columns parts.0 in
    let held = Any-from_list_any (λ s. is_on s z && not (is_vertical s)) segments parts.1 in
    let tests = and_parts (is_on held.1 z) (not (is_vertical held.1)) held.4 in
    let level : p.x ≡ border which.1 *ℤ p.w =
    same_back p.x (border which.1 *ℤ p.w) z.w hz
    ((places_alike p z hp hz e).x_level ∙ ap (λ t. t *ℤ p.w) (level_from z.x (border which.1 *ℤ z.w) which.4) ∙ last_turned (border which.1) z.w p.w) in
    and_from (list_any (λ j. int_eq p.x (border j *ℤ p.w)) columns) (list_any (λ s. is_on s p && not (is_vertical s)) segments)
    (any_from_Contains (λ j. int_eq p.x (border j *ℤ p.w)) columns which.1 (any_contains (λ j. IsTrue (int_eq z.x (border j *ℤ z.w))) columns which) (level_test p.x (border which.1 *ℤ p.w) level))
    (any_from_Contains (λ s. is_on s p && not (is_vertical s)) segments held.1 (any_contains (λ s. IsTrue (is_on s z && not (is_vertical s))) segments held)
    (and_from (is_on held.1 p) (not (is_vertical held.1)) (on_same held.1 p z hp hz e ∙ tests.0) tests.1))

module _ (input : StripInput) (valid : IsStripInput input) (listed : Bool) (status : List Member) (coming : List Start) (ahead : List (HPoint × PointName)) (tests : List (Segment × Segment)) (rows sorted : List Row) (names : List PointName) (cap : ℕ)
    (way : IsUnderWay input listed status coming ahead tests rows names) (ended : (ahead ≡ []) ⊎ (cap < length rows)) (members : List Member) (kept : List NodeName) (are_kept : AreKept names members rows kept) (nodes : ℕ) (counted : nodes ≡ length names)
    (settled : count_settled nodes rows ≤ cap) (are : AreSorted rows sorted) where
  as_many : length sorted ≡ length rows
  as_many = length_permutation rows sorted are.moved

  -- a row with names for its ends
  abbrev IsNamedRow : Row → Type 0
  IsNamedRow row = IsRow input (map place_of names) row × (IsNamed kept row.first × IsNamed kept row.last)

  all_named : All IsNamedRow sorted
  all_named = All-permutation IsNamedRow rows sorted are.moved (λ i d l. (way.carries.are_rows.sound i d l, are_kept.row_ends i d l))

  ends_named : (row : Row) → IsNamedRow row → row_ends (map place_of names) row ≡ named_ends kept row
  ends_named row both = λ i. (place_named names kept row.first are_kept.among both.1.0 i, place_named names kept row.last are_kept.among both.1.1 i)

  all_ends : map (row_ends (map place_of names)) sorted ≡ map (named_ends kept) sorted
  all_ends = map_alike (row_ends (map place_of names)) (named_ends kept) sorted (All-weaker IsNamedRow (λ row. row_ends (map place_of names) row ≡ named_ends kept row) ends_named sorted all_named)

  is_span : (row : Row) → IsNamedRow row → IsRowSpan kept row
  is_span row both = let is = both.0 in record {
    from_known = both.1.0;
    to_known = both.1.1;
    from_named = named_at row.first both.1.0;
    to_named = named_at row.last both.1.1;
    from_positive = subst Positive from is.boundary.piece.from_positive;
    to_positive = subst Positive to is.boundary.piece.to_positive;
    from_on = subst On from is.from_on;
    to_on = subst On to is.to_on;
    in_order = ap (λ z. point_cmp z (place_of (name_at kept row.last))) (sym from) ∙ ap (λ z. point_cmp (place_at (map place_of names) row.first) z) (sym to) ∙ is.boundary.piece.in_order;
  }
    where
      from : place_at (map place_of names) row.first ≡ place_of (name_at kept row.first)
      from = place_named names kept row.first are_kept.among both.1.0

      to : place_at (map place_of names) row.last ≡ place_of (name_at kept row.last)
      to = place_named names kept row.last are_kept.among both.1.1

      named_at : (i : ℕ) → IsNamed kept i → HasPlace (name_at kept i)
      named_at i n = subst HasPlace (sym (name_same names kept i are_kept.among n)) (way.named i no_name (name_known names kept i are_kept.among n))

      Positive : Point → Type 0
      Positive z = pos 0 <ℤ z.w

      On : Point → Type 0
      On z = IsTrue (is_on row.support z)

  spans : All (IsRowSpan kept) sorted
  spans = All-weaker IsNamedRow (IsRowSpan kept) is_span sorted all_named

  has_side : (row : Row) → IsNamedRow row → HasSide input.marked input.steps kept row
  has_side row both =
      both.0.side
      ∙ ap (λ p. over_of input.marked input.steps p (place_at (map place_of names) row.last)) (place_named names kept row.first are_kept.among both.1.0)
      ∙ ap (λ r. over_of input.marked input.steps (place_of (name_at kept row.first)) r) (place_named names kept row.last are_kept.among both.1.1)

  sides : All (HasSide input.marked input.steps kept) sorted
  sides = All-weaker IsNamedRow (HasSide input.marked input.steps kept) has_side sorted all_named

  none_ahead : length sorted ≤ cap → ahead ≡ []
  none_ahead few = by ended
    where
      by : (ahead ≡ []) ⊎ (cap < length rows) → ahead ≡ []
      by (inl e) = e
      by (inr h) = absurd (omega (arith, h, few, as_many))

  at_end : length sorted ≤ cap → AreAll input (map place_of names) sorted
  at_end few =
      let P : List (HPoint × PointName) → Type 0 = λ (l : List (HPoint × PointName)). HasCome way.n (segments_in input) (map (λ (u : Unit). u.seg) way.units) input.strip way.q (segs_of status) (segs_to_come coming) (points_of l) in
      rows_end way.n input way.units way.q status (segs_to_come coming) (map place_of names) rows sorted way.steep valid (subst P (none_ahead few) way.come) way.carries are

  are_nodes : AreStripNodes input (length sorted ≤ cap) (map place_of names)
  are_nodes = record {
    ordered = way.carries.passes.ordered;
    nodes = λ i d l. record { positive = (way.carries.passes.small i d l).positive; node = way.carries.passes.nodes i d l; from = way.carries.passes.from i d l; up_to = way.carries.passes.within i d l };
    all = λ few p is. (at_end few).nodes p is.positive is.node is.from is.up_to;
  }

  crossings : listed ≡ true → length sorted ≤ cap → (p : Point) → IsInnerInStrip input p → IsCrossingAmong tests p
  crossings l few p is = by ((at_end few).nodes p is.is.positive is.is.node is.is.from is.is.up_to)
    where
      by : IsQueued (map place_of names) p → IsCrossingAmong tests p
      by any = because (All-contains (IsCaused input listed tests) (map place_of names) any.1 way.causes among)
        where
          among : Contains (map place_of names) any.1
          among = any_contains (λ z. IsTrue (same_place p z)) (map place_of names) any

          hz : pos 0 <ℤ any.1.w
          hz = (All-contains IsSmall (map place_of names) any.1 way.carries.passes.small among).positive

          fixed : (is_end (segments_in input) any.1 ≡ true) ⊎ (is_on_border (segments_in input) any.1 ≡ true) → ⊥
          fixed (inl h) = both_ways (is_end (segments_in input) p) is.no_end (end_there (segments_in input) p any.1 is.is.positive hz any.4 h)
          fixed (inr h) = both_ways (is_on_border (segments_in input) p) is.no_border (border_there (segments_in input) p any.1 is.is.positive hz any.4 h)

          moved : (t : Segment × Segment) → IsCrossingOf t.0 t.1 any.1 → IsCrossingOf t.0 t.1 p
          moved t c = record { not_parallel = c.not_parallel; on_first = on_same t.0 p any.1 is.is.positive hz any.4 ∙ c.on_first; on_second = on_same t.1 p any.1 is.is.positive hz any.4 ∙ c.on_second }

          because : IsCaused input listed tests any.1 → IsCrossingAmong tests p
          because (inl h) = absurd (fixed (or_cases (is_end (segments_in input) any.1) (is_on_border (segments_in input) any.1) h))
          because (inr h) = let c = h l in any_from (λ (t : Segment × Segment). IsCrossingOf t.0 t.1 p) tests c.1 (any_contains (λ (t : Segment × Segment). IsCrossingOf t.0 t.1 any.1) tests c) (moved c.1 c.4)

  pub ends_way : HasStripFound input cap listed sorted kept nodes tests
  ends_way = record {
    spans = spans;
    sides = sides;
    numbered = are_kept.numbered;
    are_some = subst (λ (l : List (Point × Point)). AreStripSome input l) all_ends (rows_are_some way.n input way.q (map place_of names) status rows sorted way.carries are);
    tile = λ few. subst (λ (l : List (Point × Point)). IsStripTile input l) all_ends (at_end few).tile;
    stops = omega (arith, settled, settled_sorted nodes rows sorted are);
    all = names;
    among = are_kept.among;
    counted = counted;
    named = way.named;
    are_nodes = are_nodes;
    few = omega (arith, way.few, counted);
    pairs = way.pairs;
    unlisted = way.unlisted;
    crossings = crossings;
  }

-- ---- how many nodes
-- no more nodes are passed than there can be
pub count_most : (input : StripInput) {listed : Bool} {status : List Member} {coming : List Start} {ahead : List (HPoint × PointName)} {tests : List (Segment × Segment)} {rows : List Row} (names : List PointName) → IsUnderWay input listed status coming ahead tests rows names
    → length names ≤ nodes_max input
count_most input names way =
    most (length names) (length (map place_of names)) (nodes_max input) (sym (length-map names place_of)) (nodes_are_few input way.q (map place_of names) way.valid way.carries.passes)
  where
    most : (k p m : ℕ) → k ≡ p → p ≤ m → k ≤ m
    most k p m e h = omega (arith, e, h)
