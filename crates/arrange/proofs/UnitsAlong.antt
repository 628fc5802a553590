-- One pass over the ends along a line: the units up to an end, and at the last end all units.
use Rattle.std.proofs.Common.{◌≡◌, ℕ, zero, suc, ◌+◌, ◌-◌, ◌<◌, ◌≤◌, ◌⊎◌, inl, inr, Bool, true, false, not, List, [], ◌∷◌, ◌++◌, length, get_or, take, map, nat_le, refl, ap, sym, ◌∙◌, subst, arith}
use Rattle.std.specs.Prelude.{IsTrue, All, Any, Contains, Some, None}
use Rattle.std.specs.List.{AllPairs, list_any}
use Rattle.std.specs.Ordering.{int_cmp, is_lt, is_eq, ordering_reverse}
use Rattle.std.proofs.lemmas.Bool.{and_parts, both_ways, cases_lt}
use Rattle.std.proofs.lemmas.Bool.Decides.{nat_tests}
use Rattle.std.proofs.lemmas.List.{map-append}
use Rattle.std.proofs.lemmas.List.Elements.{All-nil, All-push, Contains-append_left, Contains-push}
use Rattle.std.proofs.lemmas.List.Folds.{Any-from_list_any}
use Rattle.std.proofs.lemmas.List.Quantifiers.{all_pairs_push}
use Rattle.std.proofs.lemmas.Cmp.{tied_itself}
use Rattle.std.specs.declared.cmp.Ordering.{Ordering}
use Rattle.std.specs.declared.cmp.Ordering.TheVariants.{Less, Equal, Greater}
use Rattle.overlay_terms.specs.Plane.{WholePoint, Segment, whole, whole_cmp, is_on}
use Rattle.overlay_terms.specs.Trees.{mask_bits}
use Rattle.overlay_terms.specs.Layers.{Marked}
use Rattle.overlay_terms.proofs.Lists.{contains_map, any_contains}
use Rattle.overlay_terms.proofs.PointOrder.{whole_cmp_total, same_points, is_eq_then}
use Rattle.arrange.specs.LineEnds.{IsCounted, open_unit}
use Rattle.arrange.specs.Units.{covers, cover_bits, is_end_along, IsUnit, AreUnits}
use Rattle.arrange.specs.declared.line_end.LineEnd.{LineEnd}
use Rattle.arrange.specs.declared.passed_ends.PassedEnds.{PassedEnds}
use Rattle.arrange.specs.declared.unit.Unit.{Unit}
use Rattle.arrange.proofs.EndStretches.{AreEndsAlong, stretch_at, in_turn, place_of, end_along, none_between, covered_by_count, count_by_covered, mask_is}
use Rattle.arrange.proofs.UnitLineLemmas.{IsEndOf, end_of, along_stretch}

-- the stretches of some units
abbrev pub stretches : List Unit → List Segment
stretches units = map (λ (u : Unit). u.seg) units

-- what comes before a place comes before what is not before that
less_up_to : (a b c : WholePoint) → whole_cmp a b ≡ Less → (whole_cmp c b ≡ Less → ⊥) → whole_cmp a c ≡ Less
less_up_to a b c less h = by (whole_cmp c b) refl where
  back : whole_cmp b a ≡ Greater
  back = whole_cmp_total.antisymm b a ∙ ap ordering_reverse less

  by : (o : Ordering) → whole_cmp c b ≡ o → whole_cmp a c ≡ Less
  by Less e = absurd (h e)
  by Equal e = whole_cmp_total.antisymm a c ∙ ap ordering_reverse (whole_cmp_total.congr c b a e ∙ back)
  by Greater e = whole_cmp_total.trans a b c less (whole_cmp_total.antisymm b c ∙ ap ordering_reverse e)

-- places of which none is before the other are one
one_place : (a b : WholePoint) → (whole_cmp a b ≡ Less → ⊥) → (whole_cmp b a ≡ Less → ⊥) → a ≡ b
one_place a b h k = by (whole_cmp a b) refl where
  by : (o : Ordering) → whole_cmp a b ≡ o → a ≡ b
  by Less e = absurd (h e)
  by Equal e = same_points a b (sym (is_eq_then (int_cmp a.x b.x) (int_cmp a.y b.y)) ∙ ap is_eq e)
  by Greater e = absurd (k (whole_cmp_total.antisymm b a ∙ ap ordering_reverse e))

-- ---- what the code finds between two ends
same_units : (u v : Unit) → Some u ≡ Some v → u ≡ v
same_units u v e = cc

no_unit : (u : Unit) → Some u ≡ None → ⊥
no_unit u e = cc

-- by how the counts and the two places compare
data Found (passed : PassedEnds) (p q : WholePoint) : Type 0 where
  makes : passed.ended < passed.begun → whole_cmp p q ≡ Less → open_unit passed p q ≡ Some (record { seg = record { left = p; right = q }; mask = passed.mask }) → Found passed p q
  skips : (whole_cmp p q ≡ Less → passed.ended < passed.begun → ⊥) → open_unit passed p q ≡ None → Found passed p q

found_by : (passed : PassedEnds) (p q : WholePoint) (b : Bool) (o : Ordering) → nat_le passed.begun passed.ended ≡ b → whole_cmp p q ≡ o → (o ≡ Greater → ⊥) → Found passed p q
found_by passed p q true o e f h = skips (λ l m. few m) (rw e refl) where
  few : passed.ended < passed.begun → ⊥
  few m = grind (arith, nat_tests)
found_by passed p q false Less e f h = makes (grind (arith, nat_tests)) f (rw (e, f) refl)
found_by passed p q false Equal e f h = skips (λ l m. level (sym f ∙ l)) (rw (e, f) refl) where
  level : Equal ≡ Less → ⊥
  level e = cc
found_by passed p q false Greater e f h = absurd (h refl)

-- ---- a test that fails further on
-- where a test passes at one number and fails at a later one, it passes at some number between and fails at the next
last_passing : (f : ℕ → Bool) (a n : ℕ) → f a ≡ true → f (a + n) ≡ false → (j : ℕ) × (a ≤ j) × (j < a + n) × (f j ≡ true) × (f (j + 1) ≡ false)
last_passing f a zero e g = absurd (both_ways (f a) (ap f (same a) ∙ g) e) where
  same : (a : ℕ) → a ≡ a + 0
  same a = omega arith
last_passing f a (suc n) e g = by (λ h. last_passing f a n e h) (f (a + n)) refl where
  next : (a + n) + 1 ≡ a + suc n
  next = omega arith

  by : (f (a + n) ≡ false → (j : ℕ) × (a ≤ j) × (j < a + n) × (f j ≡ true) × (f (j + 1) ≡ false)) → (b : Bool) → f (a + n) ≡ b → (j : ℕ) × (a ≤ j) × (j < a + suc n) × (f j ≡ true) × (f (j + 1) ≡ false)
  by earlier true h = (a + n, omega arith, omega arith, h, ap f next ∙ g)
  by earlier false h = let found = earlier h in (found.0, found.1, omega (arith, found.2), found.3, found.4)

-- ---- the pass
module _ (marked : List Marked) (ends : List LineEnd) (d : LineEnd) where
  -- the units up to an end
  pub record HaveUnitsTo (i : ℕ) (list : List Unit) : Type 0 where
    pub sound : All (λ u. IsUnit marked u.seg) list
    pub masks : All (λ u. (k : ℕ) → k < 32 → mask_bits u.mask k ≡ cover_bits marked u.seg k) list
    pub once : AllPairs (λ u v. ¬ (u.seg ≡ v.seg)) list
    pub before : All (λ u. (k : ℕ) → i ≤ k + 1 → k < length ends → whole_cmp u.seg.left (get_or ends k d).at ≡ Less) list
    pub listed : (j : ℕ) → j + 1 < i → IsUnit marked (stretch_at ends d j) → Contains (stretches list) (stretch_at ends d j)

  pub have_no_units : (list : List Unit) → list ≡ [] → HaveUnitsTo 1 list
  have_no_units list e = subst (HaveUnitsTo 1) (sym e) (record {
    sound = All-nil _;
    masks = All-nil _;
    once = λ i j u l h. absurd (omega (arith, h));
    before = All-nil _;
    listed = λ j h. absurd (omega (arith, h));
  })

  module _ (along : AreEndsAlong marked ends) where
    abbrev place : ℕ → WholePoint
    place i = (get_or ends i d).at

    abbrev stretch : ℕ → Segment
    stretch i = stretch_at ends d i

    module _ (n : ℕ) (within : n + 1 < length ends) (passed : PassedEnds) (counted : IsCounted (take (n + 1) ends) passed) (list : List Unit) (have : HaveUnitsTo (n + 1) list) where
      not_after : whole_cmp (place n) (place (n + 1)) ≡ Greater → ⊥
      not_after e = in_turn marked ends along d n (n + 1) (omega arith) within (whole_cmp_total.antisymm (place (n + 1)) (place n) ∙ ap ordering_reverse e)

      -- the stretch is a unit where a segment covers it
      is_unit : whole_cmp (place n) (place (n + 1)) ≡ Less → list_any (λ (m : Marked). covers m.segment (stretch n)) marked ≡ true → IsUnit marked (stretch n)
      is_unit apart covered = by (Any-from_list_any (λ (m : Marked). covers m.segment (stretch n)) marked covered) where
        by : Any (λ (m : Marked). covers m.segment (stretch n) ≡ true) marked → IsUnit marked (stretch n)
        by a = record {
          forward = apart;
          from_end = along_stretch a.1.segment (stretch n) (along.ahead a.1 there) apart tests.0 tests.1 marked (place n) (end_along marked ends along d a.1 there n (omega (arith, within)));
          to_end = along_stretch a.1.segment (stretch n) (along.ahead a.1 there) apart tests.0 tests.1 marked (place (n + 1)) (end_along marked ends along d a.1 there (n + 1) within);
          covered = covered;
          none_between = λ v end low high. let of = end_of marked (stretch n) v end in none_between marked ends along d n within of.of of.among v of.is low high;
        } where
          there : Contains marked a.1
          there = any_contains (λ (m : Marked). covers m.segment (stretch n) ≡ true) marked a

          tests : (is_on a.1.segment (whole (place n)) ≡ true) × (is_on a.1.segment (whole (place (n + 1))) ≡ true)
          tests = and_parts (is_on a.1.segment (whole (place n))) (is_on a.1.segment (whole (place (n + 1)))) a.4

      not_itself : (a b : WholePoint) → whole_cmp a b ≡ Less → a ≡ b → ⊥
      not_itself a b less e = level (sym (tied_itself whole_cmp_total b) ∙ ap (λ c. whole_cmp c b) (sym e) ∙ less) where
        level : Equal ≡ Less → ⊥
        level e = cc

      -- the stretches before it stay listed
      still_listed : (more : List Unit) → ((s : Segment) → Contains (stretches list) s → Contains (stretches more) s) → (IsUnit marked (stretch n) → Contains (stretches more) (stretch n))
          → (j : ℕ) → j + 1 < (n + 1) + 1 → IsUnit marked (stretch j) → Contains (stretches more) (stretch j)
      still_listed more kept this j h unit = by (cases_lt (j + 1) (n + 1)) where
        by : (j + 1 < n + 1) ⊎ (n + 1 ≤ j + 1) → Contains (stretches more) (stretch j)
        by (inl l) = kept (stretch j) (have.listed j l unit)
        by (inr l) =
            let same : n ≡ j = omega (arith, l, h) in
            subst (λ k. Contains (stretches more) (stretch k)) same (this (subst (λ k. IsUnit marked (stretch k)) (sym same) unit))

      module _ (apart : whole_cmp (place n) (place (n + 1)) ≡ Less) (begun : passed.ended < passed.begun) where
        unit_pushed : HaveUnitsTo ((n + 1) + 1) (list ++ record { seg = stretch n; mask = passed.mask } ∷ [])
        unit_pushed = record {
          sound = All-push (λ u. IsUnit marked u.seg) list u have.sound (is_unit apart (covered_by_count marked ends along d n within apart passed counted begun));
          masks = All-push (λ u. (k : ℕ) → k < 32 → mask_bits u.mask k ≡ cover_bits marked u.seg k) list u have.masks (mask_is marked ends along d n within apart passed counted);
          once = all_pairs_push (λ u v. ¬ (u.seg ≡ v.seg)) list u have.once
              (λ k e l same. not_itself (get_or list k e).seg.left (place n) (have.before k e l n (omega arith) (omega (arith, within))) (ap (λ (s : Segment). s.left) same));
          before = All-push (λ u. (k : ℕ) → (n + 1) + 1 ≤ k + 1 → k < length ends → whole_cmp u.seg.left (get_or ends k d).at ≡ Less) list u
              (λ j e l k h m. have.before j e l k (omega (arith, h)) m)
              (λ k h m. less_up_to (place n) (place (n + 1)) (place k) apart (in_turn marked ends along d (n + 1) k (omega (arith, h)) m));
          listed = still_listed (list ++ u ∷ [])
              (λ s c. subst (λ (ss : List Segment). Contains ss s) (sym (map-append (λ (v : Unit). v.seg) list (u ∷ []))) (Contains-append_left (stretches list) (stretch n ∷ []) s c))
              (λ unit. contains_map (λ (v : Unit). v.seg) (list ++ u ∷ []) u (Contains-push list u));
        } where
          u : Unit
          u = record { seg = stretch n; mask = passed.mask }

      unit_skipped : (whole_cmp (place n) (place (n + 1)) ≡ Less → passed.ended < passed.begun → ⊥) → HaveUnitsTo ((n + 1) + 1) list
      unit_skipped out = record {
        sound = have.sound;
        masks = have.masks;
        once = have.once;
        before = λ j e l k h m. have.before j e l k (omega (arith, h)) m;
        listed = still_listed list (λ s c. c) (λ unit. absurd (out unit.forward (count_by_covered marked ends along d n within unit.forward passed counted unit.covered)));
      }

      -- with what the code finds from this end to the next
      pub with_unit : (u : Unit) → Some u ≡ open_unit passed (place n) (place (n + 1)) → HaveUnitsTo ((n + 1) + 1) (list ++ u ∷ [])
      with_unit u e = by (found_by passed (place n) (place (n + 1)) (nat_le passed.begun passed.ended) (whole_cmp (place n) (place (n + 1))) refl refl not_after) where
        by : Found passed (place n) (place (n + 1)) → HaveUnitsTo ((n + 1) + 1) (list ++ u ∷ [])
        by (makes begun apart f) = subst (λ (v : Unit). HaveUnitsTo ((n + 1) + 1) (list ++ v ∷ [])) (sym (same_units u (record { seg = stretch n; mask = passed.mask }) (e ∙ f))) (unit_pushed apart begun)
        by (skips out f) = absurd (no_unit u (e ∙ f))

      pub without_unit : None ≡ open_unit passed (place n) (place (n + 1)) → HaveUnitsTo ((n + 1) + 1) list
      without_unit e = by (found_by passed (place n) (place (n + 1)) (nat_le passed.begun passed.ended) (whole_cmp (place n) (place (n + 1))) refl refl not_after) where
        by : Found passed (place n) (place (n + 1)) → HaveUnitsTo ((n + 1) + 1) list
        by (makes begun apart f) = absurd (no_unit (record { seg = stretch n; mask = passed.mask }) (sym (e ∙ f)))
        by (skips out f) = unit_skipped out

    -- each unit is the stretch from an end to the next
    stretch_of : (s : Segment) → IsUnit marked s → (j : ℕ) × (j + 1 < length ends) × (s ≡ stretch j)
    stretch_of s unit = by (end_of marked s s.left unit.from_end) (end_of marked s s.right unit.to_end) (Any-from_list_any (λ (m : Marked). covers m.segment s) marked unit.covered) where
      by : IsEndOf marked s s.left → IsEndOf marked s s.right → Any (λ (m : Marked). covers m.segment s ≡ true) marked → (j : ℕ) × (j + 1 < length ends) × (s ≡ stretch j)
      by from to over = between (place_of marked ends along d from.of from.among s.left from.is) (place_of marked ends along d to.of to.among s.right to.is) where
        there : Contains marked over.1
        there = any_contains (λ (m : Marked). covers m.segment s ≡ true) marked over

        tests : (is_on over.1.segment (whole s.left) ≡ true) × (is_on over.1.segment (whole s.right) ≡ true)
        tests = and_parts (is_on over.1.segment (whole s.left)) (is_on over.1.segment (whole s.right)) over.4

        is_along : (j : ℕ) → j < length ends → IsTrue (is_end_along marked s (place j))
        is_along j h = along_stretch over.1.segment s (along.ahead over.1 there) unit.forward tests.0 tests.1 marked (place j) (end_along marked ends along d over.1 there j h)

        between : (a : ℕ) × (a < length ends) × (place a ≡ s.left) → (b : ℕ) × (b < length ends) × (place b ≡ s.right) → (j : ℕ) × (j + 1 < length ends) × (s ≡ stretch j)
        between (a, a_in, a_is) (b, b_in, b_is) = order (cases_lt a b) where
          order : (a < b) ⊎ (b ≤ a) → (j : ℕ) × (j + 1 < length ends) × (s ≡ stretch j)
          order (inr l) = absurd (in_turn marked ends along d b a l a_in (ap (λ v. whole_cmp v (place b)) a_is ∙ ap (λ v. whole_cmp s.left v) b_is ∙ unit.forward))
          order (inl l) = at (last_passing (λ j. not (is_lt (whole_cmp s.left (place j)))) a (b - a) passes (ap (λ j. not (is_lt (whole_cmp s.left (place j)))) whole_way ∙ fails)) where
            whole_way : a + (b - a) ≡ b
            whole_way = omega (arith, l)

            passes : not (is_lt (whole_cmp s.left (place a))) ≡ true
            passes = ap (λ v. not (is_lt (whole_cmp s.left v))) a_is ∙ ap (λ o. not (is_lt o)) (tied_itself whole_cmp_total s.left)

            fails : not (is_lt (whole_cmp s.left (place b))) ≡ false
            fails = ap (λ v. not (is_lt (whole_cmp s.left v))) b_is ∙ ap (λ o. not (is_lt o)) unit.forward

            at : (j : ℕ) × (a ≤ j) × (j < a + (b - a)) × (not (is_lt (whole_cmp s.left (place j))) ≡ true) × (not (is_lt (whole_cmp s.left (place (j + 1)))) ≡ false) → (j : ℕ) × (j + 1 < length ends) × (s ≡ stretch j)
            at (j, from_a, to_b, last, next) = (j, omega (arith, before_b, b_in), λ k. record { left = sym left_is k; right = sym right_is k }) where
              before_b : j < b
              before_b = omega (arith, to_b, whole_way)

              left_is : place j ≡ s.left
              left_is =
                  one_place (place j) s.left (λ e. in_turn marked ends along d a j from_a (omega (arith, before_b, b_in)) (ap (λ v. whole_cmp (place j) v) a_is ∙ e))
                  (λ e. both_ways (not (is_lt (whole_cmp s.left (place j)))) (ap (λ o. not (is_lt o)) e) last)

              after_left : whole_cmp s.left (place (j + 1)) ≡ Less
              after_left = is_less (whole_cmp s.left (place (j + 1))) next where
                is_less : (o : Ordering) → not (is_lt o) ≡ false → o ≡ Less
                is_less Less e = refl
                is_less Equal e = cc
                is_less Greater e = cc

              right_is : place (j + 1) ≡ s.right
              right_is =
                  one_place (place (j + 1)) s.right (λ e. unit.none_between (place (j + 1)) (is_along (j + 1) (omega (arith, before_b, b_in))) after_left e)
                  (λ e. in_turn marked ends along d (j + 1) b (omega (arith, before_b)) b_in (ap (λ v. whole_cmp v (place (j + 1))) b_is ∙ e))

    -- at the last end they are all units
    pub all_units : (i : ℕ) (list : List Unit) → length ends ≤ i → HaveUnitsTo i list → AreUnits marked list
    all_units i list full have = record {
      sound = have.sound;
      masks = have.masks;
      once = have.once;
      complete = λ s unit. by s unit (stretch_of s unit);
    } where
      by : (s : Segment) → IsUnit marked s → (j : ℕ) × (j + 1 < length ends) × (s ≡ stretch j) → Contains (stretches list) s
      by s unit (j, h, is) = subst (λ (t : Segment). Contains (stretches list) t) (sym is) (have.listed j (omega (arith, h, full)) (subst (λ (t : Segment). IsUnit marked t) is unit))
