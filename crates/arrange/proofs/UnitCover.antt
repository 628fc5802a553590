-- How units lie on segments: each place of a segment is on a unit, and each end is a unit's end.
use Rattle.std.proofs.Common.{◌≡◌, ℤ, pos, ◌*ℤ◌, ◌<ℤ◌, ◌⊎◌, inl, inr, true, false, Bool, not, List, refl, ap, sym, ◌∙◌, subst}
use Rattle.std.specs.Prelude.{IsTrue, Contains}
use Rattle.std.specs.Ordering.{int_eq, is_lt}
use Rattle.std.proofs.lemmas.Bool.{and_parts, and_from, both_ways}
use Rattle.std.specs.declared.cmp.Ordering.{Ordering}
use Rattle.std.specs.declared.cmp.Ordering.TheVariants.{Less, Equal, Greater}
use Rattle.overlay_terms.specs.Plane.{WholePoint, Point, Segment, whole, whole_cmp, same_place, point_cmp, height_over, is_on}
use Rattle.overlay_terms.specs.Layers.{Marked}
use Rattle.overlay_terms.proofs.InputLists.{any_from_Contains}
use Rattle.overlay_terms.proofs.InputNumbers.{times_one}
use Rattle.overlay_terms.proofs.PointOrder.{same_points}
use Rattle.overlay_terms.proofs.Tests.{less_told}
use Rattle.exact_point.proofs.OnLine.{parallel_line, between_on, within_on, after_left, before_right, on_line, left_on_line, right_on_line}
use Rattle.exact_point.proofs.PlaceOrder.{one_positive, level_from, level_test, same_self, on_same, not_before_self, less_through, not_after_less, not_before_test, not_before_says, Way, before, at, after, way_of}
use Rattle.arrange.specs.Units.{covers, is_collinear, is_end_along, IsUnit}
use Rattle.arrange.proofs.NodeSound.{covering_turn}
use Rattle.arrange.proofs.UnitLineLemmas.{whole_order, is_end_of, end_level, along_cover, along_stretch}
use Rattle.arrange.proofs.UnitEndLemmas.{IsEndOn, all_ends, found_is_end, end_is_found}
use Rattle.arrange.proofs.Utmost.{IsUtmost, utmost_of}

-- ---- whole points in their order
-- whole points at one place are one
pub one_point : (a b : WholePoint) → IsTrue (same_place (whole a) (whole b)) → a ≡ b
one_point a b e =
    let parts = and_parts (int_eq (a.x *ℤ pos 1) (b.x *ℤ pos 1)) (int_eq (a.y *ℤ pos 1) (b.y *ℤ pos 1)) e in
    same_points a b (and_from (int_eq a.x b.x) (int_eq a.y b.y) (one a.x b.x parts.0) (one a.y b.y parts.1))
  where
    one : (x y : ℤ) → int_eq (x *ℤ pos 1) (y *ℤ pos 1) ≡ true → int_eq x y ≡ true
    one x y e = level_test x y (sym (times_one x) ∙ level_from (x *ℤ pos 1) (y *ℤ pos 1) e ∙ times_one y)

less_test : (o : Ordering) → o ≡ Less → is_lt o ≡ true
less_test o e = ap is_lt e

-- a comes before b
abbrev pub Before : WholePoint → WholePoint → Type 0
Before a b = point_cmp (whole a) (whole b) ≡ Less

before_through : (a b c : WholePoint) → Before a b → Before b c → Before a c
before_through a b c = less_through (whole a) (whole b) (whole c) one_positive one_positive one_positive

pub before_none : (a : WholePoint) → Before a a → ⊥
before_none a = not_before_self (whole a) (whole a) one_positive one_positive (same_self (whole a))

before_either : (a b : WholePoint) → Before a b ⊎ (Before a b → ⊥)
before_either a b = by (way_of (whole a) (whole b) one_positive one_positive) where
  by : Way (whole a) (whole b) → Before a b ⊎ (Before a b → ⊥)
  by (before e) = inl e
  by (at e) = inr (not_before_self (whole a) (whole b) one_positive one_positive e)
  by (after e) = inr (not_after_less (whole b) (whole a) one_positive one_positive e)

-- ---- units on a segment
-- a unit that the segment covers, whose left end passes a test and whose right end fails it
pub record UnitAt (marked : List Marked) (t : Segment) (test : WholePoint → Bool) : Type 0 where
  pub seg : Segment
  pub unit : IsUnit marked seg
  pub cover : IsTrue (covers t seg)
  pub passes : test seg.left ≡ true
  pub fails : test seg.right ≡ false

module _ (marked : List Marked) (m : Marked) (among : Contains marked m) (ahead : whole_cmp m.segment.left m.segment.right ≡ Less) where
  abbrev t : Segment
  t = m.segment

  forth : Before m.segment.left m.segment.right
  forth = sym (whole_order m.segment.left m.segment.right) ∙ ahead

  pub left_held : IsTrue (is_on m.segment (whole m.segment.left))
  left_held = within_on t (whole t.left) one_positive (left_on_line t) (before_none t.left) (not_after_less (whole t.left) (whole t.right) one_positive one_positive forth)

  pub right_held : IsTrue (is_on m.segment (whole m.segment.right))
  right_held = within_on t (whole t.right) one_positive (right_on_line t) (not_after_less (whole t.left) (whole t.right) one_positive one_positive forth) (before_none t.right)

  own_line : is_collinear t t ≡ true
  own_line = and_from (int_eq (height_over t (whole t.left)) (pos 0)) (int_eq (height_over t (whole t.right)) (pos 0)) (level_test (height_over t (whole t.left)) (pos 0) (left_on_line t)) (level_test (height_over t (whole t.right)) (pos 0) (right_on_line t))

  own_left : IsEndOn marked t t.left
  own_left = record { along = is_end_of marked t t.left (record { of = m; among = among; collinear = own_line; is = inl refl }); on_segment = left_held }

  own_right : IsEndOn marked t t.right
  own_right = record { along = is_end_of marked t t.right (record { of = m; among = among; collinear = own_line; is = inr refl }); on_segment = right_held }

  module _ (test : WholePoint → Bool) (first : test m.segment.left ≡ true) (last : test m.segment.right ≡ false) (down : (u v : WholePoint) → point_cmp (whole u) (whole v) ≡ Less → test v ≡ true → test u ≡ true) where
    lower : (v : WholePoint) × IsUtmost Before test (all_ends t marked) t.left v
    lower = utmost_of Before before_through before_none before_either test t.left first (all_ends t marked)

    upper : (v : WholePoint) × IsUtmost (λ a b. Before b a) (λ v. not (test v)) (all_ends t marked) t.right v
    upper = utmost_of (λ a b. Before b a) (λ a b c e f. before_through c b a f e) before_none (λ a b. before_either b a) (λ v. not (test v)) t.right (ap not last) (all_ends t marked)

    lower_end : IsEndOn marked t lower.0
    lower_end = by lower.1.among where
      by : (lower.0 ≡ t.left) ⊎ Contains (all_ends t marked) lower.0 → IsEndOn marked t lower.0
      by (inl e) = subst (IsEndOn marked t) (sym e) own_left
      by (inr c) = found_is_end t marked lower.0 c

    upper_end : IsEndOn marked t upper.0
    upper_end = by upper.1.among where
      by : (upper.0 ≡ t.right) ⊎ Contains (all_ends t marked) upper.0 → IsEndOn marked t upper.0
      by (inl e) = subst (IsEndOn marked t) (sym e) own_right
      by (inr c) = found_is_end t marked upper.0 c

    turned_false : (b : Bool) → not b ≡ true → b ≡ false
    turned_false true e = cc
    turned_false false e = refl

    upper_fails : test upper.0 ≡ false
    upper_fails = turned_false (test upper.0) upper.1.passes

    abbrev s : Segment
    s = record { left = lower.0; right = upper.0 }

    in_turn : whole_cmp lower.0 upper.0 ≡ Less
    in_turn = whole_order lower.0 upper.0 ∙ by (way_of (whole lower.0) (whole upper.0) one_positive one_positive) where
      by : Way (whole lower.0) (whole upper.0) → Before lower.0 upper.0
      by (before e) = e
      by (at e) = absurd (both_ways (test upper.0) upper_fails (subst (λ (v : WholePoint). test v ≡ true) (one_point lower.0 upper.0 e) lower.1.passes))
      by (after e) = absurd (both_ways (test upper.0) upper_fails (down upper.0 lower.0 e lower.1.passes))

    none_there : (v : WholePoint) → IsTrue (is_end_along marked s v) → whole_cmp s.left v ≡ Less → whole_cmp v s.right ≡ Less → ⊥
    none_there v end low high = by (test v) refl
      where
        along : IsTrue (is_end_along marked t v)
        along = along_cover t s ahead in_turn lower_end.on_segment upper_end.on_segment marked v end

        low_place : Before lower.0 v
        low_place = sym (whole_order lower.0 v) ∙ low

        high_place : Before v upper.0
        high_place = sym (whole_order v upper.0) ∙ high

        held : IsTrue (is_on t (whole v))
        held =
            between_on t (whole lower.0) (whole v) (whole upper.0) one_positive one_positive one_positive lower_end.on_segment upper_end.on_segment (end_level marked t v along)
            (not_after_less (whole lower.0) (whole v) one_positive one_positive low_place) (not_after_less (whole v) (whole upper.0) one_positive one_positive high_place)

        found : Contains (all_ends t marked) v
        found = end_is_found t marked v (record { along = along; on_segment = held })

        by : (b : Bool) → test v ≡ b → ⊥
        by true e = lower.1.utmost v found e low_place
        by false e = upper.1.utmost v found (ap not e) high_place

    pub unit_at_cut : UnitAt marked m.segment test
    unit_at_cut = record {
      seg = s;
      unit = record {
        forward = in_turn;
        from_end = along_stretch t s ahead in_turn lower_end.on_segment upper_end.on_segment marked lower.0 lower_end.along;
        to_end = along_stretch t s ahead in_turn lower_end.on_segment upper_end.on_segment marked upper.0 upper_end.along;
        covered = any_from_Contains (λ n. covers n.segment s) marked m among (and_from (is_on t (whole s.left)) (is_on t (whole s.right)) lower_end.on_segment upper_end.on_segment);
        none_between = none_there;
      };
      cover = and_from (is_on t (whole s.left)) (is_on t (whole s.right)) lower_end.on_segment upper_end.on_segment;
      passes = lower.1.passes;
      fails = upper_fails;
    }

-- ---- places on units
-- the line of a segment is that of a stretch that it covers
pub level_too : (t s : Segment) → whole_cmp t.left t.right ≡ Less → IsTrue (covers t s) → (p : Point) → height_over t p ≡ pos 0 → height_over s p ≡ pos 0
level_too t s ahead cover p level =
    let tests = and_parts (is_on t (whole s.left)) (is_on t (whole s.right)) cover in
    parallel_line t s (whole s.left) p ahead (covering_turn t s tests.0 tests.1) one_positive (on_line t (whole s.left) tests.0) (left_on_line s) level

pub not_lt : (o : Ordering) → not (is_lt o) ≡ false → o ≡ Less
not_lt Less e = refl
not_lt Equal e = cc
not_lt Greater e = cc

-- a unit of a segment that ends where it ends
pub record LastUnit (marked : List Marked) (t : Segment) : Type 0 where
  pub seg : Segment
  pub unit : IsUnit marked seg
  pub cover : IsTrue (covers t seg)
  pub ends : seg.right ≡ t.right

lt_false : (o : Ordering) → (o ≡ Less → ⊥) → is_lt o ≡ false
lt_false Less h = absurd (h refl)
lt_false Equal h = refl
lt_false Greater h = refl

-- each right end of a segment is that of a unit that the segment covers
pub last_unit : (marked : List Marked) (m : Marked) → Contains marked m → whole_cmp m.segment.left m.segment.right ≡ Less → LastUnit marked m.segment
last_unit marked m among ahead = record { seg = u.seg; unit = u.unit; cover = u.cover; ends = by (way_of (whole u.seg.right) (whole m.segment.right) one_positive one_positive) } where
  u : UnitAt marked m.segment (λ v. is_lt (point_cmp (whole v) (whole m.segment.right)))
  u =
      unit_at_cut marked m among ahead (λ v. is_lt (point_cmp (whole v) (whole m.segment.right)))
      (less_test (point_cmp (whole m.segment.left) (whole m.segment.right)) (sym (whole_order m.segment.left m.segment.right) ∙ ahead))
      (lt_false (point_cmp (whole m.segment.right) (whole m.segment.right)) (before_none m.segment.right))
      (λ v w e h. less_test (point_cmp (whole v) (whole m.segment.right)) (before_through v w m.segment.right e (less_told (point_cmp (whole w) (whole m.segment.right)) h)))

  by : Way (whole u.seg.right) (whole m.segment.right) → u.seg.right ≡ m.segment.right
  by (before e) = absurd (both_ways (is_lt (point_cmp (whole u.seg.right) (whole m.segment.right))) u.fails (less_test (point_cmp (whole u.seg.right) (whole m.segment.right)) e))
  by (at e) = one_point u.seg.right m.segment.right e
  by (after e) = absurd (before_right m.segment (whole u.seg.right) one_positive (and_parts (is_on m.segment (whole u.seg.left)) (is_on m.segment (whole u.seg.right)) u.cover).1 e)

-- a unit that a segment covers, with a place on it
pub record Holding (marked : List Marked) (t : Segment) (p : Point) : Type 0 where
  pub seg : Segment
  pub unit : IsUnit marked seg
  pub cover : IsTrue (covers t seg)
  pub held : IsTrue (is_on seg p)

module _ (marked : List Marked) (m : Marked) (among : Contains marked m) (ahead : whole_cmp m.segment.left m.segment.right ≡ Less) where
  module _ (p : Point) (hp : pos 0 <ℤ p.w) (on_it : IsTrue (is_on m.segment p)) where
    -- it does not come before its right end
    abbrev up_to : WholePoint → Bool
    up_to v = not (is_lt (point_cmp p (whole v)))

    up_to_down : (u v : WholePoint) → point_cmp (whole u) (whole v) ≡ Less → up_to v ≡ true → up_to u ≡ true
    up_to_down u v e h = not_before_test p (whole u) (λ f. not_before_says p (whole v) h (less_through p (whole u) (whole v) hp one_positive one_positive f e))

    -- the unit on which it lies and that goes on after it
    pub unit_from : point_cmp p (whole m.segment.right) ≡ Less → UnitAt marked m.segment (λ v. not (is_lt (point_cmp p (whole v))))
    unit_from inside =
        unit_at_cut marked m among ahead up_to (not_before_test p (whole m.segment.left) (after_left m.segment p on_it)) (ap (λ o. not (is_lt o)) inside) up_to_down

    held_from : (inside : point_cmp p (whole m.segment.right) ≡ Less) → IsTrue (is_on (unit_from inside).seg p)
    held_from inside =
        let u = unit_from inside in
        within_on u.seg p hp (level_too m.segment u.seg ahead u.cover p (on_line m.segment p on_it)) (not_before_says p (whole u.seg.left) u.passes)
        (not_after_less p (whole u.seg.right) hp one_positive (not_lt (point_cmp p (whole u.seg.right)) u.fails))

    -- each place of a segment lies on a unit that the segment covers
    pub unit_holding : Holding marked m.segment p
    unit_holding = by (way_of p (whole m.segment.right) hp one_positive) where
      by : Way p (whole m.segment.right) → Holding marked m.segment p
      by (before e) = let u = unit_from e in record { seg = u.seg; unit = u.unit; cover = u.cover; held = held_from e }
      by (at e) =
          let u = last_unit marked m among ahead in
          record {
            seg = u.seg;
            unit = u.unit;
            cover = u.cover;
            held = on_same u.seg p (whole m.segment.right) hp one_positive e
                ∙ ap (λ v. is_on u.seg (whole v)) (sym u.ends)
                ∙ within_on u.seg (whole u.seg.right) one_positive (right_on_line u.seg) (not_after_less (whole u.seg.left) (whole u.seg.right) one_positive one_positive (sym (whole_order u.seg.left u.seg.right) ∙ u.unit.forward)) (before_none u.seg.right);
          }
      by (after e) = absurd (before_right m.segment p hp on_it e)

-- a unit of a segment that begins where it begins
pub record FirstUnit (marked : List Marked) (t : Segment) : Type 0 where
  pub seg : Segment
  pub unit : IsUnit marked seg
  pub cover : IsTrue (covers t seg)
  pub begins : seg.left ≡ t.left

-- each left end of a segment is that of a unit that the segment covers
pub first_unit : (marked : List Marked) (m : Marked) → Contains marked m → whole_cmp m.segment.left m.segment.right ≡ Less → FirstUnit marked m.segment
first_unit marked m among ahead = record { seg = u.seg; unit = u.unit; cover = u.cover; begins = by (way_of (whole u.seg.left) (whole m.segment.left) one_positive one_positive) } where
  u : UnitAt marked m.segment (λ v. not (is_lt (point_cmp (whole m.segment.left) (whole v))))
  u = unit_from marked m among ahead (whole m.segment.left) one_positive (left_held marked m among ahead) (sym (whole_order m.segment.left m.segment.right) ∙ ahead)

  by : Way (whole u.seg.left) (whole m.segment.left) → u.seg.left ≡ m.segment.left
  by (before e) = absurd (after_left m.segment (whole u.seg.left) (and_parts (is_on m.segment (whole u.seg.left)) (is_on m.segment (whole u.seg.right)) u.cover).0 e)
  by (at e) = one_point u.seg.left m.segment.left e
  by (after e) = absurd (not_before_says (whole m.segment.left) (whole u.seg.left) u.passes e)
