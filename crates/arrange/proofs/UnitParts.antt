-- Units of some segments and of a part of them that has all segments on each of its lines.
use Rattle.std.proofs.Common.{◌≡◌, ℕ, suc, ◌+◌, ◌<◌, ◌%◌, ◌==◌, ◌⊎◌, inl, inr, true, false, Bool, pos, ◌&&◌, cond, List, [], ◌∷◌, ◌++◌, get_or, map, refl, ap, sym, ◌∙◌, subst, arith}
use Rattle.std.specs.Prelude.{IsTrue, Contains, Any, count_by}
use Rattle.std.specs.List.{AllPairs}
use Rattle.std.specs.List.Sorted.{IsPermutation}
use Rattle.std.proofs.lemmas.Bool.{and_parts, and_from, false_from_ne_true}
use Rattle.std.specs.Ordering.{int_eq}
use Rattle.std.proofs.lemmas.List.{map-append, get_or_default}
use Rattle.std.proofs.lemmas.List.Elements.{All-append, All-contains, Contains-append_left, Contains-append_right, Contains-append_cases}
use Rattle.std.proofs.lemmas.List.Folds.{Any-from_list_any}
use Rattle.std.proofs.lemmas.List.Kept.{AllPairs-cons}
use Rattle.std.proofs.lemmas.List.Sorted.{Contains-permutation, IsPermutation-sym, sum_by-IsPermutation}
use Rattle.std.proofs.lemmas.List.Sums.{sum_by-append, sum_by-cons}
use Rattle.std.specs.declared.cmp.Ordering.TheVariants.{Less}
use Rattle.overlay_terms.specs.Plane.{WholePoint, Segment, whole, whole_cmp, height_over, is_on}
use Rattle.overlay_terms.specs.Trees.{mask_bits}
use Rattle.overlay_terms.specs.Layers.{Marked}
use Rattle.overlay_terms.specs.TileLaws.{IsProper}
use Rattle.overlay_terms.proofs.InputLists.{any_from_Contains}
use Rattle.overlay_terms.proofs.Lists.{any_contains, contains_first, contains_rest}
use Rattle.exact_point.proofs.OnLine.{left_on_line, right_on_line}
use Rattle.exact_point.proofs.PlaceOrder.{level_test}
use Rattle.arrange.specs.Marked.{AllProper}
use Rattle.arrange.specs.Units.{covers, cover_bits, is_collinear, is_end_along, IsUnit, AreUnits}
use Rattle.arrange.specs.declared.unit.Unit.{Unit}
use Rattle.arrange.proofs.UnitLineLemmas.{end_of, is_end_of, both_levels, cover_level, stretch_level}
use Rattle.arrange.proofs.UnitMeeting.{collinear_back}

-- a part of some segments that has all those on the lines of its own
pub record HasWholeLines (part whole_list : List Marked) : Type 0 where
  pub among : (m : Marked) → Contains part m → Contains whole_list m
  pub closed : (m n : Marked) → Contains part m → Contains whole_list n → is_collinear m.segment n.segment ≡ true → Contains part n

module _ (part all : List Marked) (lines : HasWholeLines part all) (ahead : (m : Marked) → Contains all m → whole_cmp m.segment.left m.segment.right ≡ Less) where
  ahead_of : (m : Marked) → Contains part m → whole_cmp m.segment.left m.segment.right ≡ Less
  ahead_of m c = ahead m (lines.among m c)

  -- an end along a stretch that the part covers is one of the part
  part_end : (m : Marked) → Contains part m → (s : Segment) → whole_cmp s.left s.right ≡ Less → IsTrue (covers m.segment s) → (v : WholePoint) → IsTrue (is_end_along all s v) → IsTrue (is_end_along part s v)
  part_end m c s s_ahead cover v end =
      let of = end_of all s v end in
      let tests = and_parts (is_on m.segment (whole s.left)) (is_on m.segment (whole s.right)) cover in
      let line : is_collinear m.segment of.of.segment ≡ true = both_levels s m.segment of.of.segment (cover_level m.segment s (ahead_of m c) s_ahead tests.0 tests.1) of.collinear in
      is_end_of part s v (record { of = of.of; among = lines.closed m of.of c of.among line; collinear = of.collinear; is = of.is })

  all_end : (s : Segment) (v : WholePoint) → IsTrue (is_end_along part s v) → IsTrue (is_end_along all s v)
  all_end s v end = let of = end_of part s v end in is_end_of all s v (record { of = of.of; among = lines.among of.of of.among; collinear = of.collinear; is = of.is })

  -- a unit of the part is one of all
  pub unit_of_all : (s : Segment) → IsUnit part s → IsUnit all s
  unit_of_all s unit =
      let which = Any-from_list_any (λ (m : Marked). covers m.segment s) part unit.covered in
      let there = any_contains (λ (m : Marked). covers m.segment s ≡ true) part which in
      record {
        forward = unit.forward;
        from_end = all_end s s.left unit.from_end;
        to_end = all_end s s.right unit.to_end;
        covered = any_from_Contains (λ (m : Marked). covers m.segment s) all which.1 (lines.among which.1 there) which.4;
        none_between = λ v end low high. unit.none_between v (part_end which.1 there s unit.forward which.4 v end) low high;
      }

  -- a unit of all that a segment of the part covers is one of the part
  pub unit_of_part : (m : Marked) → Contains part m → (s : Segment) → IsTrue (covers m.segment s) → IsUnit all s → IsUnit part s
  unit_of_part m c s cover unit = record {
    forward = unit.forward;
    from_end = part_end m c s unit.forward cover s.left unit.from_end;
    to_end = part_end m c s unit.forward cover s.right unit.to_end;
    covered = any_from_Contains (λ (n : Marked). covers n.segment s) part m c cover;
    none_between = λ v end low high. unit.none_between v (all_end s v end) low high;
  }

-- segments over one stretch lie on one line
pub one_line_over : (t u s : Segment) → whole_cmp t.left t.right ≡ Less → whole_cmp u.left u.right ≡ Less → whole_cmp s.left s.right ≡ Less → IsTrue (covers t s) → IsTrue (covers u s) → is_collinear t u ≡ true
one_line_over t u s t_ahead u_ahead s_ahead over_t over_u =
    and_from (int_eq (height_over t (whole u.left)) (pos 0)) (int_eq (height_over t (whole u.right)) (pos 0))
    (level_test (height_over t (whole u.left)) (pos 0) (level u.left (left_on_line u)))
    (level_test (height_over t (whole u.right)) (pos 0) (level u.right (right_on_line u)))
  where
    tests : (is_on t (whole s.left) ≡ true) × (is_on t (whole s.right) ≡ true)
    tests = and_parts (is_on t (whole s.left)) (is_on t (whole s.right)) over_t

    others : (is_on u (whole s.left) ≡ true) × (is_on u (whole s.right) ≡ true)
    others = and_parts (is_on u (whole s.left)) (is_on u (whole s.right)) over_u

    level : (v : WholePoint) → height_over u (whole v) ≡ pos 0 → height_over t (whole v) ≡ pos 0
    level v e = cover_level t s t_ahead s_ahead tests.0 tests.1 v (stretch_level u s u_ahead s_ahead others.0 others.1 v e)

-- ---- lists one after the other
pub pairs_append : {X : Type 0} (R : X → X → Type 0) (xs ys : List X) → AllPairs R xs → AllPairs R ys → ((x y : X) → Contains xs x → Contains ys y → R x y) → AllPairs R (xs ++ ys)
pairs_append R [] ys h k across = k
pairs_append R (x ∷ xs) ys h k across =
    AllPairs-cons R x (xs ++ ys)
    (All-append (R x) xs ys (λ j d l. h 0 (suc j) d (omega arith) (omega (arith, l))) (λ j d l. across x (get_or ys j d) (contains_first x xs) (j, l, get_or_default ys j (get_or ys j d) d l)))
    (pairs_append R xs ys (λ i j d l m. h (suc i) (suc j) d (omega (arith, l)) (omega (arith, m))) k (λ y z c e. across y z (contains_rest x xs y c) e))

pub none_counted : (p : Marked → Bool) (xs : List Marked) → ((m : Marked) → Contains xs m → p m ≡ false) → count_by p xs ≡ 0
none_counted p [] h = refl
none_counted p (x ∷ xs) h =
    sum_by-cons (λ m. cond (p m) 1 0) x xs
    ∙ ap (λ b. cond b 1 0 + count_by p xs) (h x (contains_first x xs))
    ∙ none (count_by p xs) (none_counted p xs (λ m c. h m (contains_rest x xs m c)))
  where
    none : (n : ℕ) → n ≡ 0 → 0 + n ≡ 0
    none n h = omega (arith, h)

-- ---- two parts on different lines
module _ (ls ms : List Marked) (xs ys : List Unit) (ahead_in : (m : Marked) → Contains (ls ++ ms) m → whole_cmp m.segment.left m.segment.right ≡ Less) (apart : (m n : Marked) → Contains ls m → Contains ms n → is_collinear m.segment n.segment ≡ true → ⊥) (first : AreUnits ls xs) (second : AreUnits ms ys) where
  in_first : (m : Marked) → Contains ls m → Contains (ls ++ ms) m
  in_first m c = Contains-append_left ls ms m c

  in_second : (m : Marked) → Contains ms m → Contains (ls ++ ms) m
  in_second m c = Contains-append_right ls ms m c

  lines_first : HasWholeLines ls (ls ++ ms)
  lines_first = record { among = in_first; closed = λ m n c d e. by m n c e (Contains-append_cases ls ms n d) } where
    by : (m n : Marked) → Contains ls m → is_collinear m.segment n.segment ≡ true → Contains ls n ⊎ Contains ms n → Contains ls n
    by m n c e (inl d) = d
    by m n c e (inr d) = absurd (apart m n c d e)

  lines_second : HasWholeLines ms (ls ++ ms)
  lines_second = record { among = in_second; closed = λ m n c d e. by m n c e (Contains-append_cases ls ms n d) } where
    by : (m n : Marked) → Contains ms m → is_collinear m.segment n.segment ≡ true → Contains ls n ⊎ Contains ms n → Contains ms n
    by m n c e (inl d) = absurd (apart n m d c (collinear_back m.segment n.segment (ahead_in m (in_second m c)) (ahead_in n (in_first n d)) e))
    by m n c e (inr d) = d

  -- no segments of both parts are over one stretch
  not_over_both : (s : Segment) → whole_cmp s.left s.right ≡ Less → (m n : Marked) → Contains ls m → Contains ms n → IsTrue (covers m.segment s) → IsTrue (covers n.segment s) → ⊥
  not_over_both s s_ahead m n c d over_m over_n = apart m n c d (one_line_over m.segment n.segment s (ahead_in m (in_first m c)) (ahead_in n (in_second n d)) s_ahead over_m over_n)

  over : (part : List Marked) (s : Segment) → IsUnit part s → (m : Marked) × Contains part m × IsTrue (covers m.segment s)
  over part s unit =
      let which = Any-from_list_any (λ (m : Marked). covers m.segment s) part unit.covered in
      (which.1, any_contains (λ (m : Marked). covers m.segment s ≡ true) part which, which.4)

  not_counted : (s : Segment) (k : ℕ) (n : Marked) → (IsTrue (covers n.segment s) → ⊥) → ((n.layer == k) && covers n.segment s) ≡ false
  not_counted s k n out = by (n.layer == k) (covers n.segment s) (false_from_ne_true (covers n.segment s) out) where
    by : (a b : Bool) → b ≡ false → (a && b) ≡ false
    by true b e = e
    by false b e = refl

  more_none : (m n : ℕ) → n ≡ 0 → m + n ≡ m
  more_none m n e = omega (arith, e)

  none_more : (m n : ℕ) → m ≡ 0 → m + n ≡ n
  none_more m n e = omega (arith, e)

  bits_first : (s : Segment) → IsUnit ls s → (k : ℕ) → cover_bits (ls ++ ms) s k ≡ cover_bits ls s k
  bits_first s unit k = by (over ls s unit) where
    by : (m : Marked) × Contains ls m × IsTrue (covers m.segment s) → cover_bits (ls ++ ms) s k ≡ cover_bits ls s k
    by (m, c, over_m) =
        ap (λ n. n % 2 == 1)
        (sum_by-append (λ (n : Marked). cond ((n.layer == k) && covers n.segment s) 1 0) ls ms
        ∙ more_none (count_by (λ (n : Marked). (n.layer == k) && covers n.segment s) ls) (count_by (λ (n : Marked). (n.layer == k) && covers n.segment s) ms)
        (none_counted (λ n. (n.layer == k) && covers n.segment s) ms (λ n d. not_counted s k n (not_over_both s unit.forward m n c d over_m))))

  bits_second : (s : Segment) → IsUnit ms s → (k : ℕ) → cover_bits (ls ++ ms) s k ≡ cover_bits ms s k
  bits_second s unit k = by (over ms s unit) where
    by : (n : Marked) × Contains ms n × IsTrue (covers n.segment s) → cover_bits (ls ++ ms) s k ≡ cover_bits ms s k
    by (n, d, over_n) =
        ap (λ n. n % 2 == 1)
        (sum_by-append (λ (m : Marked). cond ((m.layer == k) && covers m.segment s) 1 0) ls ms
        ∙ none_more (count_by (λ (m : Marked). (m.layer == k) && covers m.segment s) ls) (count_by (λ (m : Marked). (m.layer == k) && covers m.segment s) ms)
        (none_counted (λ m. (m.layer == k) && covers m.segment s) ls (λ m c. not_counted s k m (λ over_m. not_over_both s unit.forward m n c d over_m over_n))))

  -- the units of both
  pub units_joined : AreUnits (ls ++ ms) (xs ++ ys)
  units_joined = record {
    sound = All-append (λ (u : Unit). IsUnit (ls ++ ms) u.seg) xs ys
        (λ j d l. unit_of_all ls (ls ++ ms) lines_first ahead_in (get_or xs j d).seg (first.sound j d l))
        (λ j d l. unit_of_all ms (ls ++ ms) lines_second ahead_in (get_or ys j d).seg (second.sound j d l));
    masks = All-append (λ (u : Unit). (k : ℕ) → k < 32 → mask_bits u.mask k ≡ cover_bits (ls ++ ms) u.seg k) xs ys
        (λ j d l k few. first.masks j d l k few ∙ sym (bits_first (get_or xs j d).seg (first.sound j d l) k))
        (λ j d l k few. second.masks j d l k few ∙ sym (bits_second (get_or ys j d).seg (second.sound j d l) k));
    once = pairs_append (λ (u v : Unit). ¬ (u.seg ≡ v.seg)) xs ys first.once second.once (λ u v c d e. both u v c d e);
    complete = λ s unit. listed s unit (over (ls ++ ms) s unit);
  } where
    both : (u v : Unit) → Contains xs u → Contains ys v → u.seg ≡ v.seg → ⊥
    both u v c d e =
        let is_u : IsUnit ls u.seg = All-contains (λ (w : Unit). IsUnit ls w.seg) xs u first.sound c in
        let is_v : IsUnit ms u.seg = subst (IsUnit ms) (sym e) (All-contains (λ (w : Unit). IsUnit ms w.seg) ys v second.sound d) in
        let m = over ls u.seg is_u in
        let n = over ms u.seg is_v in
        not_over_both u.seg is_u.forward m.0 n.0 m.1 n.1 m.2 n.2

    listed : (s : Segment) → IsUnit (ls ++ ms) s → (m : Marked) × Contains (ls ++ ms) m × IsTrue (covers m.segment s) → Contains (map (λ (u : Unit). u.seg) (xs ++ ys)) s
    listed s unit (m, c, cover) = subst (λ (ss : List Segment). Contains ss s) (sym (map-append (λ (u : Unit). u.seg) xs ys)) (by (Contains-append_cases ls ms m c)) where
      by : Contains ls m ⊎ Contains ms m → Contains (map (λ (u : Unit). u.seg) xs ++ map (λ (u : Unit). u.seg) ys) s
      by (inl d) = Contains-append_left (map (λ (u : Unit). u.seg) xs) (map (λ (u : Unit). u.seg) ys) s (first.complete s (unit_of_part ls (ls ++ ms) lines_first ahead_in m d s cover unit))
      by (inr d) = Contains-append_right (map (λ (u : Unit). u.seg) xs) (map (λ (u : Unit). u.seg) ys) s (second.complete s (unit_of_part ms (ls ++ ms) lines_second ahead_in m d s cover unit))

-- ---- in another order
pub units_permuted : (ls ms : List Marked) (xs : List Unit) → IsPermutation ls ms → AllProper ms → AreUnits ls xs → AreUnits ms xs
units_permuted ls ms xs moved proper are = record {
  sound = λ j d l. unit_of_all ls ms lines ahead (get_or xs j d).seg (are.sound j d l);
  masks = λ j d l k few. are.masks j d l k few ∙ sym (ap (λ n. n % 2 == 1) (sum_by-IsPermutation (λ (m : Marked). cond ((m.layer == k) && covers m.segment (get_or xs j d).seg) 1 0) ls ms moved));
  once = are.once;
  complete = λ s unit. listed s unit (Any-from_list_any (λ (m : Marked). covers m.segment s) ms unit.covered);
} where
  ahead : (m : Marked) → Contains ms m → whole_cmp m.segment.left m.segment.right ≡ Less
  ahead m c = (All-contains (λ (n : Marked). IsProper n.segment) ms m proper c).first

  back : (m : Marked) → Contains ms m → Contains ls m
  back m c = Contains-permutation ms ls m (IsPermutation-sym ls ms moved) c

  lines : HasWholeLines ls ms
  lines = record { among = λ m c. Contains-permutation ls ms m moved c; closed = λ m n c d e. back n d }

  listed : (s : Segment) → IsUnit ms s → Any (λ (m : Marked). covers m.segment s ≡ true) ms → Contains (map (λ (u : Unit). u.seg) xs) s
  listed s unit which = are.complete s (unit_of_part ls ms lines ahead which.1 (back which.1 (any_contains (λ (m : Marked). covers m.segment s ≡ true) ms which)) s which.4 unit)
