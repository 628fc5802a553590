-- A finite list of places that has the place of each node on a segment.
use Rattle.std.specs.Prelude.{◌≡◌, ◌≢◌, ℕ, ℤ, pos, ◌+ℤ◌, ◌-ℤ◌, ◌*ℤ◌, ◌<ℤ◌, int_lt, Bool, true, false, if◌then◌else◌, IsTrue, List, [], ◌∷◌, ◌++◌, map, flat_map, Contains}
use Rattle.std.proofs.Common.{refl, ap, sym, ◌∙◌, lit<, arith}
use Rattle.std.proofs.lemmas.Int.{ints}
use Rattle.std.proofs.lemmas.Bool.{both_ways}
use Rattle.std.proofs.lemmas.List.Elements.{Contains-append_left, Contains-append_right}
use Rattle.std.specs.declared.cmp.Ordering.TheVariants.{Less}
use Rattle.overlay_terms.specs.Plane.{Point, Segment, whole, whole_cmp, same_place, is_on}
use Rattle.overlay_terms.specs.Column.{border, columns}
use Rattle.overlay_terms.specs.Tiles.{is_parallel, is_node}
use Rattle.overlay_terms.proofs.Difference.{split, differences, same}
use Rattle.overlay_terms.proofs.InputNumbers.{lt_true, last_turned}
use Rattle.exact_point.specs.Crossing.{turn_of, lead_of}
use Rattle.exact_point.specs.PlaceOf.{part_way, crossing_place, cut_place}
use Rattle.exact_point.proofs.OnSegment.{reached}
use Rattle.exact_point.proofs.CrossingLemmas.{one_crossing, turn_back}
use Rattle.exact_point.proofs.BorderLemmas.{one_over_x, at_border}
use Rattle.overlay_terms.proofs.Lists.{in_flat_map, contains_map}
use Rattle.exact_point.proofs.OnLine.{parallel_from_turn, on_line}
use Rattle.exact_point.proofs.PlaceOrder.{one_positive, same_turned}
use Rattle.exact_point.proofs.Nodes.{NodeCause, at_left, at_right, across, over_border, node_cause}

-- the ends of a segment, and where it crosses another
abbrev pub candidates_with : Segment → Segment → List Point
candidates_with s t = whole t.left ∷ whole t.right ∷ crossing_place s t ∷ []

-- the ends of segments, the places where they cross one, and where the borders of columns cut it
abbrev pub candidates : List Segment → Segment → List Point
candidates segments s = flat_map (candidates_with s) segments ++ map (cut_place s) columns

-- one of some points is at the place of a point, its denominator positive
pub record IsAmong (list : List Point) (p : Point) : Type 0 where
  pub point : Point
  pub among : Contains list point
  pub positive : pos 0 <ℤ point.w
  pub at : IsTrue (same_place p point)

-- a test of less that fails
not_less : (a : ℤ) → int_lt (pos 0) a ≡ false → a ≢ pos 0 → a <ℤ pos 0
not_less a e n = grind (arith, ints)

-- ---- crossings
module _ (s t : Segment) (p : Point) (on_s : IsTrue (is_on s p)) (on_t : IsTrue (is_on t p)) (np : is_parallel s t ≡ false) where
  -- the crossing is a place, and that of the point
  abbrev IsCrossingThere : Point → Type 0
  IsCrossingThere z = (pos 0 <ℤ z.w) × IsTrue (same_place p z)

  -- on the first, where the second turns left from it
  by_first : int_lt (pos 0) (turn_of s t) ≡ true → IsCrossingThere (part_way s (lead_of s t t) (turn_of s t))
  by_first e =
      let z : Point = part_way s (lead_of s t t) (turn_of s t) in
      (lt_true (pos 0) (turn_of s t) e, same_turned z p (one_crossing s t z p (record { over = refl; across = refl; along = refl }) (reached s p on_s) (reached t p on_t)))

  -- on the second, where the first turns left from it
  by_second : int_lt (pos 0) (turn_of s t) ≡ false → IsCrossingThere (part_way t (lead_of t s s) (turn_of t s))
  by_second e =
      let z : Point = part_way t (lead_of t s s) (turn_of t s) in (
        turn_back s t (not_less (turn_of s t) e (λ f. both_ways (is_parallel s t) np (parallel_from_turn s t f))),
        same_turned z p (one_crossing t s z p (record { over = refl; across = refl; along = refl }) (reached t p on_t) (reached s p on_s)),
      )

  -- in either case
  crossing_by : (b : Bool) → int_lt (pos 0) (turn_of s t) ≡ b → IsCrossingThere (if b then part_way s (lead_of s t t) (turn_of s t) else part_way t (lead_of t s s) (turn_of t s))
  crossing_by true e = by_first e
  crossing_by false e = by_second e

  -- a point on two segments that are not parallel is where they cross
  pub crossing_there : (pos 0 <ℤ (crossing_place s t).w) × IsTrue (same_place p (crossing_place s t))
  crossing_there = crossing_by (int_lt (pos 0) (turn_of s t)) refl

-- ---- borders
-- part of the way lies on the line
cut_level : (a b l m t w : ℤ) → (a *ℤ (((m *ℤ w) +ℤ (b *ℤ t)) -ℤ (m *ℤ w))) -ℤ (b *ℤ (((l *ℤ w) +ℤ (a *ℤ t)) -ℤ (l *ℤ w))) ≡ pos 0
cut_level a b l m t w = rw (split a, split b, split l, split m, split t, split w) (simp differences (same _ _ _ _ (omega arith)))

-- a point on a segment over a border is where the border cuts it
pub cut_there : (s : Segment) (j : ℕ) (p : Point) → s.left.x <ℤ s.right.x → IsTrue (is_on s p) → p.x ≡ border j *ℤ p.w → (pos 0 <ℤ (cut_place s j).w) × IsTrue (same_place p (cut_place s j))
cut_there s j p wide on e =
    let z : Point = cut_place s j in
    let a : ℤ = s.right.x -ℤ s.left.x in
    let b : ℤ = s.right.y -ℤ s.left.y in
    let over : z.x ≡ border j *ℤ z.w = at_border s.left.x s.right.x (border j) in (
      omega (arith, ints),
      same_turned z p (one_over_x s z p wide (cut_level a b s.left.x s.left.y (border j -ℤ s.left.x) a) (on_line s p on)
          (ap (λ n. n *ℤ p.w) over ∙ last_turned (border j) z.w p.w ∙ ap (λ n. n *ℤ z.w) (sym e))),
    )

-- ---- nodes
module _ (segments : List Segment) (s : Segment) (ahead : whole_cmp s.left s.right ≡ Less) (p : Point) (on : IsTrue (is_on s p)) where
  -- a candidate with a segment of the list
  among_with : (t : Segment) (c : Point) → Contains segments t → Contains (candidates_with s t) c → Contains (candidates segments s) c
  among_with t c m d = Contains-append_left (flat_map (candidates_with s) segments) (map (cut_place s) columns) c (in_flat_map (candidates_with s) segments t c m d)

  -- each node on the segment is at the place of a candidate
  pub node_among : IsTrue (is_node segments p) → IsAmong (candidates segments s) p
  node_among node = by (node_cause segments s ahead p node) where
    by : NodeCause segments s p → IsAmong (candidates segments s) p
    by (at_left t m e) = record { point = whole t.left; among = among_with t (whole t.left) m (0, lit< tt, refl); positive = one_positive; at = e }
    by (at_right t m e) = record { point = whole t.right; among = among_with t (whole t.right) m (1, lit< tt, refl); positive = one_positive; at = e }
    by (across t m np on_t) =
        let z = crossing_there s t p on on_t np in
        record { point = crossing_place s t; among = among_with t (crossing_place s t) m (2, lit< tt, refl); positive = z.0; at = z.1 }
    by (over_border j c e wide) =
        let z = cut_there s j p wide on e in
        record {
          point = cut_place s j;
          among = Contains-append_right (flat_map (candidates_with s) segments) (map (cut_place s) columns) (cut_place s j) (contains_map (cut_place s) columns j c);
          positive = z.0;
          at = z.1;
        }
