-- Another origin changes nothing that is seen.
use Rattle.std.proofs.Common.{◌≡◌, ℤ, pos, ◌-ℤ◌, ◌*ℤ◌, ◌<ℤ◌, ◌≤ℤ◌, refl, ap, sym, ◌∙◌, arith, List, [], ◌∷◌, map, not}
use Rattle.std.proofs.lemmas.Int.{ints, by_lt_z}
use Rattle.std.specs.Prelude.{int_lt, int_le}
use Rattle.std.specs.Cmp.{int_ranks, int_cmp_is}
use Rattle.std.specs.Ordering.{int_cmp, int_eq, is_lt, is_gt, ordering_then, MatchOrdering}
use Rattle.std.specs.declared.cmp.Ordering.{Ordering}
use Rattle.std.specs.declared.cmp.Ordering.TheVariants.{Less, Equal, Greater}
use Rattle.overlay_terms.specs.Plane.{WholePoint, Point, Segment, is_below, is_on, whole, whole_cmp, point_cmp, ring_segments}
use Rattle.overlay_terms.proofs.Difference.{split, differences, same}
use Rattle.overlay_terms.proofs.InputNumbers.{true_le, true_lt, times_one}
use Rattle.overlay_terms.proofs.Tests.{three_tests}
use Rattle.exact_point.proofs.Tests.{lt_no, le_no}
use Rattle.map_window.specs.Window.{whole_moved, moved, AreAlike}
use Rattle.map_window.proofs.Steps.{step, ring_segments-cons, one_inside, alike-append}

pub times_moved : (a o w : ℤ) → (a -ℤ o) *ℤ w ≡ a *ℤ w -ℤ o *ℤ w
times_moved a o w = rw (split a, split o, split w) (simp differences (same _ _ _ _ (omega arith)))

le_moved : (a b c : ℤ) → int_le (a -ℤ c) (b -ℤ c) ≡ int_le a b
le_moved a b c =
    by_lt_z b a
    (λ l. let m : (b -ℤ c) <ℤ (a -ℤ c) = omega (arith, ints) in le_no (a -ℤ c) (b -ℤ c) m ∙ sym (le_no a b l))
    (λ l. let m : (a -ℤ c) ≤ℤ (b -ℤ c) = omega (arith, ints) in true_le (a -ℤ c) (b -ℤ c) m ∙ sym (true_le a b l))

lt_moved : (a b c : ℤ) → int_lt (a -ℤ c) (b -ℤ c) ≡ int_lt a b
lt_moved a b c =
    by_lt_z a b
    (λ l. let m : (a -ℤ c) <ℤ (b -ℤ c) = omega (arith, ints) in true_lt (a -ℤ c) (b -ℤ c) m ∙ sym (true_lt a b l))
    (λ l. let m : (b -ℤ c) ≤ℤ (a -ℤ c) = omega (arith, ints) in lt_no (a -ℤ c) (b -ℤ c) m ∙ sym (lt_no a b l))

ranks_moved : (a b c : ℤ) (o : Ordering) → MatchOrdering o (a <ℤ b) (a ≡ b) (b <ℤ a) → MatchOrdering o ((a -ℤ c) <ℤ (b -ℤ c)) (a -ℤ c ≡ b -ℤ c) ((b -ℤ c) <ℤ (a -ℤ c))
ranks_moved a b c Less h = omega (arith, ints)
ranks_moved a b c Equal h = ap (λ z. z -ℤ c) h
ranks_moved a b c Greater h = omega (arith, ints)

cmp_moved : (a b c : ℤ) → int_cmp (a -ℤ c) (b -ℤ c) ≡ int_cmp a b
cmp_moved a b c = sym (int_cmp_is (a -ℤ c) (b -ℤ c) (int_cmp a b) (ranks_moved a b c (int_cmp a b) (int_ranks a b)))

height_moved : (a b c d x y w u v : ℤ)
    → ((c -ℤ u) -ℤ (a -ℤ u)) *ℤ ((y -ℤ v *ℤ w) -ℤ (b -ℤ v) *ℤ w) -ℤ ((d -ℤ v) -ℤ (b -ℤ v)) *ℤ ((x -ℤ u *ℤ w) -ℤ (a -ℤ u) *ℤ w)
    ≡ (c -ℤ a) *ℤ (y -ℤ b *ℤ w) -ℤ (d -ℤ b) *ℤ (x -ℤ a *ℤ w)
height_moved a b c d x y w u v =
    rw (split a, split b, split c, split d, split x, split y, split w, split u, split v) (simp differences (same _ _ _ _ (omega arith)))

-- a segment seen from another origin
abbrev pub segment_moved : WholePoint → Segment → Segment
segment_moved o s = record { left = whole_moved o s.left; right = whole_moved o s.right }

pub moved_below : (o : WholePoint) (s : Segment) (q : Point) → is_below (segment_moved o s) (moved o q) ≡ is_below s q
moved_below o s q =
    three_tests
    (ap (λ z. int_le z (q.x -ℤ o.x *ℤ q.w)) (times_moved s.left.x o.x q.w) ∙ le_moved (s.left.x *ℤ q.w) q.x (o.x *ℤ q.w))
    (ap (λ z. int_lt (q.x -ℤ o.x *ℤ q.w) z) (times_moved s.right.x o.x q.w) ∙ lt_moved q.x (s.right.x *ℤ q.w) (o.x *ℤ q.w))
    (ap (λ z. int_lt (pos 0) z) (height_moved s.left.x s.left.y s.right.x s.right.y q.x q.y q.w o.x o.y))

cross_moved : (x a o w : ℤ) → int_cmp ((x -ℤ o *ℤ w) *ℤ pos 1) ((a -ℤ o) *ℤ w) ≡ int_cmp (x *ℤ pos 1) (a *ℤ w)
cross_moved x a o w =
    ap (λ z. int_cmp z ((a -ℤ o) *ℤ w)) (times_one (x -ℤ o *ℤ w)) ∙ ap (λ z. int_cmp (x -ℤ o *ℤ w) z) (times_moved a o w)
    ∙ cmp_moved x (a *ℤ w) (o *ℤ w) ∙ sym (ap (λ z. int_cmp z (a *ℤ w)) (times_one x))

point_moved : (o a : WholePoint) (q : Point) → point_cmp (moved o q) (whole (whole_moved o a)) ≡ point_cmp q (whole a)
point_moved o a q = λ i. ordering_then (cross_moved q.x a.x o.x q.w i) (cross_moved q.y a.y o.y q.w i)

pub moved_on : (o : WholePoint) (s : Segment) (q : Point) → is_on (segment_moved o s) (moved o q) ≡ is_on s q
moved_on o s q =
    three_tests
    (ap (λ z. int_eq z (pos 0)) (height_moved s.left.x s.left.y s.right.x s.right.y q.x q.y q.w o.x o.y))
    (ap (λ c. not (is_lt c)) (point_moved o s.left q))
    (ap (λ c. not (is_gt c)) (point_moved o s.right q))

whole_cmp_moved : (o a b : WholePoint) → whole_cmp (whole_moved o a) (whole_moved o b) ≡ whole_cmp a b
whole_cmp_moved o a b = λ i. ordering_then (cmp_moved a.x b.x o.x i) (cmp_moved a.y b.y o.y i)

one_moved : (o : WholePoint) (s : Segment) (q : Point) → AreAlike (segment_moved o s ∷ []) (moved o q) (s ∷ []) q
one_moved o s q = record {
  inside = one_inside (segment_moved o s) (moved o q) ∙ moved_below o s q ∙ sym (one_inside s q);
  edge = rw (moved_on o s q) refl;
}

step_by : (o a b : WholePoint) (q : Point) (c : Ordering) → whole_cmp a b ≡ c → whole_cmp (whole_moved o a) (whole_moved o b) ≡ c → AreAlike (step (whole_moved o a) (whole_moved o b)) (moved o q) (step a b) q
step_by o a b q Less e f = rw (e, f) (one_moved o (record { left = a; right = b }) q)
step_by o a b q Equal e f = rw (e, f) (record { inside = refl; edge = refl })
step_by o a b q Greater e f = rw (e, f) (one_moved o (record { left = b; right = a }) q)

step_moved : (o a b : WholePoint) (q : Point) → AreAlike (step (whole_moved o a) (whole_moved o b)) (moved o q) (step a b) q
step_moved o a b q = step_by o a b q (whole_cmp a b) refl (whole_cmp_moved o a b)

-- a line seen from another origin
pub line_moved : (o : WholePoint) (line : List WholePoint) (q : Point) → AreAlike (ring_segments (map (whole_moved o) line)) (moved o q) (ring_segments line) q
line_moved o [] q = record { inside = refl; edge = refl }
line_moved o (a ∷ []) q = record { inside = refl; edge = refl }
line_moved o (a ∷ b ∷ rest) q =
    rw (ring_segments-cons a b rest, ring_segments-cons (whole_moved o a) (whole_moved o b) (map (whole_moved o) rest))
    (alike-append (step (whole_moved o a) (whole_moved o b)) (step a b) (ring_segments (map (whole_moved o) (b ∷ rest))) (ring_segments (b ∷ rest)) (moved o q) q (step_moved o a b q) (line_moved o (b ∷ rest) q))
