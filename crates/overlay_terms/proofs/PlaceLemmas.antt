-- Points that are the same place have the same segments below them and on them, and so the same answers.
use Rattle.std.specs.Prelude.{◌≡◌, ℤ, pos, ◌%◌, ◌==◌, ◌*ℤ◌, ◌-ℤ◌, ◌<ℤ◌, int_le, int_lt, Bool, true, false, not, IsTrue, List, [], ◌∷◌, ◌++◌, count_by, if◌then◌else◌}
use Rattle.std.specs.List.{list_any}
use Rattle.std.specs.Cmp.{int_ranks}
use Rattle.std.specs.Ordering.{int_cmp, int_eq, is_lt, is_gt, is_eq, MatchOrdering}
use Rattle.std.specs.declared.cmp.Ordering.{Ordering}
use Rattle.std.specs.declared.cmp.Ordering.TheVariants.{Less, Equal, Greater}
use Rattle.std.proofs.Common.{refl, ap, sym, ◌∙◌, arith, cond}
use Rattle.std.proofs.lemmas.Int.{ints}
use Rattle.std.proofs.lemmas.Bool.{and_parts}
use Rattle.std.proofs.lemmas.Bool.Decides.{Decides-int_eq}
use Rattle.std.proofs.lemmas.List.Folds.{fold_along}
use Rattle.std.proofs.Math.IntN.{*ℤ_comm}
use Rattle.overlay_terms.specs.Plane.{WholePoint, Point, Segment, whole, same_place, height_over, is_below, is_on, is_inside, segments_of, point_cmp}
use Rattle.overlay_terms.specs.Layers.{Name, Content, base, derived, Layer, named, content_value, values, value_of, segments_in_reach, inside, outside, edge}
use Rattle.overlay_terms.specs.Laws.{SamePlaceSameAnswer}
use Rattle.overlay_terms.proofs.Difference.{split, whole_is, differences, same}
use Rattle.overlay_terms.proofs.Functions.{fun_ext}
use Rattle.overlay_terms.proofs.Ratios.{int_cmp-scaled}
use Rattle.overlay_terms.proofs.PointOrder.{order_is_total}
use Rattle.overlay_terms.proofs.Whole.{less_is_most, same_is_most, more_is_not_most}
use Rattle.overlay_terms.proofs.Tests.{three_tests}

-- at most, by the comparison
le_by : (x y : ℤ) (o : Ordering) → MatchOrdering o (x <ℤ y) (x ≡ y) (y <ℤ x) → int_le x y ≡ not (is_gt o)
le_by x y Less h = less_is_most x y h
le_by x y Equal h = same_is_most x y h
le_by x y Greater h = more_is_not_most x y h

-- below, by the comparison
lt_by : (b c : Bool) → b ≡ is_lt (cond b Less (cond c Greater Equal))
lt_by true c = refl
lt_by false true = refl
lt_by false false = refl

-- a positive factor changes no test
int_lt-scaled : (k x y : ℤ) → pos 0 <ℤ k → int_lt x y ≡ int_lt (k *ℤ x) (k *ℤ y)
int_lt-scaled k x y h =
    lt_by (int_lt x y) (int_lt y x) ∙ ap is_lt (int_cmp-scaled k x y h) ∙ sym (lt_by (int_lt (k *ℤ x) (k *ℤ y)) (int_lt (k *ℤ y) (k *ℤ x)))

-- a positive factor leaves at most as it is
int_le-scaled : (k x y : ℤ) → pos 0 <ℤ k → int_le x y ≡ int_le (k *ℤ x) (k *ℤ y)
int_le-scaled k x y h =
    le_by x y (int_cmp x y) (int_ranks x y)
    ∙ ap (λ o. not (is_gt o)) (int_cmp-scaled k x y h)
    ∙ sym (le_by (k *ℤ x) (k *ℤ y) (int_cmp (k *ℤ x) (k *ℤ y)) (int_ranks (k *ℤ x) (k *ℤ y)))

-- a positive factor leaves equal as it is
int_eq-scaled : (k x y : ℤ) → pos 0 <ℤ k → int_eq x y ≡ int_eq (k *ℤ x) (k *ℤ y)
int_eq-scaled k x y h = ap is_eq (int_cmp-scaled k x y h)

-- a factor moves to the second place
to_second : (k a w : ℤ) → k *ℤ (a *ℤ w) ≡ a *ℤ (w *ℤ k)
to_second k a w = rw (split k, split a, split w) (simp differences (same _ _ _ _ (omega arith)))

-- the height over a line, times k
height_times : (k across up left low x y w : ℤ) → k *ℤ (across *ℤ (y -ℤ low *ℤ w) -ℤ up *ℤ (x -ℤ left *ℤ w)) ≡ across *ℤ (y *ℤ k -ℤ low *ℤ (w *ℤ k)) -ℤ up *ℤ (x *ℤ k -ℤ left *ℤ (w *ℤ k))
height_times k across up left low x y w =
    rw (split k, split across, split up, split left, split low, split x, split y, split w) (simp differences (same _ _ _ _ (omega arith)))

-- a product with 0
times_zero : (k : ℤ) → k *ℤ pos 0 ≡ pos 0
times_zero k = rw (split k, whole_is 0) (simp differences (same _ _ _ _ (omega arith)))

-- the denominator of a whole point is positive
one_positive : pos 0 <ℤ pos 1
one_positive = omega (arith, ints)

-- two points are one place: their coordinates agree over both denominators
pub record IsSamePlace (p q : Point) : Type 0 where
  pub p_positive : pos 0 <ℤ p.w
  pub q_positive : pos 0 <ℤ q.w
  pub x_level : p.x *ℤ q.w ≡ q.x *ℤ p.w
  pub y_level : p.y *ℤ q.w ≡ q.y *ℤ p.w

-- what the test for the same place says
pub places_alike : (p q : Point) → pos 0 <ℤ p.w → pos 0 <ℤ q.w → IsTrue (same_place p q) → IsSamePlace p q
places_alike p q h k e =
    let parts = and_parts (int_eq (p.x *ℤ q.w) (q.x *ℤ p.w)) (int_eq (p.y *ℤ q.w) (q.y *ℤ p.w)) e in
    record {
      p_positive = h;
      q_positive = k;
      x_level = (Decides-int_eq (p.x *ℤ q.w) (q.x *ℤ p.w)).0 parts.0;
      y_level = (Decides-int_eq (p.y *ℤ q.w) (q.y *ℤ p.w)).0 parts.1;
    }

module _ (p q : Point) (h : IsSamePlace p q) where
  -- the product of the denominators, either way
  w_level : p.w *ℤ q.w ≡ q.w *ℤ p.w
  w_level = *ℤ_comm p.w q.w

  -- a whole number against the two
  border_level : (a : ℤ) → q.w *ℤ (a *ℤ p.w) ≡ p.w *ℤ (a *ℤ q.w)
  border_level a = to_second q.w a p.w ∙ ap (λ z. a *ℤ z) w_level ∙ sym (to_second p.w a q.w)

  -- the x of one place over both denominators
  x_crossed : q.w *ℤ p.x ≡ p.w *ℤ q.x
  x_crossed = *ℤ_comm q.w p.x ∙ h.x_level ∙ *ℤ_comm q.x p.w

  -- the heights of the two over a line differ by a positive factor
  height_level : (s : Segment) → q.w *ℤ height_over s p ≡ p.w *ℤ height_over s q
  height_level s =
      height_times q.w (s.right.x -ℤ s.left.x) (s.right.y -ℤ s.left.y) s.left.x s.left.y p.x p.y p.w
      ∙ ap (λ z. (s.right.x -ℤ s.left.x) *ℤ (z -ℤ s.left.y *ℤ (p.w *ℤ q.w)) -ℤ (s.right.y -ℤ s.left.y) *ℤ (p.x *ℤ q.w -ℤ s.left.x *ℤ (p.w *ℤ q.w))) h.y_level
      ∙ ap (λ z. (s.right.x -ℤ s.left.x) *ℤ (q.y *ℤ p.w -ℤ s.left.y *ℤ (p.w *ℤ q.w)) -ℤ (s.right.y -ℤ s.left.y) *ℤ (z -ℤ s.left.x *ℤ (p.w *ℤ q.w))) h.x_level
      ∙ ap (λ z. (s.right.x -ℤ s.left.x) *ℤ (q.y *ℤ p.w -ℤ s.left.y *ℤ z) -ℤ (s.right.y -ℤ s.left.y) *ℤ (q.x *ℤ p.w -ℤ s.left.x *ℤ z)) w_level
      ∙ sym (height_times p.w (s.right.x -ℤ s.left.x) (s.right.y -ℤ s.left.y) s.left.x s.left.y q.x q.y q.w)

  -- a whole number is at most the x of both, or of neither
  below_left : (a : ℤ) → int_le (a *ℤ p.w) p.x ≡ int_le (a *ℤ q.w) q.x
  below_left a =
      int_le-scaled q.w (a *ℤ p.w) p.x h.q_positive
      ∙ ap (λ z. int_le z (q.w *ℤ p.x)) (border_level a)
      ∙ ap (λ z. int_le (p.w *ℤ (a *ℤ q.w)) z) x_crossed
      ∙ sym (int_le-scaled p.w (a *ℤ q.w) q.x h.p_positive)

  -- a whole number is above the x of both, or of neither
  below_right : (a : ℤ) → int_lt p.x (a *ℤ p.w) ≡ int_lt q.x (a *ℤ q.w)
  below_right a =
      int_lt-scaled q.w p.x (a *ℤ p.w) h.q_positive
      ∙ ap (λ z. int_lt z (q.w *ℤ (a *ℤ p.w))) x_crossed
      ∙ ap (λ z. int_lt (p.w *ℤ q.x) z) (border_level a)
      ∙ sym (int_lt-scaled p.w q.x (a *ℤ q.w) h.p_positive)

  -- both are above a line, or neither
  above_alike : (s : Segment) → int_lt (pos 0) (height_over s p) ≡ int_lt (pos 0) (height_over s q)
  above_alike s =
      int_lt-scaled q.w (pos 0) (height_over s p) h.q_positive
      ∙ ap (λ z. int_lt z (q.w *ℤ height_over s p)) (times_zero q.w)
      ∙ ap (λ z. int_lt (pos 0) z) (height_level s)
      ∙ ap (λ z. int_lt z (p.w *ℤ height_over s q)) (sym (times_zero p.w))
      ∙ sym (int_lt-scaled p.w (pos 0) (height_over s q) h.p_positive)

  -- both are on a line, or neither
  level_alike : (s : Segment) → int_eq (height_over s p) (pos 0) ≡ int_eq (height_over s q) (pos 0)
  level_alike s =
      int_eq-scaled q.w (height_over s p) (pos 0) h.q_positive
      ∙ ap (λ z. int_eq (q.w *ℤ height_over s p) z) (times_zero q.w)
      ∙ ap (λ z. int_eq z (pos 0)) (height_level s)
      ∙ ap (λ z. int_eq (p.w *ℤ height_over s q) z) (sym (times_zero p.w))
      ∙ sym (int_eq-scaled p.w (height_over s q) (pos 0) h.p_positive)

  -- a segment is below both, or below neither
  pub below_alike : (s : Segment) → is_below s p ≡ is_below s q
  below_alike s =
      three_tests (below_left s.left.x) (below_right s.right.x) (above_alike s)

  -- both have one order against a whole point
  order_alike : (a : WholePoint) → IsTrue (same_place p q) → point_cmp p (whole a) ≡ point_cmp q (whole a)
  order_alike a e = (order_is_total p q (whole a) h.p_positive h.q_positive one_positive).alike e

  -- both are on a segment, or neither
  pub on_alike : (s : Segment) → IsTrue (same_place p q) → is_on s p ≡ is_on s q
  on_alike s e =
      three_tests (level_alike s) (ap (λ o. not (is_lt o)) (order_alike s.left e)) (ap (λ o. not (is_gt o)) (order_alike s.right e))

  -- both are inside, or neither
  inside_alike : (segments : List Segment) → is_inside segments p ≡ is_inside segments q
  inside_alike segments = ap (λ (below : Segment → Bool). count_by below segments % 2 == 1) (fun_ext below_alike)

  -- content has one value at both
  content_alike : (known : List (Name × Bool)) (content : Content) → content_value p known content ≡ content_value q known content
  content_alike known (base rings) = inside_alike (segments_of rings)
  content_alike known (derived expression) = refl

  -- each layer has one value at both
  pub values_alike : (layers : List Layer) → values layers p ≡ values layers q
  values_alike layers =
      fold_along (λ known layer. known ++ (layer.name, content_value p known layer.content) ∷ []) (λ known layer. known ++ (layer.name, content_value q known layer.content) ∷ []) (λ a b. a ≡ b)
      (λ a b layer e. ap (λ v. a ++ (layer.name, v) ∷ []) (content_alike a layer.content) ∙ ap (λ known. known ++ (layer.name, content_value q known layer.content) ∷ []) e)
      [] [] layers refl

-- points that are the same place have the same answer in every layer
pub same_place_same_answer : SamePlaceSameAnswer
same_place_same_answer layers name p q p_positive q_positive e =
    let h : IsSamePlace p q = places_alike p q p_positive q_positive e in
    ap (λ (on : Segment → Bool). if list_any (λ m. on m.segment) (segments_in_reach layers name) then edge else (if value_of layers name p then inside else outside)) (fun_ext (λ s. on_alike p q h s e))
    ∙ ap (λ known. if list_any (λ m. is_on m.segment q) (segments_in_reach layers name) then edge else (if named false known name then inside else outside)) (values_alike p q h layers)
