-- Whole points on segments and in columns, and what the names of places say of them.
use Rattle.std.proofs.Common.{◌≡◌, ◌==◌, ℕ, ◌+◌, ◌≤◌, ℤ, pos, ◌*ℤ◌, ◌≤ℤ◌, ◌<ℤ◌, Bool, true, ◌&&◌, sym, ap, subst, ◌∙◌, arith}
use Rattle.std.proofs.lemmas.Bool.{and_from, and_parts}
use Rattle.std.proofs.lemmas.Bool.Decides.{Decides-eqb}
use Rattle.std.proofs.lemmas.Int.{ints}
use Rattle.std.specs.Prelude.{◌↔◌, IsTrue, int_le, int_lt}
use Rattle.std.specs.Ordering.{is_lt}
use Rattle.std.specs.declared.cmp.Ordering.TheVariants.{Less}
use Rattle.overlay_terms.specs.Column.{border, is_in_column}
use Rattle.overlay_terms.proofs.InputNumbers.{le_true, lt_true, true_le, true_lt, less_times, less_back, most_back}
use Rattle.overlay_terms.specs.Plane.{Point, WholePoint, Segment, whole, whole_cmp, same_whole, is_on}
use Rattle.overlay_terms.specs.SameInput.{same_segment, same_segment-Decides}
use Rattle.overlay_terms.proofs.PointOrder.{same_points}
use Rattle.overlay_terms.proofs.Tests.{less_told, same_tests}
use Rattle.exact_point.specs.Crossing.{IsCrossingOf}
use Rattle.exact_point.specs.PlaceOf.{place_of, cut_place}
use Rattle.exact_point.specs.PointName.{IsPlaceOf, IsCutBy, IsCutOf}
use Rattle.exact_point.specs.declared.point_name.PointName.{PointName}
use Rattle.exact_point.specs.declared.point_name.PointName.TheVariants.{Vertex, Cross, Border}
use Rattle.exact_point.proofs.BorderLemmas.{at_border}
use Rattle.exact_point.proofs.PlaceOrder.{one_positive}
use Rattle.arrange.proofs.UnitLineLemmas.{whole_order}
use Rattle.crossing_sweep.proofs.StartLemmas.{left_held, right_held}
use Rattle.tile_build.specs.Piece.{IsBetween}

-- a whole point that is an end of a segment lies on it
pub at_left : (s : Segment) (v l : WholePoint) (b : Bool) → whole_cmp s.left s.right ≡ Less → l ≡ s.left
    → b ≡ same_whole v l → b ≡ true → IsTrue (is_on s (whole v))
at_left s v l b ahead is told e =
    ap (λ (u : WholePoint). is_on s (whole u)) (same_points v l (sym told ∙ e) ∙ is) ∙ left_held s ahead

pub at_right : (s : Segment) (v r : WholePoint) (b : Bool) → whole_cmp s.left s.right ≡ Less → r ≡ s.right
    → b ≡ same_whole v r → b ≡ true → IsTrue (is_on s (whole v))
at_right s v r b ahead is told e =
    ap (λ (u : WholePoint). is_on s (whole u)) (same_points v r (sym told ∙ e) ∙ is) ∙ right_held s ahead

-- a name that is made of a segment says that its place lies on it
abbrev pub SaysOn : Segment → PointName → Bool → Type 0
SaysOn s name b = IsTrue b → IsPlaceOf name (place_of name) → IsTrue (is_on s (place_of name))

pub vertex_on : (s : Segment) (name : PointName) (v : WholePoint) (b : Bool) → name ≡ Vertex v
    → (IsTrue b → IsTrue (is_on s (whole v))) → SaysOn s name b
vertex_on s name v b is so e placed = ap (λ (n : PointName). is_on s (place_of n)) is ∙ so e

pub first_on : (s t u : Segment) (name : PointName) (b : Bool) → name ≡ Cross t u → b ≡ same_segment t s
    → SaysOn s name b
first_on s t u name b is told e placed =
    let crossing : IsCrossingOf t u (place_of (Cross t u)) =
    subst (λ (n : PointName). IsPlaceOf n (place_of n)) is placed in
    let one : t ≡ s = (same_segment-Decides t s).0 (sym told ∙ e) in
    (λ i. is_on (sym one i) (place_of (is i))) ∙ crossing.on_first

pub second_on : (s t u : Segment) (name : PointName) (b : Bool) → name ≡ Cross t u → b ≡ same_segment u s
    → SaysOn s name b
second_on s t u name b is told e placed =
    let crossing : IsCrossingOf t u (place_of (Cross t u)) =
    subst (λ (n : PointName). IsPlaceOf n (place_of n)) is placed in
    let one : u ≡ s = (same_segment-Decides u s).0 (sym told ∙ e) in
    (λ i. is_on (sym one i) (place_of (is i))) ∙ crossing.on_second

pub cut_on : (s t : Segment) (k : ℕ) (name : PointName) (b : Bool) → name ≡ Border t k → b ≡ same_segment t s
    → SaysOn s name b
cut_on s t k name b is told e placed =
    let cut : IsCutOf t k (place_of (Border t k)) =
    subst (λ (n : PointName). IsPlaceOf n (place_of n)) is placed in
    let one : t ≡ s = (same_segment-Decides t s).0 (sym told ∙ e) in
    (λ i. is_on (sym one i) (place_of (is i))) ∙ cut.on_segment

-- whole points are the ends of a piece of a segment exactly where both lie on it and they are in order
pub whole_ends : (s : Segment) (l r : WholePoint) (b : Bool) → is_on s (whole l) ≡ true → is_on s (whole r) ≡ true
    → b ≡ is_lt (whole_cmp l r) → IsTrue b ↔ IsBetween s (Vertex l) (Vertex r)
whole_ends s l r b from to told = (
  λ e. record {
    from_named = tt;
    to_named = tt;
    from_positive = one_positive;
    to_positive = one_positive;
    from_on = from;
    to_on = to;
    in_order = sym (whole_order l r) ∙ less_told (whole_cmp l r) (sym told ∙ e);
  },
  λ between. told ∙ ap is_lt (whole_order l r ∙ between.in_order),
)

-- whole points are in the order of points, and in a column by their x
pub whole_in : (k : ℕ) (v : WholePoint)
    → (int_le (border k) v.x && int_lt v.x (border (k + 1))) ≡ is_in_column k (whole v)
whole_in k v =
    (λ i. int_le (once (border k) i) v.x && int_lt v.x (once (border (k + 1)) i))
  where
    once : (z : ℤ) → z ≡ z *ℤ pos 1
    once z = omega (arith, ints)

-- where a border cuts a segment is in the column with the border's number alone
pub cut_in : (k j : ℕ) (s : Segment) → IsCutBy s j → (k == j) ≡ is_in_column k (cut_place s j)
cut_in k j s cut = same_tests (k == j) (is_in_column k p) there back
  where
    p : Point
    p = cut_place s j

    wide : pos 0 <ℤ p.w
    wide = omega (arith, ints, cut.after_left, cut.before_right)

    over : p.x ≡ border j *ℤ p.w
    over = at_border s.left.x s.right.x (border j)

    next : (i : ℕ) → border i <ℤ border (i + 1)
    next i = omega (arith, ints)

    least : (i j : ℕ) → border i ≤ℤ border j → i ≤ j
    least i j h = omega (arith, ints, h)

    before : (i j : ℕ) → border j <ℤ border (i + 1) → j ≤ i
    before i j h = omega (arith, ints, h)

    own : (i : ℕ) → p.x ≡ border i *ℤ p.w → is_in_column i p ≡ true
    own i e =
        and_from (int_le (border i *ℤ p.w) p.x) (int_lt p.x (border (i + 1) *ℤ p.w)) (true_le (border i *ℤ p.w) p.x (omega (arith, ints, e)))
        (true_lt p.x (border (i + 1) *ℤ p.w) (rw e (less_times (border i) (border (i + 1)) p.w wide (next i))))

    there : (k == j) ≡ true → is_in_column k p ≡ true
    there h = own k (over ∙ ap (λ i. border i *ℤ p.w) (sym ((Decides-eqb k j).0 h)))

    back : is_in_column k p ≡ true → (k == j) ≡ true
    back h =
        let parts = and_parts (int_le (border k *ℤ p.w) p.x) (int_lt p.x (border (k + 1) *ℤ p.w)) h in
        let low : k ≤ j = least k j (most_back (border k) (border j) p.w wide (rw (← over) (le_true (border k *ℤ p.w) p.x parts.0))) in
        let high : j ≤ k = before k j (less_back (border j) (border (k + 1)) p.w wide (rw (← over) (lt_true p.x (border (k + 1) *ℤ p.w) parts.1))) in
        (Decides-eqb k j).1 (omega (arith, low, high))
