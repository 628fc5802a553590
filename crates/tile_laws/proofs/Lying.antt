-- Pieces by any segment that they lie on: their sides, and which stands under which.
use Rattle.std.specs.Prelude.{◌≡◌, ℕ, ℤ, pos, ◌+ℤ◌, ◌-ℤ◌, ◌*ℤ◌, ◌<ℤ◌, ◌≤ℤ◌, int_le, int_lt, true, ◌&&◌, ◌||◌, IsTrue}
use Rattle.std.specs.Ordering.{int_eq}
use Rattle.std.proofs.Common.{ap, sym, ◌∙◌, arith}
use Rattle.std.proofs.lemmas.Int.{ints, by_lt_z}
use Rattle.std.proofs.lemmas.Bool.{and_from}
use Rattle.std.proofs.lemmas.Bool.Decides.{Decides-int_eq}
use Rattle.std.proofs.Math.IntN.{zero-*ℤ, *ℤ_comm}
use Rattle.overlay_terms.specs.Plane.{Point, Segment, whole, is_on}
use Rattle.overlay_terms.specs.Column.{is_in_column}
use Rattle.overlay_terms.specs.Tiles.{Input, IsPiece, midpoint, below_bits, over_bits}
use Rattle.overlay_terms.specs.TileLaws.{IsInput}
use Rattle.overlay_terms.proofs.InputNumbers.{lt_true, true_lt, true_le}
use Rattle.tile_laws.proofs.JustRight.{is_over_x, is_under, is_level, under_bits, up_to_bits, is_stretch_over}
use Rattle.tile_laws.proofs.Statements.{segments_in}
use Rattle.tile_laws.proofs.Stretches.{IsStretch, stretch_told, stretch_over, stretch_level}
use Rattle.tile_laws.proofs.UnderLemmas.{IsOverX, over_x_told, over_wide}
use Rattle.tile_laws.proofs.SideClear.{stretch_of, apart_of}
use Rattle.tile_laws.proofs.SideOrder.{order_kept, under_is_above}
use Rattle.tile_laws.proofs.SidesKept.{sides_are_kept}
use Rattle.tile_laws.proofs.StepUp.{level_under_alike, level_over_alike, under_bits_alike, up_to_bits_alike}
use Rattle.exact_point.proofs.Lines.{gap, offset, form_moves, gap_form}
use Rattle.exact_point.specs.Crossing.{turn_of}
use Rattle.overlay_terms.proofs.Difference.{mul_pos}
use Rattle.overlay_terms.proofs.Tests.{same_tests}
use Rattle.overlay_terms.proofs.Whole.{same_most}
use Rattle.exact_point.proofs.Signs.{positive_factor, zero_factor}
use Rattle.exact_point.proofs.ByX.{Left, AtMost, left_after}
use Rattle.exact_point.proofs.OnLine.{on_line}

-- ---- over opaque numbers
pub sign_alike : (g h w v : ℤ) → pos 0 <ℤ w → pos 0 <ℤ v → g *ℤ v ≡ h *ℤ w → int_lt (pos 0) g ≡ int_lt (pos 0) h
sign_alike g h w v hw hv e =
    same_tests (int_lt (pos 0) g) (int_lt (pos 0) h)
    (λ t. true_lt (pos 0) h (positive_factor h w hw (carried (g *ℤ v) (h *ℤ w) e (mul_pos g v (lt_true (pos 0) g t) hv))))
    (λ t. true_lt (pos 0) g (positive_factor g v hv (carried (h *ℤ w) (g *ℤ v) (sym e) (mul_pos h w (lt_true (pos 0) h t) hw))))
  where
    carried : (a b : ℤ) → a ≡ b → pos 0 <ℤ a → pos 0 <ℤ b
    carried a b e k = omega (arith, ints)

pub zero_alike : (g h w v : ℤ) → pos 0 <ℤ w → pos 0 <ℤ v → g *ℤ v ≡ h *ℤ w → int_eq g (pos 0) ≡ int_eq h (pos 0)
zero_alike g h w v hw hv e =
    same_tests (int_eq g (pos 0)) (int_eq h (pos 0))
    (λ t. (Decides-int_eq h (pos 0)).1 (zero_factor h w hw (sym e ∙ ap (λ z. z *ℤ v) ((Decides-int_eq g (pos 0)).0 t) ∙ zero-*ℤ v)))
    (λ t. (Decides-int_eq g (pos 0)).1 (zero_factor g v hv (e ∙ ap (λ z. z *ℤ w) ((Decides-int_eq h (pos 0)).0 t) ∙ zero-*ℤ w)))

no_more : (a b n x y : ℤ) → a ≡ b +ℤ (n *ℤ (x -ℤ y)) → x ≡ y → a ≡ b
no_more a b n x y e f = close a b (n *ℤ (x -ℤ y)) e (ap (λ z. n *ℤ z) (none x y f) ∙ *ℤ_comm n (pos 0) ∙ zero-*ℤ n)
  where
    none : (x y : ℤ) → x ≡ y → x -ℤ y ≡ pos 0
    none x y f = omega (arith, ints)

    close : (a b c : ℤ) → a ≡ b +ℤ c → c ≡ pos 0 → a ≡ b
    close a b c e f = omega (arith, ints)

-- how far two lines are apart, from one x to another
gap_moves : (s t : Segment) (q z : Point) → gap s t q *ℤ z.w ≡ (gap s t z *ℤ q.w) +ℤ (turn_of s t *ℤ ((q.x *ℤ z.w) -ℤ (z.x *ℤ q.w)))
gap_moves s t q z =
    ap (λ g. g *ℤ z.w) (gap_form s t q) ∙ form_moves (turn_of s t) (offset s t) z.x z.w q.x q.w
    ∙ ap (λ g. (g *ℤ q.w) +ℤ (turn_of s t *ℤ ((q.x *ℤ z.w) -ℤ (z.x *ℤ q.w)))) (sym (gap_form s t z))

-- over one x, whatever the denominators, the same is under
pub under_same_x : (s t : Segment) (q z : Point) → pos 0 <ℤ q.w → pos 0 <ℤ z.w → q.x *ℤ z.w ≡ z.x *ℤ q.w → is_under s t q ≡ is_under s t z
under_same_x s t q z hq hz e =
    let level : gap s t q *ℤ z.w ≡ gap s t z *ℤ q.w = no_more (gap s t q *ℤ z.w) (gap s t z *ℤ q.w) (turn_of s t) (q.x *ℤ z.w) (z.x *ℤ q.w) (gap_moves s t q z) e in
    ap (λ b. b || (int_eq (gap s t q) (pos 0) && int_lt (pos 0) (turn_of s t))) (sign_alike (gap s t q) (gap s t z) q.w z.w hq hz level)
    ∙ ap (λ b. int_lt (pos 0) (gap s t z) || (b && int_lt (pos 0) (turn_of s t))) (zero_alike (gap s t q) (gap s t z) q.w z.w hq hz level)

begin_by : (a x : ℤ) → a ≤ℤ x → a ≤ℤ (x *ℤ pos 1)
begin_by a x h = omega (arith, ints)

close_by : (a x : ℤ) → x <ℤ a → (x *ℤ pos 1) ≤ℤ a
close_by a x h = omega (arith, ints)

module _ (input : Input) where
  -- a piece, by a segment that it lies on
  pub record Lies (s : Segment) (p r : Point) : Type 0 where
    pub piece : IsPiece (segments_in input) p r
    pub from_on : IsTrue (is_on s p)
    pub to_on : IsTrue (is_on s r)

  -- a piece over the x of a place
  pub record IsOver (s : Segment) (p r q : Point) : Type 0 where
    pub lies : Lies s p r
    pub positive : pos 0 <ℤ q.w
    pub begun : AtMost p q
    pub goes_on : Left q r

  module _ (s : Segment) (p r q : Point) (is : IsOver s p r q) where
    hp : pos 0 <ℤ p.w
    hp = is.lies.piece.from_positive

    hr : pos 0 <ℤ r.w
    hr = is.lies.piece.to_positive

    pub stretches : is_stretch_over (p, r) q ≡ true
    stretches = and_from (int_le (p.x *ℤ q.w) (q.x *ℤ p.w)) (int_lt (q.x *ℤ r.w) (r.x *ℤ q.w)) (true_le (p.x *ℤ q.w) (q.x *ℤ p.w) is.begun) (true_lt (q.x *ℤ r.w) (r.x *ℤ q.w) is.goes_on)

    stretch : IsStretch p r q
    stretch = stretch_told p r q hp hr is.positive stretches

    -- the segment is over it, and so is the support
    pub over_it : is_over_x s q ≡ true
    over_it = stretch_over s p r q stretch is.lies.from_on is.lies.to_on

    pub support_over : is_over_x is.lies.piece.support q ≡ true
    support_over = stretch_over is.lies.piece.support p r q stretch is.lies.piece.from_on is.lies.piece.to_on

    -- both on one line
    pub on_support : is_level is.lies.piece.support s q ≡ true
    on_support =
        stretch_level is.lies.piece.support s p r q stretch (on_line is.lies.piece.support p is.lies.piece.from_on) (on_line is.lies.piece.support r is.lies.piece.to_on) (on_line s p is.lies.from_on) (on_line s r is.lies.to_on)

    -- another segment through both ends is on one line with it too
    pub other_over : (t : Segment) → IsTrue (is_on t p) → IsTrue (is_on t r) → is_over_x t q ≡ true
    other_over t on_p on_r = stretch_over t p r q stretch on_p on_r

    pub other_level : (t : Segment) → IsTrue (is_on t p) → IsTrue (is_on t r) → is_level t s q ≡ true
    other_level t on_p on_r = stretch_level t s p r q stretch (on_line t p on_p) (on_line t r on_r) (on_line s p is.lies.from_on) (on_line s r is.lies.to_on)

    -- its sides are what lies under that segment, and up to it
    pub sides_by : IsInput input → IsTrue (is_in_column input.column p) → IsTrue (is_in_column input.column q) → (k : ℕ)
        → (below_bits input.marked (midpoint p r) k ≡ under_bits input.marked s q k) × (over_bits input.marked (midpoint p r) k ≡ up_to_bits input.marked s q k)
    sides_by valid p_in q_in k =
        let kept = sides_are_kept input p r q is.lies.piece valid is.positive p_in q_in stretches k in (
          kept.0 ∙ ap (λ bits. bits k) (under_bits_alike q is.positive input is.lies.piece.support s support_over over_it on_support),
          kept.1 ∙ ap (λ bits. bits k) (up_to_bits_alike q is.positive input is.lies.piece.support s support_over over_it on_support),
        )

  -- which of two pieces stands under the other stays from one place to another that both are over
  module _ (s t : Segment) (p r u v q z : Point) (a : IsOver s p r q) (b : IsOver t u v q) (c : IsOver s p r z) (d : IsOver t u v z) (later : AtMost q z) where
    -- by the supports
    abbrev s' : Segment
    s' = a.lies.piece.support

    abbrev t' : Segment
    t' = b.lies.piece.support

    by_supports : (w : Point) (hw : pos 0 <ℤ w.w) → is_over_x s w ≡ true → is_over_x t w ≡ true → is_over_x s' w ≡ true → is_over_x t' w ≡ true → is_level s' s w ≡ true → is_level t' t w ≡ true → is_under s' t' w ≡ is_under s t w
    by_supports w hw over_s over_t over_s' over_t' level_s level_t =
        level_over_alike w hw s' s t' over_s' over_s over_t' level_s ∙ level_under_alike w hw t' t s over_t' over_t over_s level_t

    at_first : is_under s' t' q ≡ is_under s t q
    at_first = by_supports q a.positive (over_it s p r q a) (over_it t u v q b) (support_over s p r q a) (support_over t u v q b) (on_support s p r q a) (on_support t u v q b)

    at_second : is_under s' t' z ≡ is_under s t z
    at_second =
        by_supports z c.positive (over_it s p r z c) (over_it t u v z d) (other_over s p r z c s' a.lies.piece.from_on a.lies.piece.to_on) (other_over t u v z d t' b.lies.piece.from_on b.lies.piece.to_on)
        (other_level s p r z c s' a.lies.piece.from_on a.lies.piece.to_on) (other_level t u v z d t' b.lies.piece.from_on b.lies.piece.to_on)

    between : is_under s' t' q ≡ is_under s' t' z
    between =
        by_lt_z (q.x *ℤ z.w) (z.x *ℤ q.w)
        (λ after.
        let ordered : Left u v = left_after u q v b.lies.piece.from_positive b.positive b.lies.piece.to_positive b.begun b.goes_on in
        let inside : Left u z = left_after u q z b.lies.piece.from_positive b.positive d.positive b.begun after in
        let wide = over_wide q a.positive s' (support_over s p r q a) in
        let from : IsOverX s' q = over_x_told s' q (support_over s p r q a) in
        let to : IsOverX s' z = over_x_told s' z (other_over s p r z c s' a.lies.piece.from_on a.lies.piece.to_on) in
        let low : AtMost (whole s'.left) q = begin_by (s'.left.x *ℤ q.w) q.x from.from_left in
        let high : AtMost z (whole s'.right) = close_by (s'.right.x *ℤ z.w) z.x to.before_right in
        let begin : AtMost (whole s'.left) z = begin_by (s'.left.x *ℤ z.w) z.x to.from_left in
        let is_stretch = stretch_of (segments_in input) u v b.lies.piece ordered in
        let is_apart = apart_of (segments_in input) u v b.lies.piece ordered s' a.lies.piece.among in
        order_kept t' s' u v is_stretch is_apart wide q z b.positive d.positive b.begun after d.goes_on low high
        ∙ sym (under_is_above t' s' u v is_stretch is_apart wide z d.positive inside d.goes_on begin high))
        (λ back. under_same_x s' t' q z a.positive c.positive (same_most (q.x *ℤ z.w) (z.x *ℤ q.w) later back))

    pub under_stays : is_under s t q ≡ is_under s t z
    under_stays = sym at_first ∙ between ∙ at_second
