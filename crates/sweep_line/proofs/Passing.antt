-- What the sweep learns at the left end of a piece: which entries stand under it, and what lies under it.
use Rattle.std.proofs.Common.{◌≡◌, ℕ, ℤ, zero, suc, pos, ◌<◌, ◌+ℤ◌, ◌-ℤ◌, ◌*ℤ◌, ◌<ℤ◌, ◌≤ℤ◌, neg_ℤ, true, ◌&&◌, inl, inr, ◌⊎◌, refl, ap, sym, ◌∙◌, arith}
use Rattle.std.specs.Prelude.{int_lt, IsTrue}
use Rattle.std.specs.Ordering.{int_eq}
use Rattle.std.proofs.lemmas.Int.{ints, by_lt_z}
use Rattle.std.proofs.lemmas.Bool.{and_parts, or_cases}
use Rattle.std.proofs.lemmas.Bool.Decides.{Decides-int_eq}
use Rattle.std.proofs.Math.IntN.{zero-*ℤ, *ℤ_comm}
use Rattle.overlay_terms.specs.Plane.{Point, Segment, same_place, height_over, is_on}
use Rattle.overlay_terms.specs.Tiles.{Input}
use Rattle.overlay_terms.proofs.InputNumbers.{lt_true, x_in_order}
use Rattle.overlay_terms.proofs.Whole.{turn_back, no_turn, no_product, same_most}
use Rattle.exact_point.specs.Crossing.{turn_of}
use Rattle.exact_point.specs.PlaceOf.{place_of}
use Rattle.exact_point.proofs.Lexical.{Forward, forward}
use Rattle.arrange.specs.Arrangement.{IsElementary, ComesBefore}
use Rattle.arrange.specs.declared.piece.Elementary.{Elementary}
use Rattle.tile_laws.proofs.SideMidpoint.{as_form}
use Rattle.tile_laws.proofs.UprightSides.{height_moves}
use Rattle.tile_laws.proofs.UnderLemmas.{over_wide}
use Rattle.tile_laws.proofs.Lying.{Lies, IsOver, over_it}
use Rattle.exact_point.proofs.Lines.{width, rise, base}
use Rattle.exact_point.proofs.PlaceOrder.{on_same, same_from_equal}
use Rattle.exact_point.proofs.Signs.{not_negative_times, negative_times}
use Rattle.exact_point.proofs.OnLine.{on_line}
use Rattle.sweep_line.specs.Status.{passes_under}

-- ---- over opaque numbers
-- a place under one of a line over the same x has a height below 0
under_height : (h k d w v n m : ℤ) → pos 0 <ℤ w → pos 0 <ℤ d → h *ℤ w ≡ ((k *ℤ v) +ℤ (d *ℤ n)) -ℤ m → k ≡ pos 0 → m ≡ pos 0 → n <ℤ pos 0 → h <ℤ pos 0
under_height h k d w v n m hw hd e none level low =
    by_lt_z h (pos 0) (λ l. l)
    (λ l. absurd (omega (arith, ints, e, level, ap (λ z. z *ℤ v) none, zero-*ℤ v, not_negative_times h w l hw, negative_times n d low hd, *ℤ_comm d n)))

not_both_turns : (x y : ℤ) → x ≡ neg_ℤ y → pos 0 <ℤ x → pos 0 <ℤ y → ⊥
not_both_turns x y e h k = omega (arith, ints)

-- ---- what passes under a place
-- it has the place on its line or above
passes_high : (q : Point) (s t : Segment) → passes_under q s t ≡ true → pos 0 ≤ℤ height_over t q
passes_high q s t h = by (or_cases (int_lt (pos 0) (height_over t q)) (int_eq (height_over t q) (pos 0) && int_lt (pos 0) (turn_of t s)) h) where
  flat : (z : ℤ) → z ≡ pos 0 → pos 0 ≤ℤ z
  flat z e = omega (arith, ints)

  more : (z : ℤ) → pos 0 <ℤ z → pos 0 ≤ℤ z
  more z e = omega (arith, ints)

  by : (int_lt (pos 0) (height_over t q) ≡ true) ⊎ ((int_eq (height_over t q) (pos 0) && int_lt (pos 0) (turn_of t s)) ≡ true) → pos 0 ≤ℤ height_over t q
  by (inl k) = more (height_over t q) (lt_true (pos 0) (height_over t q) k)
  by (inr k) = flat (height_over t q) ((Decides-int_eq (height_over t q) (pos 0)).0 (and_parts (int_eq (height_over t q) (pos 0)) (int_lt (pos 0) (turn_of t s)) k).0)

-- and where it is on the line, the other turns left from it
passes_turn : (q : Point) (s t : Segment) → passes_under q s t ≡ true → height_over t q ≡ pos 0 → pos 0 <ℤ turn_of t s
passes_turn q s t h e = by (or_cases (int_lt (pos 0) (height_over t q)) (int_eq (height_over t q) (pos 0) && int_lt (pos 0) (turn_of t s)) h) where
  no_more : (z : ℤ) → z ≡ pos 0 → pos 0 <ℤ z → ⊥
  no_more z e k = omega (arith, ints)

  by : (int_lt (pos 0) (height_over t q) ≡ true) ⊎ ((int_eq (height_over t q) (pos 0) && int_lt (pos 0) (turn_of t s)) ≡ true) → pos 0 <ℤ turn_of t s
  by (inl k) = absurd (no_more (height_over t q) e (lt_true (pos 0) (height_over t q) k))
  by (inr k) = lt_true (pos 0) (turn_of t s) (and_parts (int_eq (height_over t q) (pos 0)) (int_lt (pos 0) (turn_of t s)) k).1

-- nothing passes under itself where it begins
pub not_itself : (q : Point) (s : Segment) → height_over s q ≡ pos 0 → passes_under q s s ≡ true → ⊥
not_itself q s e h = no_more (turn_of s s) (no_turn (width s) (rise s)) (passes_turn q s s h e)
  where
    no_more : (z : ℤ) → z ≡ pos 0 → pos 0 <ℤ z → ⊥
    no_more z e k = omega (arith, ints)

-- which of two numbers is the smaller
pub data Order (i j : ℕ) : Type 0 where
  before : i < j → Order i j
  equal : i ≡ j → Order i j
  behind : j < i → Order i j

pub order_of : (i j : ℕ) → Order i j
order_of zero zero = equal refl
order_of zero (suc j) = before (omega arith)
order_of (suc i) zero = behind (omega arith)
order_of (suc i) (suc j) = up (order_of i j)
  where
    up : Order i j → Order (suc i) (suc j)
    up (before h) = before (omega (arith, h))
    up (equal h) = equal (omega (arith, h))
    up (behind h) = behind (omega (arith, h))

-- a piece that begins in the column, by its segment
pub lies : (input : Input) (p : Elementary) → IsElementary input p → Lies input p.support (place_of p.from) (place_of p.to)
lies input p is = record { piece = is.piece; from_on = is.from_on; to_on = is.to_on }

-- a piece over the x of the left end of another that comes before it does not pass under it
pub not_known : (input : Input) (e p : Elementary) → IsElementary input e → IsElementary input p → IsOver input p.support (place_of p.from) (place_of p.to) (place_of e.from) → ComesBefore e p → passes_under (place_of e.from) e.support p.support ≡ true → ⊥
not_known input e p he hp over (inr turned) h =
    let q : Point = place_of e.from in
    let from : Point = place_of p.from in
    let one : IsTrue (same_place q from) = same_from_equal q from he.piece.from_positive hp.piece.from_positive turned.0 in
    let on : IsTrue (is_on p.support q) = on_same p.support q from he.piece.from_positive hp.piece.from_positive one ∙ hp.from_on in
    not_both_turns (turn_of p.support e.support) (turn_of e.support p.support) (turn_back (width e.support) (rise e.support) (width p.support) (rise p.support))
    (passes_turn q e.support p.support h (on_line p.support q on)) turned.1
not_known input e p he hp over (inl first) h =
    let q : Point = place_of e.from in
    let u : Point = place_of p.from in
    let t : Segment = p.support in
    let ahead : (q.x *ℤ u.w) ≤ℤ (u.x *ℤ q.w) = x_in_order q u first in
    let level : q.x *ℤ u.w ≡ u.x *ℤ q.w = same_most (q.x *ℤ u.w) (u.x *ℤ q.w) ahead over.begun in
    let up : pos 0 <ℤ ((u.y *ℤ q.w) -ℤ (q.y *ℤ u.w)) = by_y (q.x *ℤ u.w) (u.x *ℤ q.w) (q.y *ℤ u.w) (u.y *ℤ q.w) (forward (q.x *ℤ u.w) (u.x *ℤ q.w) (q.y *ℤ u.w) (u.y *ℤ q.w) first) level in
    let low : height_over t q <ℤ pos 0 =
    under_height (height_over t q) (height_over t u) (width t) u.w q.w ((q.y *ℤ u.w) -ℤ (u.y *ℤ q.w)) (rise t *ℤ ((q.x *ℤ u.w) -ℤ (u.x *ℤ q.w))) hp.piece.from_positive (over_wide q he.piece.from_positive t (over_it input t u (place_of p.to) q over))
    (ap (λ z. z *ℤ u.w) (as_form t q) ∙ height_moves (width t) (rise t) (base t) u.x u.y u.w q.x q.y q.w ∙ ap (λ z. ((z *ℤ q.w) +ℤ (width t *ℤ ((q.y *ℤ u.w) -ℤ (u.y *ℤ q.w)))) -ℤ (rise t *ℤ ((q.x *ℤ u.w) -ℤ (u.x *ℤ q.w)))) (sym (as_form t u)))
    (on_line t u hp.from_on) (no_product (rise t) (q.x *ℤ u.w) (u.x *ℤ q.w) level) (down (q.y *ℤ u.w) (u.y *ℤ q.w) up) in
    not_low (height_over t q) low (passes_high q e.support t h)
  where
    by_y : (a b c d : ℤ) → Forward (b -ℤ a) (d -ℤ c) → a ≡ b → pos 0 <ℤ (d -ℤ c)
    by_y a b c d (inl h) e = absurd (omega (arith, ints, h, e))
    by_y a b c d (inr h) e = h.1

    down : (a b : ℤ) → pos 0 <ℤ (b -ℤ a) → (a -ℤ b) <ℤ pos 0
    down a b h = omega (arith, ints)

    not_low : (z : ℤ) → z <ℤ pos 0 → pos 0 ≤ℤ z → ⊥
    not_low z h k = omega (arith, ints)
