-- By which test of segments a piece learns what is under it: of a slanted piece what is under its line, of an upright one what does not pass over its lower end.
use Rattle.std.proofs.Common.{◌≡◌, ℕ, ℤ, pos, ◌+ℤ◌, ◌-ℤ◌, ◌*ℤ◌, ◌<ℤ◌, ◌≤ℤ◌, Bool, true, false, ◌&&◌, ◌||◌, inl, inr, ap, sym, ◌∙◌, arith}
use Rattle.std.specs.Prelude.{int_lt, int_le, IsTrue}
use Rattle.std.specs.Ordering.{int_eq}
use Rattle.std.proofs.lemmas.Int.{ints}
use Rattle.std.proofs.lemmas.List.Elements.{All-map, All-contains}
use Rattle.std.proofs.Math.IntN.{zero-*ℤ, *ℤ_comm}
use Rattle.overlay_terms.specs.Plane.{Point, Segment, height_over, is_on}
use Rattle.overlay_terms.specs.Tiles.{Input, midpoint, below_bits}
use Rattle.overlay_terms.specs.TileLaws.{IsInput, IsProper}
use Rattle.overlay_terms.proofs.InputNumbers.{last_turned, true_lt}
use Rattle.exact_point.specs.Crossing.{turn_of}
use Rattle.exact_point.specs.PlaceOf.{place_of}
use Rattle.exact_point.proofs.Lexical.{Forward, forward}
use Rattle.exact_point.proofs.OnSegment.{leads}
use Rattle.arrange.specs.Arrangement.{input_segments, IsElementary}
use Rattle.arrange.specs.declared.piece.Elementary.{Elementary}
use Rattle.tile_laws.proofs.JustRight.{is_over_x, is_under, bits_where}
use Rattle.tile_laws.proofs.SideMidpoint.{as_form}
use Rattle.tile_laws.proofs.UprightSides.{is_not_over, height_moves, x_on, upright_sides}
use Rattle.tile_laws.proofs.UnderLemmas.{over_wide}
use Rattle.tile_laws.proofs.StepUp.{IsLowerTest, under_is_lower, not_over_is_lower}
use Rattle.tile_laws.proofs.Lying.{IsOver, over_it, sides_by, sign_alike, zero_alike}
use Rattle.exact_point.proofs.Lines.{width, rise, gap, base, heights_give_gap}
use Rattle.overlay_terms.proofs.Difference.{mul_pos}
use Rattle.overlay_terms.proofs.Whole.{no_product, less_by}
use Rattle.exact_point.proofs.ByX.{Left}
use Rattle.exact_point.proofs.OnLine.{on_line}
use Rattle.sweep_line.specs.Status.{passes_under}
use Rattle.sweep_line.proofs.Passing.{lies}

-- ---- over opaque numbers
-- a line that rises from one place to another over the same x is not slanted
no_slant : (h k d w v n m : ℤ) → pos 0 <ℤ d → h *ℤ w ≡ ((k *ℤ v) +ℤ (d *ℤ n)) -ℤ m → h ≡ pos 0 → k ≡ pos 0 → m ≡ pos 0 → pos 0 <ℤ n → ⊥
no_slant h k d w v n m hd e one two level up = omega (arith, ints, e, level, ap (λ z. z *ℤ w) one, zero-*ℤ w, ap (λ z. z *ℤ v) two, zero-*ℤ v, mul_pos d n hd up)

-- a segment that holds two places one above the other is upright
pub not_slanted : (s : Segment) (p r : Point) → IsTrue (is_on s p) → IsTrue (is_on s r) → r.x *ℤ p.w ≡ p.x *ℤ r.w → pos 0 <ℤ ((r.y *ℤ p.w) -ℤ (p.y *ℤ r.w)) → pos 0 <ℤ width s → ⊥
not_slanted s p r on_p on_r level up wide =
    no_slant (height_over s r) (height_over s p) (width s) p.w r.w ((r.y *ℤ p.w) -ℤ (p.y *ℤ r.w)) (rise s *ℤ ((r.x *ℤ p.w) -ℤ (p.x *ℤ r.w))) wide
    (ap (λ z. z *ℤ p.w) (as_form s r) ∙ height_moves (width s) (rise s) (base s) p.x p.y p.w r.x r.y r.w ∙ ap (λ z. ((z *ℤ r.w) +ℤ (width s *ℤ ((r.y *ℤ p.w) -ℤ (p.y *ℤ r.w)))) -ℤ (rise s *ℤ ((r.x *ℤ p.w) -ℤ (p.x *ℤ r.w)))) (sym (as_form s p)))
    (on_line s r on_r) (on_line s p on_p) (no_product (rise s) (r.x *ℤ p.w) (p.x *ℤ r.w) level) up

-- the height of a place over one line, where it is on another, is the gap, but for the width of that one
as_gap : (ht ws hs wt g : ℤ) → hs ≡ pos 0 → (ht *ℤ ws) -ℤ (hs *ℤ wt) ≡ g → ht *ℤ ws ≡ g *ℤ pos 1
as_gap ht ws hs wt g level e = omega (arith, ints, e, ap (λ z. z *ℤ wt) level, zero-*ℤ wt)

-- below or on, where the turn says yes
up_to_test : (h : ℤ) (c : Bool) → c ≡ true → (int_lt (pos 0) h || (int_eq h (pos 0) && c)) ≡ int_le (pos 0) h
up_to_test h true e = by_number h
  where
    by_number : (h : ℤ) → (int_lt (pos 0) h || (int_eq h (pos 0) && true)) ≡ int_le (pos 0) h
    by_number h = grind (arith, ints)
up_to_test h false e = cc

-- from an upright line each other one turns right
turns_to_upright : (a b c d : ℤ) → pos 0 <ℤ a → c ≡ pos 0 → pos 0 <ℤ d → pos 0 <ℤ ((a *ℤ d) -ℤ (b *ℤ c))
turns_to_upright a b c d wide none up = omega (arith, ints, mul_pos a d wide up, ap (λ z. b *ℤ z) none, *ℤ_comm b (pos 0), zero-*ℤ b)

-- a test of segments by which a piece learns what is under it
pub record IsTestFor (input : Input) (e : Elementary) (test : Segment → Bool) : Type 0 where
  pub positive : pos 0 <ℤ (place_of e.from).w
  pub lower : IsLowerTest (place_of e.from) positive test
  pub passed : (t : Segment) → is_over_x t (place_of e.from) ≡ true → passes_under (place_of e.from) e.support t ≡ test t
  pub counts : (k : ℕ) → below_bits input.marked (midpoint (place_of e.from) (place_of e.to)) k ≡ bits_where test input.marked (place_of e.from) k

module _ (input : Input) (valid : IsInput input) (e : Elementary) (is : IsElementary input e) where
  abbrev s : Segment
  s = e.support

  abbrev q : Point
  q = place_of e.from

  abbrev r : Point
  r = place_of e.to

  hq : pos 0 <ℤ q.w
  hq = is.piece.from_positive

  ahead : Forward ((r.x *ℤ q.w) -ℤ (q.x *ℤ r.w)) ((r.y *ℤ q.w) -ℤ (q.y *ℤ r.w))
  ahead = forward (q.x *ℤ r.w) (r.x *ℤ q.w) (q.y *ℤ r.w) (r.y *ℤ q.w) is.piece.in_order

  -- it is slanted, or upright over one x
  module _ (wide : pos 0 <ℤ width e.support) where
    -- a slanted piece goes to the right
    pub goes_right : Left (place_of e.from) (place_of e.to)
    goes_right = by ahead where
      by : Forward ((r.x *ℤ q.w) -ℤ (q.x *ℤ r.w)) ((r.y *ℤ q.w) -ℤ (q.y *ℤ r.w)) → Left q r
      by (inl h) = less_by (q.x *ℤ r.w) (r.x *ℤ q.w) h
      by (inr h) = absurd (not_slanted s q r is.from_on is.to_on (level (q.x *ℤ r.w) (r.x *ℤ q.w) h.0) h.1 wide)
        where
          level : (a b : ℤ) → b -ℤ a ≡ pos 0 → b ≡ a
          level a b h = omega (arith, ints)

    -- it is over the x of its left end
    pub over_begin : IsOver input e.support (place_of e.from) (place_of e.to) (place_of e.from)
    over_begin = record { lies = lies input e is; positive = hq; begun = at_itself (q.x *ℤ q.w); goes_on = goes_right }
      where
        at_itself : (a : ℤ) → a ≤ℤ a
        at_itself a = omega (arith, ints)

    -- what is under its line
    slanted_passed : (t : Segment) → is_over_x t (place_of e.from) ≡ true → passes_under (place_of e.from) e.support t ≡ is_under t e.support (place_of e.from)
    slanted_passed t over =
        let level : height_over t q *ℤ width s ≡ gap t s q *ℤ pos 1 = as_gap (height_over t q) (width s) (height_over s q) (width t) (gap t s q) (on_line s q is.from_on) (heights_give_gap t s q) in
        ap (λ b. b || (int_eq (height_over t q) (pos 0) && int_lt (pos 0) (turn_of t s))) (sign_alike (height_over t q) (gap t s q) (pos 1) (width s) one wide level)
        ∙ ap (λ b. int_lt (pos 0) (gap t s q) || (b && int_lt (pos 0) (turn_of t s))) (zero_alike (height_over t q) (gap t s q) (pos 1) (width s) one wide level)
      where
        one : pos 0 <ℤ pos 1
        one = omega (arith, ints)

    pub slanted_test : IsTestFor input e (λ t. is_under t e.support (place_of e.from))
    slanted_test = record {
      positive = hq;
      lower = under_is_lower q hq s (over_it input s q r q over_begin);
      passed = slanted_passed;
      counts = λ k. (sides_by input s q r q over_begin valid is.begins is.begins k).0;
    }

  module _ (none : width e.support ≡ pos 0) (up : pos 0 <ℤ rise e.support) where
    -- both ends of an upright piece have one x, the right one above
    upright_ends : (r.x *ℤ q.w ≡ q.x *ℤ r.w) × (pos 0 <ℤ ((r.y *ℤ q.w) -ℤ (q.y *ℤ r.w)))
    upright_ends = by ahead where
      one_x : r.x *ℤ q.w ≡ q.x *ℤ r.w
      one_x = ap (λ z. z *ℤ q.w) (x_on s r none up (on_line s r is.to_on)) ∙ last_turned s.left.x r.w q.w ∙ ap (λ z. z *ℤ r.w) (sym (x_on s q none up (on_line s q is.from_on)))

      not_right : (a b : ℤ) → a ≡ b → pos 0 <ℤ (a -ℤ b) → ⊥
      not_right a b e h = omega (arith, ints)

      by : Forward ((r.x *ℤ q.w) -ℤ (q.x *ℤ r.w)) ((r.y *ℤ q.w) -ℤ (q.y *ℤ r.w)) → (r.x *ℤ q.w ≡ q.x *ℤ r.w) × (pos 0 <ℤ ((r.y *ℤ q.w) -ℤ (q.y *ℤ r.w)))
      by (inl h) = absurd (not_right (r.x *ℤ q.w) (q.x *ℤ r.w) one_x h)
      by (inr h) = (one_x, h.1)

    -- it does not go to the right
    pub goes_nowhere : Left (place_of e.from) (place_of e.to) → ⊥
    goes_nowhere h = not_less (q.x *ℤ r.w) (r.x *ℤ q.w) upright_ends.0 h
      where
        not_less : (a b : ℤ) → b ≡ a → a <ℤ b → ⊥
        not_less a b e h = omega (arith, ints)

    -- its support is upright too
    support_upright : (width is.piece.support ≡ pos 0) × (pos 0 <ℤ rise is.piece.support)
    support_upright = by (leads is.piece.support (All-contains IsProper (input_segments input) is.piece.support (All-map IsProper (λ m. m.segment) input.marked valid.proper) is.piece.among).first) where
      by : Forward (width is.piece.support) (rise is.piece.support) → (width is.piece.support ≡ pos 0) × (pos 0 <ℤ rise is.piece.support)
      by (inl wide) = absurd (not_slanted is.piece.support q r is.piece.from_on is.piece.to_on upright_ends.0 upright_ends.1 wide)
      by (inr h) = h

    -- what does not pass over its lower end
    upright_passed : (t : Segment) → is_over_x t (place_of e.from) ≡ true → passes_under (place_of e.from) e.support t ≡ is_not_over t (place_of e.from)
    upright_passed t over =
        up_to_test (height_over t q) (int_lt (pos 0) (turn_of t s)) (true_lt (pos 0) (turn_of t s) (turns_to_upright (width t) (rise t) (width s) (rise s) (over_wide q hq t over) none up))

    pub upright_test : IsTestFor input e (λ t. is_not_over t (place_of e.from))
    upright_test = record {
      positive = hq;
      lower = not_over_is_lower q hq;
      passed = upright_passed;
      counts = upright_sides input q r is.piece support_upright.0 support_upright.1;
    }
