-- Places and pieces of a strip; a column is a strip, too.
use Rattle.std.proofs.Common.{◌≡◌, ℕ, ℤ, pos, ◌+◌, ◌<◌, ◌*ℤ◌, ◌<ℤ◌, ◌≤ℤ◌, ◌-ℤ◌, true, List, map, get_or, refl, subst, sym, ◌∙◌, arith}
use Rattle.std.specs.Prelude.{IsTrue, All, Contains, int_le, int_lt, ◌≢◌}
use Rattle.std.specs.declared.cmp.Ordering.TheVariants.{Less}
use Rattle.std.proofs.lemmas.Int.{ints}
use Rattle.std.proofs.lemmas.Bool.{and_parts, and_from}
use Rattle.std.proofs.lemmas.List.Elements.{All-contains, All-weaker, Contains-get_or}
use Rattle.overlay_terms.specs.Plane.{Point, Segment, point_cmp, same_place, is_on}
use Rattle.overlay_terms.specs.Column.{column_count, border}
use Rattle.overlay_terms.specs.Trees.{Steps}
use Rattle.overlay_terms.specs.Layers.{Marked}
use Rattle.overlay_terms.specs.Tiles.{Input, is_node, IsPiece, IsBoundary, IsTileOf, under_of, over_of}
use Rattle.overlay_terms.specs.TileLaws.{IsInput, IsProper}
use Rattle.overlay_terms.proofs.InputNodes.{border_node}
use Rattle.overlay_terms.proofs.InputNumbers.{last_turned, less_times, less_back, le_true, lt_true, true_le, true_lt, in_order_by_x, IsWithinEnds, between_from_on, point_over, on_point_over, less, most, ranked, least_through}
use Rattle.overlay_terms.proofs.PlaceLemmas.{IsSamePlace, places_alike}
use Rattle.overlay_terms.proofs.Tests.{same_tests}
use Rattle.exact_point.proofs.PlaceOrder.{same_turned}
use Rattle.exact_point.proofs.SameMiddle.{under_level, over_side_level}
use Rattle.tile_laws.specs.TileExists.{AreSome}
use Rattle.overlay_terms.proofs.Lists.{contains_map}
use Rattle.arrange.specs.Marked.{marked_of}
use Rattle.arrange.specs.declared.marked_seg.MarkedSeg.{MarkedSeg}
use Rattle.crossing_sweep.specs.StripInput.{is_in_strip, StripInput, strip_of, IsStripInput, IsStripBoundary, AreStripSome, IsStripTile, Span}

-- a place of a strip, its denominator positive
pub record IsIn (strip : Span) (q : Point) : Type 0 where
  pub positive : pos 0 <ℤ q.w
  pub low : (border strip.first *ℤ q.w) ≤ℤ q.x
  pub high : q.x <ℤ (border (strip.last + 1) *ℤ q.w)

-- what the test of a strip says
pub is_in : (strip : Span) (q : Point) → pos 0 <ℤ q.w → is_in_strip strip q ≡ true → IsIn strip q
is_in strip q positive h =
    let parts = and_parts (int_le (border strip.first *ℤ q.w) q.x) (int_lt q.x (border (strip.last + 1) *ℤ q.w)) h in
    record { positive = positive; low = le_true (border strip.first *ℤ q.w) q.x parts.0; high = lt_true q.x (border (strip.last + 1) *ℤ q.w) parts.1 }

-- names of one place are in a strip, or neither
pub in_strip_alike : (p q : Point) → pos 0 <ℤ p.w → pos 0 <ℤ q.w → IsTrue (same_place p q) → (strip : Span) → is_in_strip strip p ≡ is_in_strip strip q
in_strip_alike p q hp hq e strip = same_tests (is_in_strip strip p) (is_in_strip strip q) (through p q hp hq e) (through q p hq hp (same_turned p q e))
  where
    most_from : (a b : ℤ) → a ≡ b → a ≤ℤ b
    most_from a b e = omega (arith, ints, e)

    before : (c x w y v : ℤ) → pos 0 <ℤ w → pos 0 <ℤ v → x *ℤ v ≡ y *ℤ w → x <ℤ (c *ℤ w) → y <ℤ (c *ℤ v)
    before c x w y v hw hv f h = less_back y (c *ℤ v) w hw (omega (arith, ints, f, less_times x (c *ℤ w) v hv h, last_turned c w v))

    through : (p q : Point) → pos 0 <ℤ p.w → pos 0 <ℤ q.w → IsTrue (same_place p q) → is_in_strip strip p ≡ true → is_in_strip strip q ≡ true
    through p q hp hq e h =
        let is : IsIn strip p = is_in strip p hp h in
        let level = (places_alike p q hp hq e).x_level in
        and_from (int_le (border strip.first *ℤ q.w) q.x) (int_lt q.x (border (strip.last + 1) *ℤ q.w))
        (true_le (border strip.first *ℤ q.w) q.x (least_through p q (border strip.first) hp hq (most_from (p.x *ℤ q.w) (q.x *ℤ p.w) level) is.low))
        (true_lt q.x (border (strip.last + 1) *ℤ q.w) (before (border (strip.last + 1)) p.x p.w q.x q.w hp hq level is.high))

-- the sides of a piece differ at other names of its ends, too
pub sides_alike : (marked : List Marked) (steps : Steps) (p r u v : Point) → pos 0 <ℤ p.w → pos 0 <ℤ r.w → pos 0 <ℤ u.w → pos 0 <ℤ v.w → IsTrue (same_place p u) → IsTrue (same_place r v)
    → under_of marked steps p r ≢ over_of marked steps p r → under_of marked steps u v ≢ over_of marked steps u v
sides_alike marked steps p r u v hp hr hu hv e f sides =
    let first : IsSamePlace p u = places_alike p u hp hu e in
    let second : IsSamePlace r v = places_alike r v hr hv f in
    λ level. sides (under_level p r u v first second marked steps ∙ level ∙ sym (over_side_level p r u v first second marked steps))

module _ (strip : Span) (xs : List Segment) (p r : Point) (proper : All IsProper xs) (within : IsIn strip p) (piece : IsPiece xs p r) where
  begins_left : piece.support.left.x <ℤ border (strip.last + 1)
  begins_left =
      let between : IsWithinEnds piece.support p = between_from_on piece.support p piece.from_on in
      let low : (piece.support.left.x *ℤ p.w) ≤ℤ p.x = between.from_left in
      let high : p.x <ℤ (border (strip.last + 1) *ℤ p.w) = within.high in
      let both : (piece.support.left.x *ℤ p.w) <ℤ (border (strip.last + 1) *ℤ p.w) = omega (arith, ints) in
      less_back piece.support.left.x (border (strip.last + 1)) p.w within.positive both

  -- the border after a strip that a segment reaches is one of the columns'
  border_few : (k : ℕ) (s : Segment) → IsProper s → border (k + 1) ≤ℤ s.right.x → k + 1 < column_count
  border_few k s proper h = let far : s.right.x ≤ℤ pos 1048576 = proper.right_x.1 in omega (arith, ints)

  -- a piece past the right border would have a node there
  past_border : (border (strip.last + 1) *ℤ r.w) <ℤ r.x → ⊥
  past_border past =
      let s : Segment = piece.support in
      let c : ℤ = border (strip.last + 1) in
      let d : ℤ = piece.support.right.x -ℤ piece.support.left.x in
      let left : piece.support.left.x <ℤ border (strip.last + 1) = begins_left in
      let between : IsWithinEnds piece.support r = between_from_on piece.support r piece.to_on in
      let reach : r.x ≤ℤ (piece.support.right.x *ℤ r.w) = between.to_right in
      let over : (border (strip.last + 1) *ℤ r.w) <ℤ (piece.support.right.x *ℤ r.w) = omega (arith, ints) in
      let right : border (strip.last + 1) <ℤ piece.support.right.x = less_back (border (strip.last + 1)) piece.support.right.x r.w piece.to_positive over in
      let wide : pos 0 <ℤ (piece.support.right.x -ℤ piece.support.left.x) = omega (arith, ints) in
      let slanted : piece.support.left.x <ℤ piece.support.right.x = omega (arith, ints) in
      let q : Point = point_over piece.support (border (strip.last + 1)) in
      let on : is_on piece.support q ≡ true = on_point_over piece.support (border (strip.last + 1)) left right in
      let few : strip.last + 1 < column_count = border_few strip.last piece.support (All-contains IsProper xs piece.support proper piece.among) (omega (arith, ints)) in
      let node : is_node xs q ≡ true = border_node xs piece.support (strip.last + 1) q few refl on slanted piece.among in
      let after : point_cmp p q ≡ Less = in_order_by_x p q (rw (last_turned c d p.w) (less_times p.x (c *ℤ p.w) d wide within.high)) in
      let before : point_cmp q r ≡ Less = in_order_by_x q r (rw (last_turned c d r.w) (less_times (c *ℤ r.w) r.x d wide past)) in
      piece.none_between q wide on after before node

  -- the right end of a piece that begins in the strip is not right of it
  pub ends_within : r.x ≤ℤ (border (strip.last + 1) *ℤ r.w)
  ends_within =
      elim (ranked (border (strip.last + 1) *ℤ r.w) r.x) [
        | less past ↦ absurd (past_border past)
        | most h ↦ h
      ]

-- the layers of an input are few
pub few_layers : (input : StripInput) (items : List MarkedSeg) → IsStripInput input → map marked_of items ≡ input.marked → All (λ m. m.layer < 32) items
few_layers input items valid same = λ k d l.
    let m = get_or items k d in
    let there : Contains input.marked (marked_of m) = subst (λ ms. Contains ms (marked_of m)) same (contains_map marked_of items m (Contains-get_or items k d l)) in
    let known = All-contains (λ m. m.layer < input.steps.bases) input.marked (marked_of m) valid.known_layers there in
    omega (arith, known, valid.few)

-- the first of a strip's columns is one
pub first_known : (input : StripInput) → IsStripInput input → input.strip.first < column_count
first_known input valid = omega (arith, valid.in_order, valid.known)

-- ---- a column is a strip
pub column_valid : (input : Input) → IsInput input → IsStripInput (strip_of input)
column_valid input valid = record { in_order = omega arith; known = valid.column; few = valid.few; known_layers = valid.known_layers; proper = valid.proper; even = valid.even }

column_boundary : (input : Input) (a : Point × Point) → IsStripBoundary input.marked input.steps (strip_of input).strip a.0 a.1 → IsBoundary input.marked input.steps input.column a.0 a.1
column_boundary input a b = record { piece = b.piece; column = b.begins; sides = b.sides }

pub column_some : (input : Input) (some : List (Point × Point)) → AreStripSome (strip_of input) some → AreSome input some
column_some input some are = record {
  ordered = are.ordered;
  sound = All-weaker (λ (a : Point × Point). IsStripBoundary input.marked input.steps (strip_of input).strip a.0 a.1) (λ (a : Point × Point). IsBoundary input.marked input.steps input.column a.0 a.1) (column_boundary input) some are.sound;
}

pub column_tile : (input : Input) (tile : List (Point × Point)) → IsStripTile (strip_of input) tile → IsTileOf input.marked input.steps input.column tile
column_tile input tile is =
    let some = column_some input tile is.are_some in
    record { ordered = some.ordered; sound = some.sound; complete = λ p r b. is.complete p r (record { piece = b.piece; begins = b.column; sides = b.sides }) }
