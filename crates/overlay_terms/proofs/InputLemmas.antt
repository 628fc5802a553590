-- A tile depends on its input alone.
use Rattle.std.specs.Prelude.{◌≡◌, ℕ, pos, ◌+◌, ◌%◌, ◌==◌, ◌*ℤ◌, ◌≤ℤ◌, ◌<ℤ◌, int_le, int_lt, true, ◌&&◌, ◌||◌, List, map, filter, All}
use Rattle.std.proofs.Common.{ap, sym, ◌∙◌, subst, arith, inl, inr}
use Rattle.std.proofs.lemmas.Bool.{and_parts, or_cases}
use Rattle.std.proofs.lemmas.Int.{ints}
use Rattle.std.proofs.lemmas.List.Elements.{All-map, All-weaker}
use Rattle.overlay_terms.specs.Plane.{Point, Segment, height_over, is_below, is_on}
use Rattle.overlay_terms.specs.Column.{border, touches}
use Rattle.overlay_terms.specs.Trees.{Steps, steps_value}
use Rattle.overlay_terms.specs.Layers.{Marked}
use Rattle.overlay_terms.specs.Tiles.{midpoint, below_bits, over_bits, IsPiece, IsBoundary}
use Rattle.overlay_terms.specs.TileLaws.{IsProper, InputLaw}
use Rattle.overlay_terms.proofs.Functions.{fun_ext}
use Rattle.overlay_terms.proofs.InputNumbers.{le_true, lt_true, touches_at, least_through, least_middle, less_middle, middle_positive, x_in_order}
use Rattle.overlay_terms.proofs.InputLists.{count_kept, map-filter}
use Rattle.overlay_terms.proofs.InputNodes.{IsIn, is_in, on_touches, Agrees, agrees_kept, kept_agrees, ends_within, piece_agrees}

-- a segment below a point of a column touches the column
below_touches : (k : ℕ) (q : Point) → IsIn k q → (s : Segment) → is_below s q ≡ true → touches k s ≡ true
below_touches k q within s h =
    let parts = and_parts (int_le (s.left.x *ℤ q.w) q.x && int_lt q.x (s.right.x *ℤ q.w)) (int_lt (pos 0) (height_over s q)) h in
    let ends = and_parts (int_le (s.left.x *ℤ q.w) q.x) (int_lt q.x (s.right.x *ℤ q.w)) parts.0 in
    let left : (s.left.x *ℤ q.w) ≤ℤ q.x = le_true (s.left.x *ℤ q.w) q.x ends.0 in
    let right : q.x <ℤ (s.right.x *ℤ q.w) = lt_true q.x (s.right.x *ℤ q.w) ends.1 in
    touches_at k s q.x q.w within.positive left (omega (arith, ints)) within.low within.high

-- a segment below a point of a column or on it touches the column
near_touches : (k : ℕ) (q : Point) → IsIn k q → (s : Segment) → (is_below s q || is_on s q) ≡ true → touches k s ≡ true
near_touches k q within s h =
    elim (or_cases (is_below s q) (is_on s q) h) [
      | inl below ↦ below_touches k q within s below
      | inr on ↦ on_touches k q within s on
    ]

-- the segments of a tile's input
abbrev pub inputs : ℕ → List Marked → List Marked
inputs k marked = filter (λ m. touches k m.segment) marked

module _ (k : ℕ) (q : Point) (within : IsIn k q) (marked : List Marked) where
  -- the parities of the segments below a point of the column
  pub below_agree : below_bits (inputs k marked) q ≡ below_bits marked q
  below_agree =
      fun_ext (λ j. ap (λ n. n % 2 == 1) (count_kept (λ (m : Marked). (m.layer == j) && is_below m.segment q) (λ m. touches k m.segment) marked (λ m h. below_touches k q within m.segment (and_parts (m.layer == j) (is_below m.segment q) h).1)))

  -- the parities of the segments below it or on it
  over_agree : over_bits (inputs k marked) q ≡ over_bits marked q
  over_agree =
      fun_ext (λ j. ap (λ n. n % 2 == 1) (count_kept (λ (m : Marked). (m.layer == j) && (is_below m.segment q || is_on m.segment q)) (λ m. touches k m.segment) marked (λ m h. near_touches k q within m.segment (and_parts (m.layer == j) (is_below m.segment q || is_on m.segment q) h).1)))

-- the middle of a piece that begins in a column lies in it
middle_within : (k : ℕ) (xs : List Segment) (p r : Point) → All IsProper xs → IsIn k p → IsPiece xs p r → IsIn k (midpoint p r)
middle_within k xs p r proper within piece =
    let end : r.x ≤ℤ (border (k + 1) *ℤ r.w) = ends_within k xs p r proper within piece in
    let begin : (border k *ℤ r.w) ≤ℤ r.x = least_through p r (border k) within.positive piece.to_positive (x_in_order p r piece.in_order) within.low in
    record {
      positive = middle_positive p r within.positive piece.to_positive;
      low = least_middle p r (border k) within.positive piece.to_positive within.low begin;
      high = less_middle p r (border (k + 1)) within.positive piece.to_positive within.high end;
    }

-- the segments of marked ones
abbrev plain : List Marked → List Segment
plain marked = map (λ m. m.segment) marked

module _ (k : ℕ) (marked : List Marked) (proper : All (λ m. IsProper m.segment) marked) where
  -- those of the input are the segments that touch the column
  plain_inputs : plain (inputs k marked) ≡ filter (touches k) (plain marked)
  plain_inputs = map-filter (touches k) (λ (m : Marked). m.segment) marked

  -- all are proper
  plain_proper : All IsProper (plain marked)
  plain_proper = All-map IsProper (λ (m : Marked). m.segment) marked proper

  -- all of them agree with those of the input on the column
  forth : Agrees k (plain marked) (plain (inputs k marked))
  forth = subst (Agrees k (plain marked)) (sym plain_inputs) (agrees_kept k (plain marked) plain_proper)

  -- and the other way
  back : Agrees k (plain (inputs k marked)) (plain marked)
  back = subst (λ xs. Agrees k xs (plain marked)) (sym plain_inputs) (kept_agrees k (plain marked) plain_proper)

  -- a piece of the boundary is one of the input
  boundary_forth : (steps : Steps) (p r : Point) → IsBoundary marked steps k p r → IsBoundary (inputs k marked) steps k p r
  boundary_forth steps p r boundary =
      let within : IsIn k p = is_in k p boundary.piece.from_positive boundary.column in
      let middle : IsIn k (midpoint p r) = middle_within k (plain marked) p r plain_proper within boundary.piece in
      record {
        piece = piece_agrees k (plain marked) (plain (inputs k marked)) p r forth within boundary.piece;
        column = boundary.column;
        sides = λ e. boundary.sides (sym (ap (steps_value steps) (below_agree k (midpoint p r) middle marked)) ∙ e ∙ ap (steps_value steps) (over_agree k (midpoint p r) middle marked));
      }

  -- a piece of the input's boundary is one of all
  boundary_back : (steps : Steps) (p r : Point) → IsBoundary (inputs k marked) steps k p r → IsBoundary marked steps k p r
  boundary_back steps p r boundary =
      let within : IsIn k p = is_in k p boundary.piece.from_positive boundary.column in
      let piece : IsPiece (plain marked) p r = piece_agrees k (plain (inputs k marked)) (plain marked) p r back within boundary.piece in
      let middle : IsIn k (midpoint p r) = middle_within k (plain marked) p r plain_proper within piece in
      record {
        piece = piece;
        column = boundary.column;
        sides = λ e. boundary.sides (ap (steps_value steps) (below_agree k (midpoint p r) middle marked) ∙ e ∙ sym (ap (steps_value steps) (over_agree k (midpoint p r) middle marked)));
      }

-- a tile depends on its input alone
pub input_law : InputLaw
input_law marked steps k tile few proper = (
  λ is_tile. record {
    ordered = is_tile.ordered;
    sound = All-weaker (λ a. IsBoundary marked steps k a.0 a.1) (λ a. IsBoundary (inputs k marked) steps k a.0 a.1) (λ a h. boundary_forth k marked proper steps a.0 a.1 h) tile is_tile.sound;
    complete = λ p r h. is_tile.complete p r (boundary_back k marked proper steps p r h);
  },
  λ is_tile. record {
    ordered = is_tile.ordered;
    sound = All-weaker (λ a. IsBoundary (inputs k marked) steps k a.0 a.1) (λ a. IsBoundary marked steps k a.0 a.1) (λ a h. boundary_back k marked proper steps a.0 a.1 h) tile is_tile.sound;
    complete = λ p r h. is_tile.complete p r (boundary_forth k marked proper steps p r h);
  },
)
