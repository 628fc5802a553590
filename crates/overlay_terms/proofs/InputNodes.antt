-- Nodes and pieces of a column: the segments that touch it decide them.
use Rattle.std.specs.Prelude.{◌≡◌, ℕ, ℤ, pos, ◌+◌, ◌<◌, ◌-ℤ◌, ◌*ℤ◌, ◌≤ℤ◌, ◌<ℤ◌, int_le, int_lt, Bool, true, not, ◌&&◌, ◌||◌, List, filter, All, Contains}
use Rattle.std.specs.List.{list_any}
use Rattle.std.specs.Ordering.{int_eq}
use Rattle.std.specs.declared.cmp.Ordering.TheVariants.{Less}
use Rattle.std.proofs.Common.{refl, ap, sym, ◌∙◌, arith}
use Rattle.std.proofs.lemmas.Bool.{and_parts, and_from, or_cases, or_right}
use Rattle.std.proofs.lemmas.Bool.Decides.{Decides-int_eq}
use Rattle.std.proofs.lemmas.Int.{ints}
use Rattle.std.proofs.lemmas.List.Elements.{All-contains, All-filter}
use Rattle.std.proofs.Common.{inl, inr}
use Rattle.overlay_terms.specs.Plane.{WholePoint, Point, Segment, whole, point_cmp, same_place, is_on}
use Rattle.overlay_terms.specs.Column.{border, columns, column_count, is_in_column, touches}
use Rattle.overlay_terms.specs.Tiles.{is_parallel, is_vertical, is_end, is_crossing, is_on_border, is_node, IsPiece}
use Rattle.overlay_terms.specs.TileLaws.{IsProper}
use Rattle.overlay_terms.proofs.Functions.{fun_ext}
use Rattle.overlay_terms.proofs.InputNumbers.{last_turned, times_one, less_times, most_times, less, most, ranked, most_back, less_back, le_true, lt_true, false_eq, x_in_order, in_order_by_x, left_most, IsWithinEnds, between_from_on, point_over, on_point_over, touches_at, border_found, most_through, least_through}
use Rattle.overlay_terms.proofs.InputLists.{any_kept, any_from_Contains, Contains-from_filter, Contains-filter}

-- a point of a column, its denominator positive
pub record IsIn (k : ℕ) (q : Point) : Type 0 where
  pub positive : pos 0 <ℤ q.w
  pub low : (border k *ℤ q.w) ≤ℤ q.x
  pub high : q.x <ℤ (border (k + 1) *ℤ q.w)

-- what the test of a column says
pub is_in : (k : ℕ) (q : Point) → pos 0 <ℤ q.w → is_in_column k q ≡ true → IsIn k q
is_in k q positive h =
    let parts = and_parts (int_le (border k *ℤ q.w) q.x) (int_lt q.x (border (k + 1) *ℤ q.w)) h in
    record { positive = positive; low = le_true (border k *ℤ q.w) q.x parts.0; high = lt_true q.x (border (k + 1) *ℤ q.w) parts.1 }

module _ (k : ℕ) (q : Point) (within : IsIn k q) where
  -- a segment with the point on it touches the column
  pub on_touches : (s : Segment) → is_on s q ≡ true → touches k s ≡ true
  on_touches s on =
      let between : IsWithinEnds s q = between_from_on s q on in
      touches_at k s q.x q.w within.positive between.from_left between.to_right within.low within.high

  -- a whole point that is the point has its x
  x_of_same : (a : WholePoint) → same_place q (whole a) ≡ true → q.x ≡ a.x *ℤ q.w
  x_of_same a h =
      sym (times_one q.x) ∙ (Decides-int_eq (q.x *ℤ pos 1) (a.x *ℤ q.w)).0 (and_parts (int_eq (q.x *ℤ pos 1) (a.x *ℤ q.w)) (int_eq (q.y *ℤ pos 1) (a.y *ℤ q.w)) h).0

  -- a segment with an end at the point touches the column
  end_touches : (s : Segment) → IsProper s → (same_place q (whole s.left) || same_place q (whole s.right)) ≡ true → touches k s ≡ true
  end_touches s proper h =
      let wide : (s.left.x *ℤ q.w) ≤ℤ (s.right.x *ℤ q.w) = most_times s.left.x s.right.x q.w within.positive (left_most s proper.first) in
      elim (or_cases (same_place q (whole s.left)) (same_place q (whole s.right)) h) [
        | inl l ↦ let e : q.x ≡ s.left.x *ℤ q.w = x_of_same s.left l in touches_at k s q.x q.w within.positive (omega (arith, ints)) (omega (arith, ints)) within.low within.high
        | inr r ↦ let e : q.x ≡ s.right.x *ℤ q.w = x_of_same s.right r in touches_at k s q.x q.w within.positive (omega (arith, ints)) (omega (arith, ints)) within.low within.high
      ]

  module _ (xs : List Segment) (proper : All IsProper xs) where
    -- the ends there
    ends_agree : is_end (filter (touches k) xs) q ≡ is_end xs q
    ends_agree =
        any_kept (λ s. same_place q (whole s.left) || same_place q (whole s.right)) (touches k) IsProper xs end_touches proper

    -- the segments through the point that are not parallel to one
    others_agree : (s : Segment) → list_any (λ t. is_on t q && not (is_parallel s t)) (filter (touches k) xs) ≡ list_any (λ t. is_on t q && not (is_parallel s t)) xs
    others_agree s =
        any_kept (λ t. is_on t q && not (is_parallel s t)) (touches k) IsProper xs (λ t _ h. on_touches t (and_parts (is_on t q) (not (is_parallel s t)) h).0) proper

    -- the crossings there
    crossings_agree : is_crossing (filter (touches k) xs) q ≡ is_crossing xs q
    crossings_agree =
        ap (λ (others : Segment → Bool). list_any (λ s. is_on s q && others s) (filter (touches k) xs)) (fun_ext others_agree)
        ∙ any_kept (λ s. is_on s q && list_any (λ t. is_on t q && not (is_parallel s t)) xs) (touches k) IsProper xs (λ s _ h. on_touches s (and_parts (is_on s q) (list_any (λ t. is_on t q && not (is_parallel s t)) xs) h).0) proper

    -- the places on a border there
    borders_agree : is_on_border (filter (touches k) xs) q ≡ is_on_border xs q
    borders_agree =
        ap (λ b. list_any (λ j. int_eq q.x (border j *ℤ q.w)) columns && b)
        (any_kept (λ s. is_on s q && not (is_vertical s)) (touches k) IsProper xs (λ s _ h. on_touches s (and_parts (is_on s q) (not (is_vertical s)) h).0) proper)

    -- the nodes there
    pub nodes_agree : is_node (filter (touches k) xs) q ≡ is_node xs q
    nodes_agree =
        ap (λ b. (b || is_crossing (filter (touches k) xs) q) || is_on_border (filter (touches k) xs) q) ends_agree
        ∙ ap (λ b. (is_end xs q || b) || is_on_border (filter (touches k) xs) q) crossings_agree
        ∙ ap (λ b. (is_end xs q || is_crossing xs q) || b) borders_agree

-- a place on a border and on a segment that is not vertical is a node
pub border_node : (xs : List Segment) (s : Segment) (j : ℕ) (q : Point) → j < column_count → q.x ≡ border j *ℤ q.w → is_on s q ≡ true → s.left.x <ℤ s.right.x → Contains xs s → is_node xs q ≡ true
border_node xs s j q few e on slanted among =
    or_right (is_end xs q || is_crossing xs q) (is_on_border xs q)
    (and_from _ _ (border_found j q few e)
    (any_from_Contains (λ t. is_on t q && not (is_vertical t)) xs s among (and_from _ _ on (false_eq s.left.x s.right.x slanted))))

-- the border after a column that a segment reaches is one of the columns'
border_few : (k : ℕ) (s : Segment) → IsProper s → border (k + 1) ≤ℤ s.right.x → k + 1 < column_count
border_few k s proper h = let far : s.right.x ≤ℤ pos 1048576 = proper.right_x.1 in omega (arith, ints)

-- two lists of segments that agree on a column: the second has all of the first that touches it
pub record Agrees (k : ℕ) (xs ys : List Segment) : Type 0 where
  pub nodes : (q : Point) → IsIn k q → is_node xs q ≡ is_node ys q
  pub kept : (s : Segment) → Contains xs s → touches k s ≡ true → Contains ys s
  pub proper : All IsProper xs

-- segments agree with those of them that touch the column
pub agrees_kept : (k : ℕ) (xs : List Segment) → All IsProper xs → Agrees k xs (filter (touches k) xs)
agrees_kept k xs proper =
    record { nodes = λ q within. sym (nodes_agree k q within xs proper); kept = Contains-filter (touches k) xs; proper = proper }

-- the same the other way
pub kept_agrees : (k : ℕ) (xs : List Segment) → All IsProper xs → Agrees k (filter (touches k) xs) xs
kept_agrees k xs proper =
    record { nodes = λ q within. nodes_agree k q within xs proper; kept = λ s among _. Contains-from_filter (touches k) xs s among; proper = All-filter (touches k) IsProper xs proper }

module _ (k : ℕ) (xs : List Segment) (p r : Point) (proper : All IsProper xs) (within : IsIn k p) (piece : IsPiece xs p r) where
  -- a segment of the piece begins left of the column's right border
  begins_left : piece.support.left.x <ℤ border (k + 1)
  begins_left =
      let between : IsWithinEnds piece.support p = between_from_on piece.support p piece.from_on in
      let low : (piece.support.left.x *ℤ p.w) ≤ℤ p.x = between.from_left in
      let high : p.x <ℤ (border (k + 1) *ℤ p.w) = within.high in
      let both : (piece.support.left.x *ℤ p.w) <ℤ (border (k + 1) *ℤ p.w) = omega (arith, ints) in
      less_back piece.support.left.x (border (k + 1)) p.w within.positive both

  -- a piece past the right border would have a node there
  past_border : (border (k + 1) *ℤ r.w) <ℤ r.x → ⊥
  past_border past =
      let s : Segment = piece.support in
      let c : ℤ = border (k + 1) in
      let d : ℤ = piece.support.right.x -ℤ piece.support.left.x in
      let left : piece.support.left.x <ℤ border (k + 1) = begins_left in
      let between : IsWithinEnds piece.support r = between_from_on piece.support r piece.to_on in
      let reach : r.x ≤ℤ (piece.support.right.x *ℤ r.w) = between.to_right in
      let over : (border (k + 1) *ℤ r.w) <ℤ (piece.support.right.x *ℤ r.w) = omega (arith, ints) in
      let right : border (k + 1) <ℤ piece.support.right.x = less_back (border (k + 1)) piece.support.right.x r.w piece.to_positive over in
      let wide : pos 0 <ℤ (piece.support.right.x -ℤ piece.support.left.x) = omega (arith, ints) in
      let slanted : piece.support.left.x <ℤ piece.support.right.x = omega (arith, ints) in
      let q : Point = point_over piece.support (border (k + 1)) in
      let on : is_on piece.support q ≡ true = on_point_over piece.support (border (k + 1)) left right in
      let few : k + 1 < column_count = border_few k piece.support (All-contains IsProper xs piece.support proper piece.among) (omega (arith, ints)) in
      let node : is_node xs q ≡ true = border_node xs piece.support (k + 1) q few refl on slanted piece.among in
      let after : point_cmp p q ≡ Less = in_order_by_x p q (rw (last_turned c d p.w) (less_times p.x (c *ℤ p.w) d wide within.high)) in
      let before : point_cmp q r ≡ Less = in_order_by_x q r (rw (last_turned c d r.w) (less_times (c *ℤ r.w) r.x d wide past)) in
      piece.none_between q wide on after before node

  -- the right end of a piece that begins in the column is not right of it
  pub ends_within : r.x ≤ℤ (border (k + 1) *ℤ r.w)
  ends_within =
      elim (ranked (border (k + 1) *ℤ r.w) r.x) [
        | less past ↦ absurd (past_border past)
        | most h ↦ h
      ]

module _ (k : ℕ) (xs ys : List Segment) (p r : Point) (agrees : Agrees k xs ys) (within : IsIn k p) (piece : IsPiece xs p r) where
  -- the piece's segment is in both lists
  among_both : Contains ys piece.support
  among_both = agrees.kept piece.support piece.among (on_touches k p within piece.support piece.from_on)

  -- on the column's right border both have a node
  at_border : (q : Point) → pos 0 <ℤ q.w → is_on piece.support q ≡ true → q.x ≡ border (k + 1) *ℤ q.w → is_node xs q ≡ is_node ys q
  at_border q positive on e =
      let left : piece.support.left.x <ℤ border (k + 1) = begins_left k xs p r agrees.proper within piece in
      let between : IsWithinEnds piece.support q = between_from_on piece.support q on in
      let reach : q.x ≤ℤ (piece.support.right.x *ℤ q.w) = between.to_right in
      let over : (border (k + 1) *ℤ q.w) ≤ℤ (piece.support.right.x *ℤ q.w) = omega (arith, ints) in
      let right : border (k + 1) ≤ℤ piece.support.right.x = most_back (border (k + 1)) piece.support.right.x q.w positive over in
      let slanted : piece.support.left.x <ℤ piece.support.right.x = omega (arith, ints) in
      let few : k + 1 < column_count = border_few k piece.support (All-contains IsProper xs piece.support agrees.proper piece.among) right in
      border_node xs piece.support (k + 1) q few e on slanted piece.among ∙ sym (border_node ys piece.support (k + 1) q few e on slanted among_both)

  -- from the piece's left end to the column's right border both have the same nodes on the piece's segment
  same_nodes : (q : Point) → pos 0 <ℤ q.w → is_on piece.support q ≡ true → (border k *ℤ q.w) ≤ℤ q.x → q.x ≤ℤ (border (k + 1) *ℤ q.w) → is_node xs q ≡ is_node ys q
  same_nodes q positive on low high =
      elim (ranked q.x (border (k + 1) *ℤ q.w)) [
        | less h ↦ agrees.nodes q (record { positive = positive; low = low; high = h })
        | most h ↦ at_border q positive on (omega (arith, ints))
      ]

  -- the piece is one of the other list
  pub piece_agrees : IsPiece ys p r
  piece_agrees =
      let end : r.x ≤ℤ (border (k + 1) *ℤ r.w) = ends_within k xs p r agrees.proper within piece in
      let to : is_node xs r ≡ is_node ys r = same_nodes r piece.to_positive piece.to_on (least_through p r (border k) within.positive piece.to_positive (x_in_order p r piece.in_order) within.low) end in
      record {
        support = piece.support;
        among = among_both;
        from_positive = piece.from_positive;
        to_positive = piece.to_positive;
        from_on = piece.from_on;
        to_on = piece.to_on;
        from_node = sym (agrees.nodes p within) ∙ piece.from_node;
        to_node = sym to ∙ piece.to_node;
        in_order = piece.in_order;
        none_between = λ q positive on after before node.
            piece.none_between q positive on after before
            (same_nodes q positive on (least_through p q (border k) within.positive positive (x_in_order p q after) within.low)
            (most_through q r (border (k + 1)) positive piece.to_positive (x_in_order q r before) end)
            ∙ node);
      }
