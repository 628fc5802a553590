-- Each segment of an input over an x of the column has a piece there that begins in the column.
use Rattle.std.specs.Prelude.{◌≡◌, ℕ, ℤ, pos, ◌+◌, ◌<◌, ◌-ℤ◌, ◌*ℤ◌, ◌≤ℤ◌, ◌<ℤ◌, int_le, int_lt, IsTrue, List, Contains}
use Rattle.std.proofs.Common.{refl, arith}
use Rattle.std.proofs.lemmas.Int.{ints}
use Rattle.std.proofs.lemmas.Bool.{and_parts, and_from}
use Rattle.std.proofs.lemmas.List.Elements.{All-contains, All-map}
use Rattle.overlay_terms.specs.Plane.{Point, Segment, whole, is_on}
use Rattle.overlay_terms.specs.Column.{border, column_count, is_in_column}
use Rattle.overlay_terms.specs.Tiles.{IsPiece}
use Rattle.overlay_terms.specs.TileLaws.{IsProper}
use Rattle.overlay_terms.proofs.InputNumbers.{less, most, ranked, times_one, last_turned, less_times, most_times, less_back, le_true, lt_true, true_le, true_lt, in_order_by_x, IsWithinEnds, between_from_on, point_over, on_point_over}
use Rattle.overlay_terms.proofs.InputNodes.{border_node}
use Rattle.exact_point.proofs.ByX.{less_after_most}
use Rattle.exact_point.proofs.PlaceOrder.{one_positive}
use Rattle.exact_point.proofs.Nodes.{left_node, right_node}
use Rattle.tile_laws.proofs.JustRight.{is_stretch_over}
use Rattle.tile_laws.proofs.Statements.{segments_in, EachHasAPiece}
use Rattle.tile_laws.proofs.NodesAlong.{left_on, right_on}
use Rattle.tile_laws.proofs.NodesOver.{IsNodeOn, IsLastUpTo, IsFirstPast, last_up_to, first_past}

-- not right of what is left of a line is left of it
left_of_line : (p q : Point) (c : ℤ) → pos 0 <ℤ p.w → pos 0 <ℤ q.w → (p.x *ℤ q.w) ≤ℤ (q.x *ℤ p.w) → q.x <ℤ (c *ℤ q.w) → p.x <ℤ (c *ℤ p.w)
left_of_line p q c hp hq l m =
    less_back p.x (c *ℤ p.w) q.w hq (omega (arith, ints, less_times q.x (c *ℤ q.w) p.w hp m, last_turned c q.w p.w))

module _ (segments : List Segment) (s : Segment) (q p r : Point) (hq : pos 0 <ℤ q.w) (among : Contains segments s) (a : IsLastUpTo segments s q p) (b : IsFirstPast segments s q r) where
  -- the last node not right of q and the first one right of it are the ends of a piece
  pub piece_between : IsPiece segments p r
  piece_between = record {
    support = s;
    among = among;
    from_positive = a.here.positive;
    to_positive = b.here.positive;
    from_on = a.here.on_segment;
    to_on = b.here.on_segment;
    from_node = a.here.node;
    to_node = b.here.node;
    in_order = in_order_by_x p r (less_after_most p.x p.w q.x q.w r.x r.w a.here.positive hq b.here.positive a.up_to b.past);
    none_between = λ z hz on up down node.
        let h : IsNodeOn segments s z = record { positive = hz; on_segment = on; node = node } in
        elim (ranked (q.x *ℤ z.w) (z.x *ℤ q.w)) [
          | less l ↦ b.first z h l down
          | most l ↦ a.last z h l up
        ];
  }

  -- the piece is on the segment
  pub on_the_segment : piece_between.support ≡ s
  unfolding piece_between
  on_the_segment = refl

  -- it passes over the x of q
  pub stretch_between : IsTrue (is_stretch_over (p, r) q)
  stretch_between =
      and_from (int_le (p.x *ℤ q.w) (q.x *ℤ p.w)) (int_lt (q.x *ℤ r.w) (r.x *ℤ q.w)) (true_le (p.x *ℤ q.w) (q.x *ℤ p.w) a.up_to) (true_lt (q.x *ℤ r.w) (r.x *ℤ q.w) b.past)

module _ (segments : List Segment) (s : Segment) (k : ℕ) (q p : Point) (few : k < column_count) (hq : pos 0 <ℤ q.w) (among : Contains segments s) (a : IsLastUpTo segments s q p)
    (low : (border k *ℤ q.w) ≤ℤ q.x) (high : q.x <ℤ (border (k + 1) *ℤ q.w)) (right : q.x <ℤ (s.right.x *ℤ q.w)) where
  -- the border of the column cuts the segment right of p: that would be a later node
  not_before_border : s.left.x <ℤ border k → p.x <ℤ (border k *ℤ p.w) → ⊥
  not_before_border l m =
      let c : ℤ = border k in
      let d : ℤ = s.right.x -ℤ s.left.x in
      let over : (border k *ℤ q.w) <ℤ (s.right.x *ℤ q.w) = omega (arith, ints) in
      let cut : border k <ℤ s.right.x = less_back (border k) s.right.x q.w hq over in
      let wide : s.left.x <ℤ s.right.x = omega (arith, ints) in
      let hd : pos 0 <ℤ (s.right.x -ℤ s.left.x) = omega (arith, ints) in
      let z : Point = point_over s (border k) in
      let on : IsTrue (is_on s z) = on_point_over s (border k) l cut in
      let h : IsNodeOn segments s z = record { positive = hd; on_segment = on; node = border_node segments s k z few refl on wide among } in
      let near : ((c *ℤ d) *ℤ q.w) ≤ℤ (q.x *ℤ d) = rw (last_turned c d q.w) (most_times (c *ℤ q.w) q.x d hd low) in
      let up : (p.x *ℤ d) <ℤ ((c *ℤ d) *ℤ p.w) = rw (last_turned c d p.w) (less_times p.x (c *ℤ p.w) d hd m) in
      a.last z h near (in_order_by_x p z up)

  -- p is not left of the column
  from_border : (border k *ℤ p.w) ≤ℤ p.x
  from_border =
      elim (ranked p.x (border k *ℤ p.w)) [
        | less m ↦ absurd (elim (ranked s.left.x (border k)) [
          | less l ↦ not_before_border l m
          | most l ↦ let between : IsWithinEnds s p = between_from_on s p a.here.on_segment in let from : (s.left.x *ℤ p.w) ≤ℤ p.x = between.from_left in let more : (border k *ℤ p.w) ≤ℤ (s.left.x *ℤ p.w) = most_times (border k) s.left.x p.w a.here.positive l in omega (arith, ints)
        ])
        | most m ↦ m
      ]

  -- p lies in the column
  pub begins_there : IsTrue (is_in_column k p)
  begins_there =
      and_from (int_le (border k *ℤ p.w) p.x) (int_lt p.x (border (k + 1) *ℤ p.w)) (true_le (border k *ℤ p.w) p.x from_border)
      (true_lt p.x (border (k + 1) *ℤ p.w) (left_of_line p q (border (k + 1)) a.here.positive hq a.up_to high))

-- each segment over an x of the column has a piece there
pub each_has_a_piece : EachHasAPiece
each_has_a_piece input s q valid hq col among over =
    let segments : List Segment = segments_in input in
    let ends = and_parts (int_le (s.left.x *ℤ q.w) q.x) (int_lt q.x (s.right.x *ℤ q.w)) over in
    let low : (s.left.x *ℤ q.w) ≤ℤ q.x = le_true (s.left.x *ℤ q.w) q.x ends.0 in
    let high : q.x <ℤ (s.right.x *ℤ q.w) = lt_true q.x (s.right.x *ℤ q.w) ends.1 in
    let both : (s.left.x *ℤ q.w) <ℤ (s.right.x *ℤ q.w) = omega (arith, ints) in
    let wide : s.left.x <ℤ s.right.x = less_back s.left.x s.right.x q.w hq both in
    let proper : IsProper s = All-contains IsProper segments s (All-map IsProper (λ m. m.segment) input.marked valid.proper) among in
    let left : IsNodeOn segments s (whole s.left) = record { positive = one_positive; on_segment = left_on s wide; node = left_node segments s among } in
    let right : IsNodeOn segments s (whole s.right) = record { positive = one_positive; on_segment = right_on s wide; node = right_node segments s among } in
    let a = last_up_to segments s q hq proper.first among (whole s.left) left (rw (times_one q.x) low) in
    let b = first_past segments s q hq proper.first among (whole s.right) right (rw (times_one q.x) high) in
    let borders = and_parts (int_le (border input.column *ℤ q.w) q.x) (int_lt q.x (border (input.column + 1) *ℤ q.w)) col in
    record {
      from = a.0;
      to = b.0;
      piece = piece_between segments s q a.0 b.0 hq among a.1 b.1;
      on_it = on_the_segment segments s q a.0 b.0 hq among a.1 b.1;
      begins = begins_there segments s input.column q a.0 valid.column hq among a.1 (le_true (border input.column *ℤ q.w) q.x borders.0) (lt_true q.x (border (input.column + 1) *ℤ q.w) borders.1) high;
      over = stretch_between segments s q a.0 b.0 hq among a.1 b.1;
    }
