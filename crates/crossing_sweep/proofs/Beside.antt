-- Along a piece of the leaned plane, upright or not, each segment has an even number of the four signs of a strip.
use Rattle.std.proofs.Common.{◌≡◌, ℤ, pos, ◌+ℤ◌, ◌-ℤ◌, ◌*ℤ◌, ◌<ℤ◌, ◌≤ℤ◌, neg_ℤ, inl, inr, false, true, List, ap, sym, ◌∙◌, arith}
use Rattle.std.specs.Prelude.{IsTrue, Contains, ◌||◌}
use Rattle.std.proofs.lemmas.Int.{ints, by_lt_z}
use Rattle.std.proofs.lemmas.Bool.{or_left, or_right}
use Rattle.std.proofs.Math.IntN.{*ℤ_comm}
use Rattle.std.specs.Cmp.{int_cmp_is}
use Rattle.std.specs.Ordering.{ordering_then, int_cmp}
use Rattle.std.specs.declared.cmp.Ordering.TheVariants.{Less, Equal}
use Rattle.overlay_terms.specs.Plane.{WholePoint, Point, Segment, whole, point_cmp, same_place, height_over, is_on}
use Rattle.overlay_terms.specs.Tiles.{is_node, IsPiece}
use Rattle.overlay_terms.proofs.Whole.{turn_back, most_same, negated_more, less_by}
use Rattle.exact_point.specs.Crossing.{turn_of}
use Rattle.exact_point.proofs.Lexical.{Forward, forward, NotBack}
use Rattle.exact_point.proofs.Signs.{zero_factor, positive_factor}
use Rattle.exact_point.proofs.OnSegment.{reached}
use Rattle.exact_point.proofs.PlaceOrder.{same_self, one_positive, not_after_less}
use Rattle.exact_point.proofs.OnLine.{between_on}
use Rattle.exact_point.proofs.Lines.{width, rise, gap, offset, gap_form, heights_give_gap}
use Rattle.exact_point.proofs.ByX.{Left, AtMost, left_after, left_before, at_most_through, left_most}
use Rattle.tile_laws.proofs.SideMeeting.{Stretch, Apart}
use Rattle.exact_point.proofs.Nodes.{crossing_is_node, node_at_end, end_among}
use Rattle.tile_laws.proofs.SideStrip.{strip_parity}
use Rattle.tile_laws.proofs.SideSlanted.{slanted_even}
use Rattle.crossing_sweep.specs.Leaning.{lean, lean_segment, IsNear, across, up_to}
use Rattle.crossing_sweep.proofs.Lean.{lean_height, lean_turn, lean_left, gap_none}
use Rattle.crossing_sweep.proofs.Meeting.{IsMeeting, Crosses, crosses, meeting, before_from_lean}
use Rattle.crossing_sweep.proofs.Keeping.{IsFit, Reaches}

-- before, from the two differences
pub less_from : (p q : Point) → Forward (across p q) (up_to p q) → point_cmp p q ≡ Less
less_from p q (inl h) = ap (λ o. ordering_then o (int_cmp (p.y *ℤ q.w) (q.y *ℤ p.w))) (sym (int_cmp_is (p.x *ℤ q.w) (q.x *ℤ p.w) Less (less_by (p.x *ℤ q.w) (q.x *ℤ p.w) h)))
less_from p q (inr (e, h)) =
    ap (λ o. ordering_then o (int_cmp (p.y *ℤ q.w) (q.y *ℤ p.w))) (sym (int_cmp_is (p.x *ℤ q.w) (q.x *ℤ p.w) Equal (level (p.x *ℤ q.w) (q.x *ℤ p.w) e)))
    ∙ sym (int_cmp_is (p.y *ℤ q.w) (q.y *ℤ p.w) Less (less_by (p.y *ℤ q.w) (q.y *ℤ p.w) h))
  where
    level : (a b : ℤ) → b -ℤ a ≡ pos 0 → a ≡ b
    level a b h = omega (arith, ints, h)

plain_of : (n x y : ℤ) → pos 0 <ℤ n → x ≡ n *ℤ y → pos 0 <ℤ x → pos 0 <ℤ y
plain_of n x y hn e h = positive_factor y n hn (omega (arith, ints, e, h, *ℤ_comm y n))

none_by : (x y : ℤ) → x ≡ neg_ℤ y → y ≤ℤ pos 0 → pos 0 ≤ℤ y → x ≡ pos 0
none_by x y e h k = omega (arith, ints, e, h, k)

-- what is asked of a segment beside a piece: it leads forward, and its ends and crossings with the support are near the piece's ends
pub record IsBeside (n : ℤ) (s t : Segment) (p r : Point) : Type 0 where
  pub fit : IsFit n t
  pub left_near : IsNear n p (whole t.left) × IsNear n (whole t.left) r
  pub right_near : IsNear n p (whole t.right) × IsNear n (whole t.right) r
  pub meeting_near : pos 0 <ℤ turn_of s t → IsMeeting s t → IsNear n p (meeting s t) × IsNear n (meeting s t) r
  pub back_near : pos 0 <ℤ turn_of t s → IsMeeting t s → IsNear n p (meeting t s) × IsNear n (meeting t s) r

module _ (n : ℤ) (hn : pos 0 <ℤ n) (xs : List Segment) (p r : Point) (piece : IsPiece xs p r) (fit : IsFit n piece.support) (reach : Reaches n piece.support p r) (ends_near : IsNear n p r) where
  -- the ends of the leaned piece in order
  pub in_order : Left (lean n p) (lean n r)
  in_order = lean_left n p r hn ends_near (forward (p.x *ℤ r.w) (r.x *ℤ p.w) (p.y *ℤ r.w) (r.y *ℤ p.w) piece.in_order)

  level_of : (z : Point) → IsTrue (is_on piece.support z) → height_over (lean_segment n piece.support) (lean n z) ≡ pos 0
  level_of z on = lean_height n piece.support z ∙ ap (λ h. n *ℤ h) (reached piece.support z on).level ∙ none n
    where
      none : (n : ℤ) → n *ℤ pos 0 ≡ pos 0
      none n = omega (arith, ints)

  -- the leaned piece is a stretch
  pub stretch : Stretch (lean_segment n piece.support) (lean n p) (lean n r)
  stretch = record {
    wide = fit.wide;
    from_positive = piece.from_positive;
    to_positive = piece.to_positive;
    in_order = in_order;
    from_left = reach.from;
    to_right = reach.to;
    from_level = level_of p piece.from_on;
    to_level = level_of r piece.to_on;
  }

  -- a node on its segment is not strictly between
  no_node : (z : Point) → pos 0 <ℤ z.w → IsTrue (is_on piece.support z) → IsTrue (is_node xs z) → IsNear n p z → IsNear n z r → Left (lean n p) (lean n z) → Left (lean n z) (lean n r) → ⊥
  no_node z hz on node near_p near_r after before =
      piece.none_between z hz on (less_from p z (before_from_lean n p z hn near_p after)) (less_from z r (before_from_lean n z r hn near_r before)) node

  module _ (t : Segment) (among : Contains xs t) (beside : IsBeside n piece.support t p r) where
    abbrev s' : Segment
    s' = lean_segment n piece.support

    abbrev t' : Segment
    t' = lean_segment n t

    -- a common place of the leaned lines makes a node where one turns left from the other
    meets_left : (z : Point) → pos 0 <ℤ z.w → Left (lean n p) z → Left z (lean n r) → AtMost (whole t'.left) z → AtMost z (whole t'.right) → (turn_of s' t' *ℤ z.x) +ℤ (offset s' t' *ℤ z.w) ≡ pos 0 → pos 0 <ℤ turn_of s' t' → ⊥
    meets_left z hz after before low high level left =
        let up : pos 0 <ℤ turn_of piece.support t = plain_of n (turn_of s' t') (turn_of piece.support t) hn (lean_turn n piece.support t) left in
        let met : Crosses n piece.support t z =
        crosses n piece.support t z hn hz fit.wide beside.fit.wide fit.ahead beside.fit.ahead up
        (at_most_through (whole s'.left) (lean n p) z one_positive piece.from_positive hz reach.from (left_most (lean n p) z after))
        (at_most_through z (lean n r) (whole s'.right) hz piece.to_positive one_positive (left_most z (lean n r) before) reach.to)
        low high level in
        let near = beside.meeting_near up met.crossing in
        no_node (meeting piece.support t) up met.crossing.at.on_first
        (crossing_is_node xs piece.support t (meeting piece.support t) piece.among among met.crossing.at.on_first met.crossing.at.on_second met.crossing.at.not_parallel)
        near.0 near.1
        (left_before (lean n p) z (lean n (meeting piece.support t)) piece.from_positive hz up after (most_same _ _ (sym met.over)))
        (left_after (lean n (meeting piece.support t)) z (lean n r) up hz piece.to_positive (most_same _ _ met.over) before)

    meets_right : (z : Point) → pos 0 <ℤ z.w → Left (lean n p) z → Left z (lean n r) → AtMost (whole t'.left) z → AtMost z (whole t'.right) → (turn_of t' s' *ℤ z.x) +ℤ (offset t' s' *ℤ z.w) ≡ pos 0 → pos 0 <ℤ turn_of t' s' → ⊥
    meets_right z hz after before low high level left =
        let up : pos 0 <ℤ turn_of t piece.support = plain_of n (turn_of t' s') (turn_of t piece.support) hn (lean_turn n t piece.support) left in
        let met : Crosses n t piece.support z =
        crosses n t piece.support z hn hz beside.fit.wide fit.wide beside.fit.ahead fit.ahead up low high
        (at_most_through (whole s'.left) (lean n p) z one_positive piece.from_positive hz reach.from (left_most (lean n p) z after))
        (at_most_through z (lean n r) (whole s'.right) hz piece.to_positive one_positive (left_most z (lean n r) before) reach.to)
        level in
        let near = beside.back_near up met.crossing in
        no_node (meeting t piece.support) up met.crossing.at.on_second
        (crossing_is_node xs t piece.support (meeting t piece.support) among piece.among met.crossing.at.on_first met.crossing.at.on_second met.crossing.at.not_parallel)
        near.0 near.1
        (left_before (lean n p) z (lean n (meeting t piece.support)) piece.from_positive hz up after (most_same _ _ (sym met.over)))
        (left_after (lean n (meeting t piece.support)) z (lean n r) up hz piece.to_positive (most_same _ _ met.over) before)

    no_crossing : (z : Point) → pos 0 <ℤ z.w → Left (lean n p) z → Left z (lean n r) → height_over s' z ≡ pos 0 → IsTrue (is_on t' z) → turn_of t' s' ≡ pos 0
    no_crossing z hz after before level on =
        let on_t : height_over t' z ≡ pos 0 = (reached t' z on).level in
        let low : AtMost (whole t'.left) z = at_left t' z on in
        let high : AtMost z (whole t'.right) = at_right t' z on in
        by_lt_z (pos 0) (turn_of s' t')
        (λ h. absurd (meets_left z hz after before low high (sym (gap_form s' t' z) ∙ gap_none (height_over s' z) (height_over t' z) (width s') (width t') (gap s' t' z) (heights_give_gap s' t' z) level on_t) h))
        (λ h. by_lt_z (turn_of s' t') (pos 0)
        (λ l. absurd (meets_right z hz after before low high (sym (gap_form t' s' z) ∙ gap_none (height_over t' z) (height_over s' z) (width t') (width s') (gap t' s' z) (heights_give_gap t' s' z) on_t level) (negated_more (turn_of t' s') (turn_of s' t') (turn_back (width s') (rise s') (width t') (rise t')) l)))
        (λ l. none_by (turn_of t' s') (turn_of s' t') (turn_back (width s') (rise s') (width t') (rise t')) h l))
      where
        not_left : (l x w : ℤ) → NotBack (x -ℤ (l *ℤ w)) (x -ℤ x) → (l *ℤ w) ≤ℤ (x *ℤ pos 1)
        not_left l x w (inl h) = omega (arith, ints, h)
        not_left l x w (inr (e, h)) = omega (arith, ints, e)

        forget : (x y z : ℤ) → NotBack x y → pos 0 ≤ℤ x
        forget x y z (inl h) = omega (arith, ints, h)
        forget x y z (inr (e, h)) = omega (arith, ints, e)

        at_left : (t : Segment) (z : Point) → IsTrue (is_on t z) → AtMost (whole t.left) z
        at_left t z on = begin (t.left.x *ℤ z.w) z.x (forget _ _ (pos 0) (reached t z on).from_left)
          where
            begin : (a x : ℤ) → pos 0 ≤ℤ (x -ℤ a) → a ≤ℤ (x *ℤ pos 1)
            begin a x h = omega (arith, ints, h)

        at_right : (t : Segment) (z : Point) → IsTrue (is_on t z) → AtMost z (whole t.right)
        at_right t z on = close (t.right.x *ℤ z.w) z.x (forget _ _ (pos 0) (reached t z on).to_right)
          where
            close : (a x : ℤ) → pos 0 ≤ℤ (a -ℤ x) → (x *ℤ pos 1) ≤ℤ a
            close a x h = omega (arith, ints, h)

    -- an end of a segment is not strictly inside
    no_end : (v : WholePoint) → (same_place (whole v) (whole t.left) || same_place (whole v) (whole t.right)) ≡ true → IsNear n p (whole v) × IsNear n (whole v) r
        → Left (lean n p) (lean n (whole v)) → Left (lean n (whole v)) (lean n r) → height_over s' (lean n (whole v)) ≡ pos 0 → ⊥
    no_end v is near after before level =
        let first : point_cmp p (whole v) ≡ Less = less_from p (whole v) (before_from_lean n p (whole v) hn near.0 after) in
        let second : point_cmp (whole v) r ≡ Less = less_from (whole v) r (before_from_lean n (whole v) r hn near.1 before) in
        let flat : height_over piece.support (whole v) ≡ pos 0 = zero_factor (height_over piece.support (whole v)) n hn (*ℤ_comm (height_over piece.support (whole v)) n ∙ sym (lean_height n piece.support (whole v)) ∙ level) in
        piece.none_between (whole v) one_positive
        (between_on piece.support p (whole v) r piece.from_positive one_positive piece.to_positive piece.from_on piece.to_on flat
        (not_after_less p (whole v) piece.from_positive one_positive first) (not_after_less (whole v) r one_positive piece.to_positive second))
        first second (node_at_end xs (whole v) (end_among xs t among (whole v) is))

    pub apart : Apart s' t' (lean n p) (lean n r)
    apart = record {
      no_crossing = no_crossing;
      no_left = λ after before level. no_end t.left (or_left (same_place (whole t.left) (whole t.left)) (same_place (whole t.left) (whole t.right)) (same_self (whole t.left))) beside.left_near after before level;
      no_right = λ after before level. no_end t.right (or_right (same_place (whole t.right) (whole t.left)) (same_place (whole t.right) (whole t.right)) (same_self (whole t.right))) beside.right_near after before level;
    }

    -- so the four signs are even, whether the piece is upright or not
    pub signs : (u v : Point) → pos 0 <ℤ u.w → pos 0 <ℤ v.w → AtMost (lean n p) u → Left u v → Left v (lean n r) → strip_parity s' t' u v ≡ false
    signs u v hu hv begin later end = slanted_even s' t' (lean n p) (lean n r) u v stretch apart beside.fit.wide hu hv begin later end
