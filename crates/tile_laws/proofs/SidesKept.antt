-- The sides of a piece are what lies under its line over any x of the column that it passes over.
use Rattle.std.specs.Prelude.{◌≡◌, ℕ, ℤ, pos, ◌+◌, ◌==◌, ◌*ℤ◌, ◌<ℤ◌, ◌≤ℤ◌, int_le, int_lt, Bool, true, false, not, ◌&&◌, ◌||◌, List, All, Contains, IsTrue}
use Rattle.std.proofs.Common.{ap, sym, ◌∙◌, arith, inl, inr, get_or}
use Rattle.std.proofs.lemmas.Int.{ints, by_lt_z}
use Rattle.std.proofs.lemmas.Bool.{and_parts, and_from}
use Rattle.std.proofs.lemmas.List.Elements.{All-map, All-weaker}
use Rattle.overlay_terms.specs.Plane.{WholePoint, Point, Segment, whole, height_over, is_below, is_on}
use Rattle.overlay_terms.specs.Column.{border, is_in_column}
use Rattle.overlay_terms.specs.Layers.{Marked}
use Rattle.overlay_terms.specs.Tiles.{Input, IsPiece, midpoint, below_bits, over_bits}
use Rattle.overlay_terms.specs.TileLaws.{IsInput, IsProper}
use Rattle.overlay_terms.proofs.InputNumbers.{le_true, lt_true, true_le, true_lt, middle_positive}
use Rattle.overlay_terms.proofs.InputNodes.{IsIn, is_in, ends_within}
use Rattle.exact_point.proofs.Lexical.{Forward}
use Rattle.exact_point.proofs.OnSegment.{leads}
use Rattle.exact_point.proofs.PlaceOrder.{one_positive}
use Rattle.exact_point.proofs.ByX.{Left, AtMost, left_after, left_before, at_most_through, from_whole, to_whole}
use Rattle.exact_point.proofs.Lines.{width, rise}
use Rattle.tile_laws.proofs.JustRight.{is_over_x, is_under, is_level, bits_where, under_bits, up_to_bits}
use Rattle.tile_laws.proofs.Statements.{segments_in, SidesAreKept}
use Rattle.tile_laws.proofs.EvenRegion.{differ}
use Rattle.tile_laws.proofs.SideMeeting.{Stretch, Apart}
use Rattle.tile_laws.proofs.SideStrip.{is_past, is_in_strip, strip_parity, past_true, past_false}
use Rattle.tile_laws.proofs.SideSlanted.{slanted_even}
use Rattle.tile_laws.proofs.SideUpright.{upright_even}
use Rattle.tile_laws.proofs.SideClear.{stretch_of, apart_of}
use Rattle.tile_laws.proofs.SideRegion.{under_alike}
use Rattle.tile_laws.proofs.SideLevel.{level_kept}
use Rattle.tile_laws.proofs.SideMiddle.{below_is_under, near_is_up_to}
use Rattle.tile_laws.proofs.SideMidpoint.{after_first, before_second, middle_level}
use Rattle.tile_laws.proofs.SideBits.{all_in_map, up_to_split, bits_agree}

-- ---- a whole point between two lines
-- a whole point right of u and not right of v lies between the borders, where u is not left of the one and v is left of r,
-- which is not right of the other
between_borders : (b c : ℤ) (p u v r : Point) (e : WholePoint) → pos 0 <ℤ p.w → pos 0 <ℤ u.w → pos 0 <ℤ v.w → pos 0 <ℤ r.w → (b *ℤ p.w) ≤ℤ p.x → AtMost p u → Left u (whole e) → AtMost (whole e) v → Left v r → r.x ≤ℤ (c *ℤ r.w) → (int_le (b *ℤ pos 1) e.x && int_lt e.x (c *ℤ pos 1)) ≡ true
between_borders b c p u v r e hp hu hv hr low begin after before end high =
    let lower : AtMost (record { x = b; y = pos 0; w = pos 1 }) u = at_most_through (record { x = b; y = pos 0; w = pos 1 }) p u one_positive hp hu (from_whole (b *ℤ p.w) p.x low) begin in
    let left : Left (record { x = b; y = pos 0; w = pos 1 }) (whole e) = left_after (record { x = b; y = pos 0; w = pos 1 }) u (whole e) one_positive hu one_positive lower after in
    let inner : Left (whole e) r = left_after (whole e) v r one_positive hv hr before end in
    let right : Left (whole e) (record { x = c; y = pos 0; w = pos 1 }) = left_before (whole e) r (record { x = c; y = pos 0; w = pos 1 }) one_positive hr one_positive inner (to_whole (c *ℤ r.w) r.x high) in
    and_from (int_le (b *ℤ pos 1) e.x) (int_lt e.x (c *ℤ pos 1)) (first b e.x left) (second e.x c right)
  where
    first : (a x : ℤ) → (a *ℤ pos 1) <ℤ (x *ℤ pos 1) → int_le (a *ℤ pos 1) x ≡ true
    first a x h = true_le (a *ℤ pos 1) x (omega (arith, ints))

    second : (x a : ℤ) → (x *ℤ pos 1) <ℤ (a *ℤ pos 1) → int_lt x (a *ℤ pos 1) ≡ true
    second x a h = true_lt x (a *ℤ pos 1) (omega (arith, ints))

-- what the proof needs of a segment of the list
abbrev IsFit : List Segment → Segment → Type 0
IsFit xs t = Contains xs t × Forward (width t) (rise t)

module _ (input : Input) (p r : Point) (piece : IsPiece (segments_in input) p r) (is_input : IsInput input) (p_in : IsTrue (is_in_column input.column p)) (ordered : Left p r) where
  -- each segment is in the list and leads forward
  all_fit : All (λ m. IsFit (segments_in input) m.segment) input.marked
  all_fit i d h = (all_in_map (λ m. m.segment) input.marked i d h, leads (get_or input.marked i d).segment (is_input.proper i d h).first)

  -- the piece is a stretch
  stretch : Stretch piece.support p r
  stretch = stretch_of (segments_in input) p r piece ordered

  -- that no segment crosses
  apart : (t : Segment) → Contains (segments_in input) t → Apart piece.support t p r
  apart t among = apart_of (segments_in input) p r piece ordered t among

  -- its left end lies in the column
  p_within : IsIn input.column p
  p_within = is_in input.column p piece.from_positive p_in

  -- the right end is not right of the column
  r_within : r.x ≤ℤ (border (input.column + 1) *ℤ r.w)
  r_within =
      ends_within input.column (segments_in input) p r (All-map IsProper (λ (m : Marked). m.segment) input.marked is_input.proper) p_within piece

  -- between two places of the piece, the one right of the other
  module _ (u v : Point) (u_positive : pos 0 <ℤ u.w) (v_positive : pos 0 <ℤ v.w) (begin : AtMost p u) (later : Left u v) (end : Left v r) where
    -- a segment has an even number of the four signs
    signs : (t : Segment) → IsFit (segments_in input) t → strip_parity piece.support t u v ≡ false
    signs t (among, inl wide) =
        slanted_even piece.support t p r u v stretch (apart t among) wide u_positive v_positive begin later end
    signs t (among, inr upright) =
        upright_even piece.support t p r u v stretch (apart t among) upright.0 upright.1 u_positive v_positive begin later end

    -- the strip lies in the column
    strip_within : (e : WholePoint) → is_in_strip piece.support u v e ≡ true → IsTrue (is_in_column input.column (whole e))
    strip_within e h =
        let past = and_parts (is_past u e) (not (is_past v e)) (and_parts (is_past u e && not (is_past v e)) (int_lt (height_over piece.support (whole e)) (pos 0)) h).0 in
        between_borders (border input.column) (border (input.column + 1)) p u v r e piece.from_positive u_positive v_positive piece.to_positive p_within.low begin (past_true u e past.0) (past_false v e (from_not (is_past v e) past.1)) end r_within
      where
        from_not : (b : Bool) → not b ≡ true → b ≡ false
        from_not b k = grind (arith, k)

    -- the bits under the line
    under_constant : (k : ℕ) → under_bits input.marked piece.support u k ≡ under_bits input.marked piece.support v k
    under_constant k =
        under_alike piece.support u v input.marked k
        (All-weaker (λ m. IsFit (segments_in input) m.segment) (λ m. strip_parity piece.support m.segment u v ≡ false) (λ m fit. signs m.segment fit) input.marked all_fit)
        (λ e h. is_input.even k e (strip_within e h))

    -- the bits on the line
    level_constant : (k : ℕ) → bits_where (λ t. is_level t piece.support u) input.marked u k ≡ bits_where (λ t. is_level t piece.support v) input.marked v k
    level_constant k =
        bits_agree (λ m. (m.layer == k) && (is_over_x m.segment u && is_level m.segment piece.support u)) (λ m. (m.layer == k) && (is_over_x m.segment v && is_level m.segment piece.support v)) input.marked
        (All-weaker (λ m. IsFit (segments_in input) m.segment) (λ m. ((m.layer == k) && (is_over_x m.segment u && is_level m.segment piece.support u)) ≡ ((m.layer == k) && (is_over_x m.segment v && is_level m.segment piece.support v)))
        (λ m fit. ap (λ b. (m.layer == k) && b) (level_kept piece.support m.segment p r u v stretch (apart m.segment fit.0) u_positive v_positive begin later end fit.1)) input.marked all_fit)

    -- and both
    up_to_constant : (k : ℕ) → up_to_bits input.marked piece.support u k ≡ up_to_bits input.marked piece.support v k
    up_to_constant k =
        up_to_split input.marked piece.support u k
        ∙ ap (λ b. differ b (bits_where (λ t. is_level t piece.support u) input.marked u k)) (under_constant k)
        ∙ ap (differ (under_bits input.marked piece.support v k)) (level_constant k)
        ∙ sym (up_to_split input.marked piece.support v k)

  -- at a place of the line strictly inside
  module _ (z : Point) (positive : pos 0 <ℤ z.w) (after : Left p z) (before : Left z r) (level : height_over piece.support z ≡ pos 0) where
    -- what is below it is under the line there
    below_there : (k : ℕ) → below_bits input.marked z k ≡ under_bits input.marked piece.support z k
    below_there k =
        bits_agree (λ m. (m.layer == k) && is_below m.segment z) (λ m. (m.layer == k) && (is_over_x m.segment z && is_under m.segment piece.support z)) input.marked
        (All-weaker (λ m. IsFit (segments_in input) m.segment) (λ m. ((m.layer == k) && is_below m.segment z) ≡ ((m.layer == k) && (is_over_x m.segment z && is_under m.segment piece.support z)))
        (λ m fit. ap (λ b. (m.layer == k) && b) (below_is_under piece.support m.segment p r z stretch (apart m.segment fit.0) positive after before level fit.1)) input.marked all_fit)

    -- the same of below or on
    over_there : (k : ℕ) → over_bits input.marked z k ≡ up_to_bits input.marked piece.support z k
    over_there k =
        bits_agree (λ m. (m.layer == k) && (is_below m.segment z || is_on m.segment z)) (λ m. (m.layer == k) && (is_over_x m.segment z && (is_under m.segment piece.support z || is_level m.segment piece.support z))) input.marked
        (All-weaker (λ m. IsFit (segments_in input) m.segment) (λ m. ((m.layer == k) && (is_below m.segment z || is_on m.segment z)) ≡ ((m.layer == k) && (is_over_x m.segment z && (is_under m.segment piece.support z || is_level m.segment piece.support z))))
        (λ m fit. ap (λ b. (m.layer == k) && b) (near_is_up_to piece.support m.segment p r z stretch (apart m.segment fit.0) positive after before level fit.1)) input.marked all_fit)

  -- from the middle to another place of the piece
  middle_on : Left p (midpoint p r)
  middle_on = after_first p r piece.from_positive ordered

  -- the middle lies left of the right end
  middle_before : Left (midpoint p r) r
  middle_before = before_second p r piece.to_positive ordered

  middle_w : pos 0 <ℤ (midpoint p r).w
  middle_w = middle_positive p r piece.from_positive piece.to_positive

  begin_itself : AtMost p p
  begin_itself = not_more (p.x *ℤ p.w)
    where
      not_more : (a : ℤ) → a ≤ℤ a
      not_more a = omega (arith, ints)

  module _ (q : Point) (q_positive : pos 0 <ℤ q.w) (begin : AtMost p q) (end : Left q r) (k : ℕ) where
    -- what holds at the middle and at q alike
    abbrev Alike : Type 0
    Alike =
        (under_bits input.marked piece.support (midpoint p r) k ≡ under_bits input.marked piece.support q k)
        × (up_to_bits input.marked piece.support (midpoint p r) k ≡ up_to_bits input.marked piece.support q k)

    -- q left of the middle
    left_of_middle : Left q (midpoint p r) → Alike
    left_of_middle h = (
      sym (under_constant q (midpoint p r) q_positive middle_w begin h middle_before k),
      sym (up_to_constant q (midpoint p r) q_positive middle_w begin h middle_before k),
    )

    -- q not left of the middle: both from the left end
    from_begin : Left p q → Alike
    from_begin h = (
      sym (under_constant p (midpoint p r) piece.from_positive middle_w begin_itself middle_on middle_before k) ∙ under_constant p q piece.from_positive q_positive begin_itself h end k,
      sym (up_to_constant p (midpoint p r) piece.from_positive middle_w begin_itself middle_on middle_before k) ∙ up_to_constant p q piece.from_positive q_positive begin_itself h end k,
    )

    -- so wherever q is
    alike : Alike
    alike =
        by_lt_z (q.x *ℤ (midpoint p r).w) ((midpoint p r).x *ℤ q.w) left_of_middle
        (λ h. from_begin (left_before p (midpoint p r) q piece.from_positive middle_w q_positive middle_on h))

    -- the sides at the middle are what lies under the line and up to it over q
    kept : (below_bits input.marked (midpoint p r) k ≡ under_bits input.marked piece.support q k)
        × (over_bits input.marked (midpoint p r) k ≡ up_to_bits input.marked piece.support q k)
    kept =
        let level : height_over piece.support (midpoint p r) ≡ pos 0 = middle_level piece.support p r stretch.from_level stretch.to_level in
        (below_there (midpoint p r) middle_w middle_on middle_before level k ∙ alike.0, over_there (midpoint p r) middle_w middle_on middle_before level k ∙ alike.1)

-- the sides of a piece are kept along it
pub sides_are_kept : SidesAreKept
sides_are_kept input p r q piece is_input q_positive p_in q_in over k =
    let parts = and_parts (int_le (p.x *ℤ q.w) (q.x *ℤ p.w)) (int_lt (q.x *ℤ r.w) (r.x *ℤ q.w)) over in
    let begin : AtMost p q = le_true (p.x *ℤ q.w) (q.x *ℤ p.w) parts.0 in
    let end : Left q r = lt_true (q.x *ℤ r.w) (r.x *ℤ q.w) parts.1 in
    kept input p r piece is_input p_in (left_after p q r piece.from_positive q_positive piece.to_positive begin end) q q_positive begin end k
