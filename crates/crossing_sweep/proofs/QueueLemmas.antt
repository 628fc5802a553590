-- The next node is among the places found ahead: an end or a border place, or where two neighbours of the status cross.
use Rattle.std.proofs.Common.{◌≡◌, ℕ, ℤ, pos, zero, suc, ◌+◌, ◌<◌, ◌*ℤ◌, ◌<ℤ◌, ◌≤ℤ◌, inl, inr, ◌⊎◌, true, false, List, get_or, length, refl, ap, sym, subst, ◌∙◌, arith}
use Rattle.std.specs.Prelude.{IsTrue, All, Any, Contains, ◌&&◌, ◌||◌, not}
use Rattle.std.specs.List.{list_any}
use Rattle.std.proofs.lemmas.Bool.{and_parts, or_cases, or_left, or_right, both_ways, not-true}
use Rattle.std.proofs.lemmas.List.{get_or_default}
use Rattle.std.proofs.lemmas.List.Elements.{All-contains}
use Rattle.std.proofs.lemmas.List.Folds.{Any-from_list_any}
use Rattle.std.specs.declared.cmp.Ordering.TheVariants.{Less}
use Rattle.overlay_terms.specs.Plane.{Point, Segment, whole, whole_cmp, point_cmp, same_place, height_over, is_on}
use Rattle.overlay_terms.specs.Column.{border}
use Rattle.overlay_terms.specs.Tiles.{is_parallel, is_end, is_crossing, is_on_border}
use Rattle.overlay_terms.specs.TileLaws.{IsProper}
use Rattle.overlay_terms.proofs.Lists.{any_contains}
use Rattle.overlay_terms.proofs.InputNumbers.{x_in_order, most_through}
use Rattle.overlay_terms.proofs.Whole.{most_same}
use Rattle.exact_point.specs.Crossing.{turn_of}
use Rattle.exact_point.proofs.Nodes.{end_among, left_node}
use Rattle.exact_point.proofs.OnLine.{after_left, before_right, on_line, left_on_line, right_on_line, parallel_line, one_direction, parallel_from_turn, parallel_through, no_turn_back}
use Rattle.exact_point.proofs.PlaceOrder.{Way, before, at, after, way_of, one_positive, less_through, alike_left, level_from}
use Rattle.tile_laws.proofs.Ranks.{Told, yes, no, told}
use Rattle.crossing_sweep.specs.StripInput.{Span}
use Rattle.crossing_sweep.specs.Leaning.{IsSteep, IsSmall}
use Rattle.crossing_sweep.specs.Status.{IsStretchOf, NoNodeBetween, IsStatus}
use Rattle.crossing_sweep.specs.NextNode.{IsNextNode}
use Rattle.crossing_sweep.specs.Queue.{IsAlong, GoesOn, IsStatusAt, IsUpTo, IsQueued, IsQueue, NextIsQueued, IsFirstOf, FirstIsNext}
use Rattle.crossing_sweep.proofs.StretchLemmas.{ends_in_order}
use Rattle.crossing_sweep.proofs.StatusLemmas.{on_member, lower_crosses_next}
use Rattle.crossing_sweep.proofs.NextNode.{each_has_next}
use Rattle.std.specs.Ordering.{int_eq}

-- two numbers, by their order
pub data Order (i j : ℕ) : Type 0 where
  lower : i < j → Order i j
  same : i ≡ j → Order i j
  higher : j < i → Order i j

up_one : (i j : ℕ) → Order i j → Order (suc i) (suc j)
up_one i j (lower h) = lower (omega (arith, h))
up_one i j (same e) = same (ap suc e)
up_one i j (higher h) = higher (omega (arith, h))

pub order_of : (i j : ℕ) → Order i j
order_of zero zero = same refl
order_of zero (suc j) = lower (omega arith)
order_of (suc i) zero = higher (omega arith)
order_of (suc i) (suc j) = up_one i j (order_of i j)

-- a stretch along a segment has its direction and its line
module _ (t u : Segment) (ahead_t : whole_cmp t.left t.right ≡ Less) (ahead_u : whole_cmp u.left u.right ≡ Less) (along : IsAlong t u) where
  pub along_turn : turn_of t u ≡ pos 0
  along_turn = one_direction t u (whole u.left) (whole u.right) along.left along.right (left_on_line u) (right_on_line u) (ends_in_order u ahead_u)

  pub along_line : (p : Point) → height_over t p ≡ pos 0 → height_over u p ≡ pos 0
  along_line p level = parallel_line t u (whole u.left) p ahead_t along_turn one_positive along.left (left_on_line u) level

module _ (n : ℤ) (segments : List Segment) (q r : Point) (status : List Segment) (steep : IsSteep n) (proper : All IsProper segments) (is : IsStatusAt n segments q status) (next : IsNextNode segments q r) where
  -- a member lasts to the next node
  pub up_to_next : IsStatus n segments q r status
  up_to_next = record {
    from_small = is.small;
    to_small = next.small;
    in_order = next.after;
    clear = next.clear;
    stretches = is.stretches;
    active = λ i d l. record { from = (is.go_on i d l).begun; to = λ h. next.clear (whole (get_or status i d).right) one_positive (is.end_at_nodes i d l) (is.go_on i d l).lasting h };
    ordered = is.ordered;
  }

  -- a segment that holds the next node, which is no end, goes on
  goes_on : (t : Segment) → Contains segments t → IsTrue (is_on t r) → is_end segments r ≡ false → GoesOn t q
  goes_on t among on no_end = record { begun = begun; lasting = lasting (way_of r (whole t.right) next.small.positive one_positive) }
    where
      at_end : (same_place r (whole t.left) || same_place r (whole t.right)) ≡ true → ⊥
      at_end h = both_ways (is_end segments r) no_end (end_among segments t among r h)

      begun : point_cmp q (whole t.left) ≡ Less → ⊥
      begun h = by (way_of r (whole t.left) next.small.positive one_positive) where
        by : Way r (whole t.left) → ⊥
        by (before e) = after_left t r on e
        by (at e) = at_end (or_left (same_place r (whole t.left)) (same_place r (whole t.right)) e)
        by (after e) = next.clear (whole t.left) one_positive (left_node segments t among) h e

      lasting : Way r (whole t.right) → point_cmp q (whole t.right) ≡ Less
      lasting (before e) = less_through q r (whole t.right) is.small.positive next.small.positive one_positive next.after e
      lasting (at e) = absurd (at_end (or_right (same_place r (whole t.left)) (same_place r (whole t.right)) e))
      lasting (after e) = absurd (before_right t r next.small.positive on e)

  -- so a member along it holds the node
  record Holds (t : Segment) : Type 0 where
    pub index : ℕ
    pub member : Segment
    pub inside : index < length status
    pub is_there : get_or status index member ≡ member
    pub along : IsAlong t member
    pub stretch : IsStretchOf segments member
    pub on : IsTrue (is_on (get_or status index member) r)

  holds : (t : Segment) → Contains segments t → IsTrue (is_on t r) → is_end segments r ≡ false → Holds t
  holds t among on no_end = by (is.covered t among (goes_on t among on no_end)) where
    by : Any (IsAlong t) status → Holds t
    by (i, u, l, e, along) =
        let P : Segment → Type 0 = λ z. IsStretchOf segments z in
        let stretch : IsStretchOf segments u = subst P e (is.stretches i u l) in
        let level : height_over u r ≡ pos 0 = along_line t u (All-contains IsProper segments t proper among).first stretch.proper.first along r (on_line t r on) in
        record {
          index = i;
          member = u;
          inside = l;
          is_there = e;
          along = along;
          stretch = stretch;
          on = on_member n segments q r status steep up_to_next i u l (ap (λ z. height_over z r) e ∙ level);
        }

  module _ (strip : Span) (keys : List Point) (queue : IsQueue segments strip q status keys) (up_to : IsUpTo strip r) where
    -- two members that hold it have neighbours that cross there
    from_pair : (i j : ℕ) (d : Segment) → i < j → j < length status → IsTrue (is_on (get_or status i d) r) → IsTrue (is_on (get_or status j d) r) → IsQueued keys r
    from_pair i j d l m on_i on_j = queue.seams i d r (omega (arith, l, m)) next.small.positive (lower_crosses_next n segments q r status steep up_to_next i j d l m on_i on_j) next.after up_to

    from_two : (s t : Segment) → Contains segments s → Contains segments t → IsTrue (is_on s r) → IsTrue (is_on t r) → is_parallel s t ≡ false → is_end segments r ≡ false → IsQueued keys r
    from_two s t among_s among_t on_s on_t np no_end = by_order a.index b.index refl refl (order_of a.index b.index)
      where
        a : Holds s
        a = holds s among_s on_s no_end

        b : Holds t
        b = holds t among_t on_t no_end

        b_there : IsTrue (is_on (get_or status b.index a.member) r)
        b_there = ap (λ z. is_on z r) (get_or_default status b.index a.member b.member b.inside) ∙ b.on

        parallel : a.index ≡ b.index → is_parallel s t ≡ true
        parallel e =
            let one : a.member ≡ b.member = sym a.is_there ∙ ap (λ i. get_or status i a.member) e ∙ get_or_default status b.index a.member b.member b.inside ∙ b.is_there in
            let P : Segment → Type 0 = λ z. is_parallel z s ≡ true in
            let with_s : is_parallel b.member s ≡ true = subst P one (back s a.member (along_turn s a.member (All-contains IsProper segments s proper among_s).first a.stretch.proper.first a.along)) in
            let with_t : is_parallel b.member t ≡ true = back t b.member (along_turn t b.member (All-contains IsProper segments t proper among_t).first b.stretch.proper.first b.along) in
            parallel_through b.member s t b.stretch.proper.first with_s with_t
          where
            back : (s u : Segment) → turn_of s u ≡ pos 0 → is_parallel u s ≡ true
            back s u e = parallel_from_turn u s (no_turn_back s u e)

        by_order : (i j : ℕ) → i ≡ a.index → j ≡ b.index → Order i j → IsQueued keys r
        by_order i j ei ej (lower h) = from_pair a.index b.index a.member (omega (arith, h, ei, ej)) b.inside a.on b_there
        by_order i j ei ej (same h) = absurd (both_ways (is_parallel s t) np (parallel (sym ei ∙ h ∙ ej)))
        by_order i j ei ej (higher h) = from_pair b.index a.index a.member (omega (arith, h, ei, ej)) a.inside b_there a.on

    from_crossing : is_crossing segments r ≡ true → is_end segments r ≡ false → IsQueued keys r
    from_crossing e no_end =
        let first = Any-from_list_any (λ t. is_on t r && list_any (λ u. is_on u r && not (is_parallel t u)) segments) segments e in
        let tests = and_parts (is_on first.1 r) (list_any (λ u. is_on u r && not (is_parallel first.1 u)) segments) first.4 in
        let second = Any-from_list_any (λ u. is_on u r && not (is_parallel first.1 u)) segments tests.1 in
        let more = and_parts (is_on second.1 r) (not (is_parallel first.1 second.1)) second.4 in
        from_two first.1 second.1 (any_contains (λ t. IsTrue (is_on t r && list_any (λ u. is_on u r && not (is_parallel t u)) segments)) segments first)
        (any_contains (λ u. IsTrue (is_on u r && not (is_parallel first.1 u))) segments second) tests.0 more.0 (not-true _ more.1) no_end

    -- so it is among the places found ahead
    pub queued : IsQueued keys r
    queued = by (or_cases (is_end segments r || is_crossing segments r) (is_on_border segments r) next.node) where
      fixed : (is_end segments r || is_on_border segments r) ≡ true → IsQueued keys r
      fixed h = queue.fixed r next.small.positive h next.after up_to

      crossing : is_crossing segments r ≡ true → Told (is_end segments r) → IsQueued keys r
      crossing c (yes e) = fixed (or_left (is_end segments r) (is_on_border segments r) e)
      crossing c (no e) = from_crossing c e

      by_two : (is_end segments r ≡ true) ⊎ (is_crossing segments r ≡ true) → IsQueued keys r
      by_two (inl e) = fixed (or_left (is_end segments r) (is_on_border segments r) e)
      by_two (inr c) = crossing c (told (is_end segments r))

      by : ((is_end segments r || is_crossing segments r) ≡ true) ⊎ (is_on_border segments r ≡ true) → IsQueued keys r
      by (inl e) = by_two (or_cases (is_end segments r) (is_crossing segments r) e)
      by (inr e) = fixed (or_right (is_end segments r) (is_on_border segments r) e)

pub next_is_queued : NextIsQueued
next_is_queued n segments strip q r status keys steep proper is queue next up_to = queued n segments q r status steep proper is next strip keys queue up_to

-- where each next node is among the places, the first of them is the next one
pub first_from : (segments : List Segment) (strip : Span) (q r : Point) (keys : List Point) → All IsProper segments → IsSmall q → ((z : Point) → IsNextNode segments q z → IsUpTo strip z → IsQueued keys z)
    → IsFirstOf segments strip q r keys → IsNextNode segments q r
first_from segments strip q r keys proper small is_known first =
    let found = each_has_next segments q r proper small.positive first.small.positive first.node first.after in
    by found.0 found.1 found.2
  where
    by : (z : Point) → IsNextNode segments q z → (point_cmp r z ≡ Less → ⊥) → IsNextNode segments q r
    by z next not_after = record { small = first.small; node = first.node; after = first.after; clear = clear }
      where
        -- the next node is not after r, so it is not right of the strip
        z_up_to : Way z r → IsUpTo strip z
        z_up_to (before e) = most_through z r (border (strip.last + 1)) next.small.positive first.small.positive (x_in_order z r e) first.up_to
        z_up_to (at e) = most_through z r (border (strip.last + 1)) next.small.positive first.small.positive (level z r e) first.up_to
          where
            level : (z r : Point) → IsTrue (same_place z r) → (z.x *ℤ r.w) ≤ℤ (r.x *ℤ z.w)
            level z r e =
                most_same (z.x *ℤ r.w) (r.x *ℤ z.w)
                (level_from (z.x *ℤ r.w) (r.x *ℤ z.w) (and_parts (int_eq (z.x *ℤ r.w) (r.x *ℤ z.w)) (int_eq (z.y *ℤ r.w) (r.y *ℤ z.w)) e).0)
        z_up_to (after e) = absurd (not_after e)

        -- it is among the places, so it is not before r
        not_before : point_cmp z r ≡ Less → ⊥
        not_before less = by_key (is_known z next (z_up_to (before less))) where
          by_key : IsQueued keys z → ⊥
          by_key (i, k, l, e, there) =
              let P : Point → Type 0 = λ x. pos 0 <ℤ x.w in
              let Q : Point → Type 0 = λ x. point_cmp x r ≡ Less → ⊥ in
              let hk : pos 0 <ℤ k.w = subst P e (first.positive i k l) in
              subst Q e (first.least i k l) (sym (alike_left z k r next.small.positive hk first.small.positive there) ∙ less)

        clear : NoNodeBetween segments q r
        clear p hp node after_q before_r = next.clear p hp node after_q (to_z (way_of p z hp next.small.positive))
          where
            to_z : Way p z → point_cmp p z ≡ Less
            to_z (before e) = e
            to_z (at e) = absurd (not_before (sym (alike_left p z r hp next.small.positive first.small.positive e) ∙ before_r))
            to_z (after e) = absurd (not_before (less_through z p r next.small.positive hp first.small.positive e before_r))

pub first_is_next : FirstIsNext
first_is_next n segments strip q r status keys steep proper is queue first =
    first_from segments strip q r keys proper is.small (λ z next up_to. queued n segments q z status steep proper is next strip keys queue up_to) first
