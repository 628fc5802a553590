-- A stretch that holds the next node is a piece from the last node on it to this one.
use Rattle.std.proofs.Common.{◌≡◌, ℤ, pos, ◌<ℤ◌, ap, sym, ◌∙◌}
use Rattle.std.specs.Prelude.{IsTrue}
use Rattle.std.specs.declared.cmp.Ordering.TheVariants.{Less}
use Rattle.overlay_terms.specs.Plane.{Point, Segment, whole, point_cmp, height_over, is_on}
use Rattle.overlay_terms.specs.Tiles.{IsPiece, is_node, Input}
use Rattle.exact_point.proofs.OnLine.{after_left, before_right, on_line, left_on_line, parallel_line, within_on, no_turn_back}
use Rattle.exact_point.proofs.PlaceOrder.{Way, before, at, after, way_of, one_positive, less_through, alike_left, alike_right, not_before_self, not_after_less}
use Rattle.tile_laws.proofs.StepUp.{under_bits_alike, up_to_bits_alike}
use Rattle.crossing_sweep.specs.StripInput.{StripInput, IsStripInput, segments_in}
use Rattle.crossing_sweep.specs.Leaning.{lean, lean_segment, IsSteep}
use Rattle.crossing_sweep.specs.Status.{IsStretchOf}
use Rattle.crossing_sweep.specs.NextNode.{IsNextNode}
use Rattle.crossing_sweep.specs.Sides.{lean_marked, IsNodal, IsPassed}
use Rattle.crossing_sweep.specs.Queue.{IsAlong, GoesOn}
use Rattle.crossing_sweep.specs.Kept.{IsLastOn}
use Rattle.crossing_sweep.specs.Closed.{IsPieceWithSides, StretchIsClosed}
use Rattle.crossing_sweep.proofs.StretchLemmas.{holder_holds, no_turn}
use Rattle.crossing_sweep.proofs.Carried.{sides_are_carried}
use Rattle.crossing_sweep.proofs.MaskLemmas.{over_of, level_of}

module _ (n : ℤ) (input : StripInput) (u : Segment) (p q r : Point) (steep : IsSteep n) (valid : IsStripInput input) (is : IsStretchOf (segments_in input) u) (goes : GoesOn u q)
    (last_on : IsLastOn input u p q) (next : IsNextNode (segments_in input) q r) (nodal_r : IsNodal r) (hq : pos 0 <ℤ q.w) (level : height_over u r ≡ pos 0) (ends : IsTrue (is_node (segments_in input) (whole u.right))) where
  hp : pos 0 <ℤ p.w
  hp = last_on.nodal.small.positive

  hr : pos 0 <ℤ r.w
  hr = nodal_r.small.positive

  -- what is after q is after p
  p_less : (z : Point) → pos 0 <ℤ z.w → point_cmp q z ≡ Less → point_cmp p z ≡ Less
  p_less z hz h = by (way_of p q hp hq) where
    by : Way p q → point_cmp p z ≡ Less
    by (before e) = less_through p q z hp hq hz e h
    by (at e) = alike_left p q z hp hq hz e ∙ h
    by (after e) = absurd (last_on.from e)

  -- the stretch holds the node
  on_r : IsTrue (is_on u r)
  on_r =
      within_on u r hr level (λ h. goes.begun (less_through q r (whole u.left) hq hr one_positive next.after h))
      (λ h. next.clear (whole u.right) one_positive ends goes.lasting h)

  -- no node of the segment lies between
  none_between : (z : Point) → pos 0 <ℤ z.w → IsTrue (is_on is.holder z) → point_cmp p z ≡ Less → point_cmp z r ≡ Less → IsTrue (is_node (segments_in input) z) → ⊥
  none_between z hz on after_p before_r node = by (way_of q z hq hz)
    where
      on_stretch : (point_cmp q z ≡ Less → ⊥) → IsTrue (is_on u z)
      on_stretch not_after =
          within_on u z hz (parallel_line is.holder u (whole u.left) z is.held_by.first (no_turn_back u is.holder (no_turn (segments_in input) u is)) one_positive (on_line is.holder (whole u.left) is.on_left) (left_on_line u) (on_line is.holder z on))
          (λ h. after_left u p last_on.on (less_through p z (whole u.left) hp hz one_positive after_p h))
          (λ h. not_after (less_through q (whole u.right) z hq one_positive hz goes.lasting h))

      not_later : (point_cmp q z ≡ Less → ⊥) → ⊥
      not_later not_after = last_on.last z hz (on_stretch not_after) node after_p not_after

      by : Way q z → ⊥
      by (before e) = next.clear z hz node e before_r
      by (at e) = not_later (not_before_self q z hq hz e)
      by (after e) = not_later (λ h. not_after_less z q hz hq e h)

  on_p : IsTrue (is_on is.holder p)
  on_p = holder_holds (segments_in input) u is p hp last_on.on

  to_r : point_cmp p r ≡ Less
  to_r = p_less r hr next.after

  piece : IsPiece (segments_in input) p r
  piece = record {
    support = is.holder;
    among = is.among;
    from_positive = hp;
    to_positive = hr;
    from_on = on_p;
    to_on = holder_holds (segments_in input) u is r hr on_r;
    from_node = last_on.node;
    to_node = next.node;
    in_order = to_r;
    none_between = none_between;
  }

  p_not_before : point_cmp p p ≡ Less → ⊥
  p_not_before h = not_after_less p p hp hp h h

  holder_goes : GoesOn is.holder p
  holder_goes = record { begun = after_left is.holder p on_p; lasting = up_to_right (way_of r (whole is.holder.right) hr one_positive) }
    where
      up_to_right : Way r (whole is.holder.right) → point_cmp p (whole is.holder.right) ≡ Less
      up_to_right (before e) = less_through p r (whole is.holder.right) hp hr one_positive to_r e
      up_to_right (at e) = sym (alike_right p r (whole is.holder.right) hp hr one_positive e) ∙ to_r
      up_to_right (after e) = absurd (before_right is.holder r hr (holder_holds (segments_in input) u is r hr on_r) e)

  stretch_goes : GoesOn u p
  stretch_goes = record { begun = after_left u p last_on.on; lasting = p_less (whole u.right) one_positive goes.lasting }

  along : IsAlong is.holder u
  along = record { left = on_line is.holder (whole u.left) is.on_left; right = on_line is.holder (whole u.right) is.on_right }

  abbrev leaned : Input
  leaned = record { column = input.strip.first; marked = lean_marked n input.marked; steps = input.steps }

  passed : IsPassed input.strip p r p
  passed = record { small = last_on.nodal.small; from = p_not_before; to = to_r; within = last_on.within }

  closed : IsPieceWithSides n input u p r
  unfolding piece
  closed = record {
    piece = piece;
    under = λ k. (sides_are_carried n input p r p piece k steep valid last_on.nodal nodal_r last_on.within passed).0
        ∙ ap (λ f. f k)
        (under_bits_alike (lean n p) hp leaned (lean_segment n is.holder) (lean_segment n u) (over_of n p steep last_on.nodal.small is.holder is.held_by holder_goes) (over_of n p steep last_on.nodal.small u is.proper stretch_goes)
        (level_of n p steep last_on.nodal.small is.holder u is.held_by is.proper along));
    over = λ k. (sides_are_carried n input p r p piece k steep valid last_on.nodal nodal_r last_on.within passed).1
        ∙ ap (λ f. f k)
        (up_to_bits_alike (lean n p) hp leaned (lean_segment n is.holder) (lean_segment n u) (over_of n p steep last_on.nodal.small is.holder is.held_by holder_goes) (over_of n p steep last_on.nodal.small u is.proper stretch_goes)
        (level_of n p steep last_on.nodal.small is.holder u is.held_by is.proper along));
  }

pub stretch_is_closed : StretchIsClosed
stretch_is_closed n input u p q r steep valid is goes last_on next nodal_r hq level ends = closed n input u p q r steep valid is goes last_on next nodal_r hq level ends
