-- The units of an input: stretches of its segments between nodes, one along each segment that goes on just after a place.
use Rattle.std.proofs.Common.{◌≡◌, pos, ◌<ℤ◌, ◌||◌, true, inl, inr, ◌⊎◌, List, ap, sym, subst}
use Rattle.std.specs.Prelude.{Bool, IsTrue, All, Any, Contains, not, map}
use Rattle.std.specs.Ordering.{is_lt}
use Rattle.std.proofs.lemmas.Bool.{and_parts, or_left, or_right}
use Rattle.std.proofs.lemmas.List.Elements.{All-map, All-contains, All-weaker}
use Rattle.overlay_terms.specs.Plane.{WholePoint, Point, Segment, whole, point_cmp, same_place, is_on, InRange}
use Rattle.overlay_terms.specs.Layers.{Marked}
use Rattle.overlay_terms.specs.Tiles.{is_end, is_node}
use Rattle.overlay_terms.specs.TileLaws.{IsProper}
use Rattle.overlay_terms.proofs.Lists.{any_from, contains_map, from_map}
use Rattle.exact_point.proofs.Nodes.{end_among}
use Rattle.exact_point.proofs.OnLine.{on_line}
use Rattle.exact_point.proofs.PlaceOrder.{one_positive, less_through, not_before_test, not_before_says}
use Rattle.arrange.specs.Units.{IsUnit, AreUnits}
use Rattle.arrange.specs.declared.unit.Unit.{Unit}
use Rattle.arrange.proofs.UnitLineLemmas.{IsEndOf, end_of}
use Rattle.arrange.proofs.UnitCover.{UnitAt, unit_at_cut, not_lt}
use Rattle.arrange.proofs.UnitNodes.{Holder, holder_of, left_end_node, right_end_node}
use Rattle.crossing_sweep.specs.StripInput.{StripInput, IsStripInput, segments_in}
use Rattle.crossing_sweep.specs.Status.{IsStretchOf}
use Rattle.crossing_sweep.specs.Queue.{IsAlong, GoesOn}
use Rattle.crossing_sweep.specs.Step.{AreStretches}
use Rattle.crossing_sweep.specs.UnitStretches.{UnitsAreStretches}

-- a whole point is not after a place
abbrev is_up_to : Point → WholePoint → Bool
is_up_to q v = not (is_lt (point_cmp q (whole v)))

module _ (input : StripInput) (valid : IsStripInput input) where
  -- an end of a unit is one of a proper segment
  record IsInRange (v : WholePoint) : Type 0 where
    pub x : InRange v.x
    pub y : InRange v.y

  end_in_range : (s : Segment) (v : WholePoint) → IsEndOf input.marked s v → IsInRange v
  end_in_range s v end = by (All-contains (λ m. IsProper m.segment) input.marked end.of valid.proper end.among) end.is
    where
      by : IsProper end.of.segment → (v ≡ end.of.segment.left) ⊎ (v ≡ end.of.segment.right) → IsInRange v
      by p (inl e) = subst IsInRange (sym e) (record { x = p.left_x; y = p.left_y })
      by p (inr e) = subst IsInRange (sym e) (record { x = p.right_x; y = p.right_y })

  pub proper_unit : (s : Segment) → IsUnit input.marked s → IsProper s
  proper_unit s unit =
      let l : IsInRange s.left = end_in_range s s.left (end_of input.marked s s.left unit.from_end) in
      let r : IsInRange s.right = end_in_range s s.right (end_of input.marked s s.right unit.to_end) in
      record { first = unit.forward; left_x = l.x; left_y = l.y; right_x = r.x; right_y = r.y }

  pub stretch_of : (s : Segment) → IsUnit input.marked s → IsStretchOf (segments_in input) s
  stretch_of s unit =
      let h : Holder input.marked s = holder_of input.marked valid.proper s unit in
      let tests = and_parts (is_on h.of.segment (whole s.left)) (is_on h.of.segment (whole s.right)) h.cover in
      record {
        proper = proper_unit s unit;
        holder = h.of.segment;
        held_by = All-contains (λ m. IsProper m.segment) input.marked h.of valid.proper h.among;
        among = contains_map (λ (m : Marked). m.segment) input.marked h.of h.among;
        on_left = tests.0;
        on_right = tests.1;
      }

  module _ (units : List Unit) (are : AreUnits input.marked units) where
    -- the unit of a segment that goes on just after a place
    along_segment : (t : Segment) (q : Point) → Contains (segments_in input) t → pos 0 <ℤ q.w → GoesOn t q → Any (λ u. IsAlong t u × GoesOn u q) (map (λ (u : Unit). u.seg) units)
    along_segment t q among hq goes = by (from_map (λ (m : Marked). m.segment) input.marked t among)
      where
        by : (m : Marked) × Contains input.marked m × (m.segment ≡ t) → Any (λ u. IsAlong t u × GoesOn u q) (map (λ (u : Unit). u.seg) units)
        by (m, c, e) =
            let P : Segment → Type 0 = λ z. GoesOn z q in
            let Q : Segment → Type 0 = λ z. Any (λ u. IsAlong z u × GoesOn u q) (map (λ (u : Unit). u.seg) units) in
            subst Q e (along m c (subst P (sym e) goes))
          where
            along : (m : Marked) → Contains input.marked m → GoesOn m.segment q → Any (λ u. IsAlong m.segment u × GoesOn u q) (map (λ (u : Unit). u.seg) units)
            along m c goes =
                let cut : UnitAt input.marked m.segment (is_up_to q) =
                unit_at_cut input.marked m c (All-contains (λ m. IsProper m.segment) input.marked m valid.proper c).first (is_up_to q) (not_before_test q (whole m.segment.left) goes.begun) (ap (λ o. not (is_lt o)) goes.lasting)
                (λ u v less test. not_before_test q (whole u) (λ h. not_before_says q (whole v) test (less_through q (whole u) (whole v) hq one_positive one_positive h less))) in
                let tests = and_parts (is_on m.segment (whole cut.seg.left)) (is_on m.segment (whole cut.seg.right)) cut.cover in
                any_from (λ u. IsAlong m.segment u × GoesOn u q) (map (λ (u : Unit). u.seg) units) cut.seg (are.complete cut.seg cut.unit) (
                  record { left = on_line m.segment (whole cut.seg.left) tests.0; right = on_line m.segment (whole cut.seg.right) tests.1 },
                  record { begun = not_before_says q (whole cut.seg.left) cut.passes; lasting = not_lt (point_cmp q (whole cut.seg.right)) cut.fails },
                )

    sound : All (IsUnit input.marked) (map (λ (u : Unit). u.seg) units)
    sound = All-map (IsUnit input.marked) (λ (u : Unit). u.seg) units are.sound

    are_stretches : AreStretches (segments_in input) (map (λ (u : Unit). u.seg) units)
    are_stretches = record {
      stretches = All-weaker (IsUnit input.marked) (IsStretchOf (segments_in input)) stretch_of (map (λ (u : Unit). u.seg) units) sound;
      left_nodes = All-weaker (IsUnit input.marked) (λ u. IsTrue (is_node (segments_in input) (whole u.left))) (left_end_node input.marked valid.proper) (map (λ (u : Unit). u.seg) units) sound;
      right_nodes = All-weaker (IsUnit input.marked) (λ u. IsTrue (is_node (segments_in input) (whole u.right))) (right_end_node input.marked valid.proper) (map (λ (u : Unit). u.seg) units) sound;
      along = along_segment;
    }

-- a place where a unit ends is an end of a segment
pub end_at_right : (input : StripInput) (u : Segment) (p : Point) → IsUnit input.marked u → IsTrue (same_place p (whole u.right)) → IsTrue (is_end (segments_in input) p)
end_at_right input u p unit here = by (end_of input.marked u u.right unit.to_end)
  where
    by : IsEndOf input.marked u u.right → IsTrue (is_end (segments_in input) p)
    by end = end_among (segments_in input) t (contains_map (λ (m : Marked). m.segment) input.marked end.of end.among) p (which end.is)
      where
        t : Segment
        t = end.of.segment

        which : (u.right ≡ t.left) ⊎ (u.right ≡ t.right) → (same_place p (whole t.left) || same_place p (whole t.right)) ≡ true
        which (inl e) = or_left (same_place p (whole t.left)) (same_place p (whole t.right)) (subst (λ v. IsTrue (same_place p (whole v))) e here)
        which (inr e) = or_right (same_place p (whole t.left)) (same_place p (whole t.right)) (subst (λ v. IsTrue (same_place p (whole v))) e here)

pub units_are_stretches : UnitsAreStretches
units_are_stretches input units valid are = are_stretches input valid units are
