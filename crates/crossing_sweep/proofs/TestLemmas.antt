-- Two neighbours that have been tested.
use Rattle.std.proofs.Common.{◌≡◌, pos, ◌<ℤ◌, ◌≤ℤ◌, inl, inr, ◌⊎◌, true, false, List, subst, sym, ◌∙◌}
use Rattle.std.specs.Prelude.{IsTrue, Contains}
use Rattle.std.proofs.lemmas.Bool.{both_ways}
use Rattle.overlay_terms.specs.Plane.{Point, Segment, whole, same_place, height_over}
use Rattle.overlay_terms.specs.Tiles.{is_parallel}
use Rattle.overlay_terms.proofs.Lists.{any_from, any_contains, contains_map}
use Rattle.exact_point.specs.Crossing.{IsCrossingOf, IsOnlyCrossingOf, CrossNowhere, turn_of}
use Rattle.exact_point.specs.Place.{place}
use Rattle.exact_point.specs.PlaceOf.{crossing_place}
use Rattle.exact_point.specs.declared.point.HPoint.{HPoint}
use Rattle.exact_point.specs.declared.point_name.PointName.{PointName}
use Rattle.exact_point.specs.declared.point_name.PointName.TheVariants.{Cross}
use Rattle.exact_point.proofs.OnLine.{on_line, right_on_line, before_right, one_direction, parallel_from_turn}
use Rattle.exact_point.proofs.PlaceOrder.{Way, before, at, after, way_of, one_positive, same_through, same_turned}
use Rattle.arrange.proofs.FoundLemmas.{place_positive}
use Rattle.crossing_sweep.specs.StripInput.{is_in_closed_strip, Span}
use Rattle.crossing_sweep.specs.Ahead.{points_of, HasAdded}
use Rattle.crossing_sweep.specs.Testing.{PassesOver, IsFound, AreTested}
use Rattle.crossing_sweep.proofs.KnownLemmas.{within_alike, point_small}
use Rattle.crossing_sweep.proofs.TurnFirst.{ahead_there, none_ahead}

module _ (strip : Span) (r : Point) (a b : Segment) (old : List (HPoint × PointName)) where
  -- two that cross nowhere
  pub nowhere : CrossNowhere a b → AreTested strip r a b old old
  nowhere none = record { kept = λ e c. c; found = λ over p is. absurd (none p is.positive is.crossing); only = λ over e c. inl c }

  -- two that end at one point cross there alone
  pub one_end : a.right ≡ b.right → AreTested strip r a b old old
  one_end same = record { kept = λ e c. c; found = λ over p is. absurd (is.no_end (there p is.positive is.crossing)); only = λ over e c. inl c }
    where
      level : height_over b (whole a.right) ≡ pos 0
      level = subst (λ v. height_over b (whole v) ≡ pos 0) (sym same) (right_on_line b)

      there : (p : Point) → pos 0 <ℤ p.w → IsCrossingOf a b p → IsTrue (same_place p (whole a.right))
      there p hp crossing = by (way_of p (whole a.right) hp one_positive)
        where
          by : Way p (whole a.right) → IsTrue (same_place p (whole a.right))
          by (before e) =
              absurd (both_ways (is_parallel a b) crossing.not_parallel
              (parallel_from_turn a b (one_direction a b p (whole a.right) (on_line a p crossing.on_first) (right_on_line a) (on_line b p crossing.on_second) level e)))
          by (at e) = e
          by (after e) = absurd (before_right a p hp crossing.on_first e)

  -- two of which the upper one does not turn down
  pub parts : pos 0 ≤ℤ turn_of a b → AreTested strip r a b old old
  parts not_down = record { kept = λ e c. c; found = λ over p is. absurd (none_ahead r a b over not_down p is.positive is.crossing is.after); only = λ over e c. inl c }

  module _ (z : HPoint) (meets : IsCrossingOf a b (place z)) (alone : IsOnlyCrossingOf a b (place z)) where
    -- two that cross beyond the strip
    pub elsewhere : is_in_closed_strip strip (place z) ≡ false → AreTested strip r a b old old
    elsewhere out = record {
      kept = λ e c. c;
      found = λ over p is.
          absurd (both_ways (is_in_closed_strip strip (place z)) out (within_alike strip (place z) p (place_positive z) is.positive (alone p is.positive is.crossing) ∙ is.in_strip));
      only = λ over e c. inl c;
    }

    -- two that cross ahead
    pub ahead : turn_of a b <ℤ pos 0 → is_in_closed_strip strip (place z) ≡ true → place z ≡ crossing_place a b → (new : List (HPoint × PointName)) → HasAdded old z (Cross a b) new → AreTested strip r a b old new
    ahead down holds value new added = record {
      kept = added.kept;
      found = λ over p is.
          let there = added.there in
          any_from (λ q. IsTrue (same_place p q)) (points_of new) (place there.1.0)
          (contains_map (λ (e : HPoint × PointName). place e.0) new there.1 (any_contains (λ e. IsTrue (same_place (place z) (place e.0))) new there))
          (same_through p (place z) (place there.1.0) is.positive (place_positive z) (place_positive there.1.0) (same_turned (place z) p (alone p is.positive is.crossing)) there.4);
      only = λ over e c. which over e (added.only e c);
    }
      where
        here : PassesOver r a b → IsFound strip r a b (z, Cross a b)
        here over = record { crossing = meets; after = ahead_there r a b over down (place z) (point_small z) meets; in_strip = holds; named = (place z, place_positive z, meets); told = value }

        which : PassesOver r a b → (e : HPoint × PointName) → Contains old e ⊎ ((z, Cross a b) ≡ e) → Contains old e ⊎ IsFound strip r a b e
        which over e (inl h) = inl h
        which over e (inr f) = inr (subst (λ d. IsFound strip r a b d) f (here over))
