-- What is drawn of rings is what the clauses say.
use Rattle.std.proofs.Common.{◌≡◌, ℤ, pos, ◌-ℤ◌, refl, ap, sym, ◌∙◌, arith, true, List, [], ◌∷◌, ◌++◌, ◌%◌, map}
use Rattle.std.specs.Prelude.{All}
use Rattle.std.proofs.lemmas.Bool.{and_parts}
use Rattle.std.proofs.lemmas.Int.{ints}
use Rattle.std.proofs.lemmas.List.{append-nil}
use Rattle.std.proofs.lemmas.List.Elements.{All-nil, All-cons, All-head, All-tail, All-append}
use Rattle.overlay_terms.specs.Plane.{WholePoint, Segment, InRange, ring_segments, segments_of}
use Rattle.overlay_terms.specs.TileLaws.{IsProper}
use Rattle.overlay_terms.specs.InputLaws.{segment_ends_at}
use Rattle.overlay_terms.proofs.ClosedRings.{rings_are_closed}
use Rattle.map_window.specs.Window.{Box, StaysWithin, moved}
use Rattle.map_window.specs.Drawn.{are_short, placed}
use Rattle.map_window.proofs.Steps.{alike-append, nothing-append}
use Rattle.map_window.proofs.Lines.{closed_is, same_self}
use Rattle.near_steps.specs.Cores.{fits, low_of, plane_of}
use Rattle.near_steps.specs.Thinned.{thinned}
use Rattle.near_steps.specs.Drawn.{are_drawable, line_drawn, drawn, border_of, AreEven, IsBorder, IsClosed, LiesOff, AreDrawn}
use Rattle.near_steps.proofs.CoreLemmas.{span_in_range, x_span, y_span}
use Rattle.near_steps.proofs.LineLemmas.{shown, nothing, none, still_closed, IsPlaced, line_proper, proper_line}

-- ---- as rings of the plane
module _ (core : Box) (fit : fits core ≡ true) where
  abbrev lines : List (List WholePoint) → List (List WholePoint)
  lines rings = map (λ ring. map (placed (plane_of core) (low_of core)) (thinned core ring)) rings

  as_rings : (rings : List (List WholePoint)) → segments_of (lines rings) ≡ drawn core rings
  as_rings [] = refl
  as_rings (ring ∷ rings) = ap (λ xs. line_drawn core (thinned core ring) ++ xs) (as_rings rings)

  lines_closed : (rings : List (List WholePoint)) → All IsClosed rings → All IsClosed (lines rings)
  lines_closed [] closed = All-nil IsClosed
  lines_closed (ring ∷ rings) closed =
      All-cons IsClosed (map (placed (plane_of core) (low_of core)) (thinned core ring)) (lines rings) (still_closed core fit ring (All-head IsClosed ring rings closed))
      (lines_closed rings (All-tail IsClosed ring rings closed))

  -- closed rings leave each whole point an end of an even number of segments
  drawn_even : (rings : List (List WholePoint)) → All IsClosed rings → AreEven (drawn core rings)
  drawn_even rings closed v =
      ap (λ xs. segment_ends_at xs v % 2) (sym (as_rings rings)) ∙ rings_are_closed (lines rings) v (lines_closed rings closed)

pub rings_drawn : (core : Box) (rings : List (List WholePoint)) → fits core ≡ true → are_drawable core rings ≡ true → AreDrawn core rings (drawn core rings)
rings_drawn core [] fit short = record {
  shows = λ q positive here. record { inside = refl; edge = refl };
  beyond = λ side q positive closed all off. record { inside = refl; edge = refl };
  off = λ closed off. refl;
  proper = All-nil IsProper;
  even = λ closed. drawn_even core fit [] closed;
}
rings_drawn core (ring ∷ rings) fit short =
    let k = and_parts (are_short core (plane_of core) ring) (are_drawable core rings) short in
    let rest = rings_drawn core rings fit k.1 in
    let mine : List Segment = line_drawn core (thinned core ring) in
    record {
      shows = λ q positive here.
          alike-append mine (ring_segments ring) (drawn core rings) (segments_of rings) (moved (low_of core) q) q (shown core fit ring k.0 q positive here) (rest.shows q positive here);
      beyond = λ side q positive closed all off.
          nothing-append mine (drawn core rings) (moved (low_of core) q)
          (nothing core fit ring side q positive (All-head IsClosed ring rings closed) (All-head (All (StaysWithin core side)) ring rings all) off)
          (rest.beyond side q positive (All-tail IsClosed ring rings closed) (All-tail (All (StaysWithin core side)) ring rings all) off);
      off = λ closed off.
          ap (λ xs. xs ++ drawn core rings) (none core fit ring (All-head IsClosed ring rings closed) (All-head (LiesOff core) ring rings off))
          ∙ rest.off (All-tail IsClosed ring rings closed) (All-tail (LiesOff core) ring rings off);
      proper = All-append IsProper mine (drawn core rings) (proper_line core fit (thinned core ring)) rest.proper;
      even = λ closed. drawn_even core fit (ring ∷ rings) closed;
    }

-- ---- the border
module _ (core : Box) (fit : fits core ≡ true) where
  corners_placed : All IsPlaced (border_of core)
  corners_placed =
      let wide : ℤ = core.high_x -ℤ core.low_x in
      let high : ℤ = core.high_y -ℤ core.low_y in
      let none : InRange (pos 0) = (omega (arith, ints), omega (arith, ints)) in
      let x : InRange wide = span_in_range core.low_x core.high_x (x_span core fit) in
      let y : InRange high = span_in_range core.low_y core.high_y (y_span core fit) in
      let low : WholePoint = record { x = pos 0; y = pos 0 } in
      let right : WholePoint = record { x = wide; y = pos 0 } in
      let far : WholePoint = record { x = wide; y = high } in
      let over : WholePoint = record { x = pos 0; y = high } in
      All-cons IsPlaced low (right ∷ far ∷ over ∷ low ∷ []) (none, none)
      (All-cons IsPlaced right (far ∷ over ∷ low ∷ []) (x, none)
      (All-cons IsPlaced far (over ∷ low ∷ []) (x, y)
      (All-cons IsPlaced over (low ∷ []) (none, y) (All-cons IsPlaced low [] (none, none) (All-nil IsPlaced)))))

  abbrev others : List WholePoint
  others =
      let wide : ℤ = core.high_x -ℤ core.low_x in
      let high : ℤ = core.high_y -ℤ core.low_y in
      record { x = wide; y = pos 0 } ∷ record { x = wide; y = high } ∷ record { x = pos 0; y = high } ∷ record { x = pos 0; y = pos 0 } ∷ []

  corners_closed : IsClosed (border_of core)
  corners_closed =
      let origin : WholePoint = record { x = pos 0; y = pos 0 } in
      closed_is origin others ∙ same_self origin

  pub border_taken : IsBorder core
  border_taken = record {
    proper = line_proper (border_of core) corners_placed;
    even = λ v.
        ap (λ xs. segment_ends_at xs v % 2) (sym (append-nil (ring_segments (border_of core))))
        ∙ rings_are_closed (border_of core ∷ []) v (All-cons IsClosed (border_of core) [] corners_closed (All-nil IsClosed));
  }
