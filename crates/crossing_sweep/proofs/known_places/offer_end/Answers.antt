use Rattle.std.proofs.Common.{rules, ◌≡◌, false, List, [], ◌∷◌, ◌++◌, map, sym, subst, ◌∙◌}
use Rattle.std.specs.Prelude.{IsTrue}
use Rattle.std.proofs.lemmas.Bool.{both_ways}
use Rattle.std.proofs.lemmas.List.Elements.{Contains-push}
use Rattle.overlay_terms.specs.Plane.{Point, whole, same_place}
use Rattle.exact_point.specs.Place.{place}
use Rattle.exact_point.specs.declared.point_name.PointName.TheVariants.{Vertex}
use Rattle.exact_point.proofs.PlaceOrder.{one_positive, same_self}
use Rattle.crossing_sweep.specs.StripInput.{is_in_closed_strip}
use Rattle.crossing_sweep.specs.declared.ranked_place.RankedPlace.{RankedPlace}
use Rattle.crossing_sweep.specs.Ahead.{HasAdded, IsOffered}
use Rattle.crossing_sweep.specs.RankedPlace.{ranked_entry}
use Rattle.crossing_sweep.proofs.PlacesInOrder.{pushed_added}
use Rattle.crossing_sweep.proofs.KnownLemmas.{offered_added, offered_nowhere, within_alike}
use Rattle.crossing_sweep.proofs.known_places.offer_end.Goals as goal

pub returns-then-not-is_end_within : goal.returns-then-not-is_end_within
returns-then-not-is_end_within c = λ names h.
    let v = c.args.vertex in
    let k = c.args.strip in
    let out : is_in_closed_strip k (whole v) ≡ false = search rules in
    offered_nowhere k names (Vertex v) (map ranked_entry c.args.places.now.items) h
    (λ p hp stands within. both_ways (is_in_closed_strip k (whole v)) out (within_alike k (whole v) p one_positive hp stands ∙ within))

pub returns : goal.returns
returns c = λ names h.
    let v = c.args.vertex in
    let at = c.whole-at.result in
    let is : place at ≡ whole v = c.whole-at.ensures in
    let new : IsOffered c.args.strip (names ++ Vertex v ∷ []) (at, Vertex v) = record {
      named = tt;
      told = is;
      stands = subst (λ (p : Point). IsTrue (same_place (whole v) p)) (sym is) (same_self (whole v));
      in_strip = subst (λ (p : Point). IsTrue (is_in_closed_strip c.args.strip p)) (sym is) (sym c.is_end_within.ensures ∙ c.if-not-is_end_within.false);
      offered = Contains-push names (Vertex v);
    } in
    let added : HasAdded (map ranked_entry c.args.places.now.items) at (Vertex v) (map ranked_entry c.push.new.self.items) =
    subst (λ (l : List RankedPlace). HasAdded (map ranked_entry c.args.places.now.items) at (Vertex v) (map ranked_entry l)) (sym c.in_ok-push.ensures.items) (pushed_added c.args.places.now.items _) in
    offered_added c.args.strip names (Vertex v) (map ranked_entry c.args.places.now.items) h at (map ranked_entry c.push.new.self.items) new
    (λ p hp stands. subst (λ (z : Point). IsTrue (same_place z p)) (sym is) stands) added
