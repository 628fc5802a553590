use Rattle.std.proofs.Common.{◌≡◌, ℕ, ℤ, ◌*ℤ◌, List, [], ◌∷◌, ◌++◌, map, refl, ap, sym, subst, ◌∙◌, to_z, of_z}
use Rattle.std.specs.Int.{w64}
use Rattle.std.proofs.lemmas.List.Elements.{Contains-push}
use Rattle.overlay_terms.specs.Plane.{InRange, Segment}
use Rattle.overlay_terms.specs.Column.{border}
use Rattle.exact_point.specs.Place.{place}
use Rattle.exact_point.specs.PointName.{IsCutBy, IsCutOf}
use Rattle.exact_point.specs.declared.point.HPoint.{HPoint}
use Rattle.exact_point.specs.declared.point_name.PointName.{PointName}
use Rattle.exact_point.specs.declared.point_name.PointName.TheVariants.{Border}
use Rattle.exact_point.proofs.BorderLemmas.{one_cut}
use Rattle.exact_point.proofs.Readings.{whole_is}
use Rattle.arrange.proofs.FoundLemmas.{place_positive}
use Rattle.crossing_sweep.specs.declared.ranked_place.RankedPlace.{RankedPlace}
use Rattle.crossing_sweep.specs.Ahead.{HasAdded, IsOffered}
use Rattle.crossing_sweep.specs.RankedPlace.{ranked_entry}
use Rattle.crossing_sweep.proofs.PlacesInOrder.{pushed_added}
use Rattle.crossing_sweep.proofs.KnownEnds.{cut_within, border_known}
use Rattle.crossing_sweep.proofs.KnownLemmas.{offered_added, offered_nowhere}
use Rattle.crossing_sweep.proofs.known_places.offer_cut.Goals as goal

-- the x of a border that cuts a segment is a coordinate
known : (k : ℕ) (s : Segment) (x : ℤ) → IsCutBy s k → x ≡ border k → InRange x
known k s x cut e = subst (λ (z : ℤ). InRange z) (sym e) (border_known k cut.known_column)

pub on_border-at-requires-clause-cut : goal.on_border-at-requires-clause-cut
on_border-at-requires-clause-cut c = c.in-Some.ensures.cut

pub on_border-at-requires-clause-over : goal.on_border-at-requires-clause-over
on_border-at-requires-clause-over c = whole_is (known c.args.number c.args.seg.now c.in-Some.x c.in-Some.ensures.cut c.in-Some.ensures.value) c.in-Some.ensures.value

pub rank_over-requires-clause-in_range : goal.rank_over-requires-clause-in_range
rank_over-requires-clause-in_range c =
    let cut : IsCutBy c.args.seg.now c.args.number = c.in-Some.ensures.cut in
    subst (λ (z : ℤ). InRange z) (sym (whole_is (known c.args.number c.args.seg.now c.in-Some.x cut c.in-Some.ensures.value) c.in-Some.ensures.value)) (border_known c.args.number cut.known_column)

pub rank_over-requires-clause-upright : goal.rank_over-requires-clause-upright
rank_over-requires-clause-upright c =
    let is : IsCutOf c.args.seg.now c.args.number (place c.on_border-at.result) = c.on_border-at.ensures.stands in
    subst (λ (z : HPoint). to_z w64 (of_z w64 c.in-Some.x) *ℤ (place z).w ≡ (place z).x) (sym c.point.ensures) (ap (λ x. x *ℤ (place c.on_border-at.result).w) (whole_is (known c.args.number c.args.seg.now c.in-Some.x c.in-Some.ensures.cut c.in-Some.ensures.value) c.in-Some.ensures.value) ∙ sym is.on_border)

pub returns : goal.returns
returns c = λ names h.
    let k : ℕ = c.args.number in
    let name : PointName = Border c.args.seg.now k in
    let at = c.on_border-at.result in
    let is : IsCutOf c.args.seg.now k (place at) = c.on_border-at.ensures.stands in
    let new : IsOffered c.args.strip (names ++ name ∷ []) (at, name) = record {
      named = c.in-Some.ensures.cut;
      told = c.on_border-at.ensures.value;
      stands = is;
      in_strip = cut_within c.args.strip k (place at) c.requires.from c.requires.to (place_positive at) is.on_border;
      offered = Contains-push names name;
    } in
    let added : HasAdded (map ranked_entry c.args.places.now.items) at name (map ranked_entry c.push.new.self.items) =
    subst (λ (l : List RankedPlace). HasAdded (map ranked_entry c.args.places.now.items) at name (map ranked_entry l)) (sym c.in_ok-push.ensures.items) (pushed_added c.args.places.now.items _) in
    offered_added c.args.strip names name (map ranked_entry c.args.places.now.items) h at (map ranked_entry c.push.new.self.items) new (λ p hp stands. one_cut c.args.seg.now k (place at) p is stands) added

pub returns-in_default : goal.returns-in_default
returns-in_default c = λ names h.
    offered_nowhere c.args.strip names (Border c.args.seg.now c.args.number) (map ranked_entry c.args.places.now.items) h (λ p hp stands within. c.in_default.ensures.none refl stands.cut)
