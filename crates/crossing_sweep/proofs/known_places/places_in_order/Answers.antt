use Rattle.std.proofs.Common.{◌≡◌, ℕ, List, [], ◌++◌, map, take, subst, sym, ap, ◌∙◌}
use Rattle.std.specs.Prelude.{Some, flat_map}
use Rattle.std.specs.Borrow.{Bor}
use Rattle.std.proofs.lemmas.List.{take_all}
use Rattle.std.proofs.lemmas.List.Filters.{dedup_is}
use Rattle.std.proofs.lemmas.Simd.{map-map}
use Rattle.overlay_terms.specs.Plane.{Segment}
use Rattle.overlay_terms.specs.Layers as terms
use Rattle.exact_point.specs.declared.point.HPoint.{HPoint}
use Rattle.exact_point.specs.declared.point_name.PointName.{PointName}
use Rattle.arrange.specs.Marked.{marked_of}
use Rattle.arrange.specs.declared.marked_seg.MarkedSeg.{MarkedSeg}
use Rattle.crossing_sweep.specs.StripInput.{Span}
use Rattle.crossing_sweep.specs.declared.ranked_place.RankedPlace.{RankedPlace}
use Rattle.crossing_sweep.specs.Ahead.{known_names, HasEnds, AreOffered, AreKnownPlaces}
use Rattle.crossing_sweep.specs.RankedPlace.{ranked_entry, same_ranked}
use Rattle.crossing_sweep.proofs.KnownLemmas.{own_more, own_ends, known_places}
use Rattle.crossing_sweep.proofs.PlacesInOrder.{in_order, offered_once, same_entries, ranked_in_order}
use Rattle.crossing_sweep.proofs.known_places.places_in_order.Goals as goal

pub loop-m-preserved : goal.loop-m-preserved
loop-m-preserved c =
    let k : Span = c.args.input.now.strip in
    let items : List MarkedSeg = c.marked-m-items.result.now in
    let i : ℕ = c.loop-m.m-index in
    let names : List PointName = flat_map (λ s. known_names s k) (map (λ (m : MarkedSeg). m.seg) (take i items)) in
    let new : List RankedPlace = c.offer_own.new.places.items in
    let Step : Span → Type 0 = λ j. (names : List PointName) → HasEnds names c.loop-m.before → AreOffered j names (map ranked_entry c.loop-m.places.items) → AreOffered j (names ++ known_names c.m-item.result.seg j) (map ranked_entry new) in
    let step : Step k = subst Step c.strip.ensures.value c.in_ok-offer_own.ensures in
    let more = own_more k items i c.m-item.result c.loop-m-test.true c.m-item.is in
    record {
      offered = subst (λ (names : List PointName). AreOffered k names (map ranked_entry new)) more (step names c.loop-m.invariant.ends c.loop-m.invariant.offered);
      ends = subst (λ (names : List PointName). HasEnds names (Some c.m-item.result.seg)) more (own_ends k names c.m-item.result.seg);
    }

pub returns-clause-known : goal.returns-clause-known
returns-clause-known c =
    let k : Span = c.args.input.now.strip in
    let items : List MarkedSeg = c.marked-m-items.result.now in
    let whole_list : map (λ (m : MarkedSeg). m.seg) (take c.loop-m.m-index items) ≡ map (λ (m : terms.Marked). m.segment) c.args.input.now.marked =
    ap (map (λ (m : MarkedSeg). m.seg)) (take_all c.loop-m.m-index items c.loop-m-test.false)
    ∙ sym (map-map (λ (m : terms.Marked). m.segment) marked_of items)
    ∙ ap (map (λ (m : terms.Marked). m.segment)) c.marked-m-items.ensures.value in
    let names : List PointName = flat_map (λ s. known_names s k) (map (λ (m : terms.Marked). m.segment) c.args.input.now.marked) in
    let found : List RankedPlace = c.loop-m.places.items in
    let offered : AreOffered k names (map ranked_entry found) = subst (λ (segs : List Segment). AreOffered k (flat_map (λ s. known_names s k) segs) (map ranked_entry found)) whole_list c.loop-m.invariant.offered in
    let order : List (Bor RankedPlace) = c.in_ok-order.order.items in
    let now : Bor RankedPlace → RankedPlace = λ z. z.now in
    let standing : map ranked_entry found ≡ map (λ z. ranked_entry (now z)) order =
    ap (map ranked_entry) (sym (c.in_ok-order.ensures ∙ c.deref.ensures.value)) ∙ map-map ranked_entry now order in
    let stand : AreOffered k names (map (λ z. ranked_entry (now z)) order) = subst (λ (l : List (HPoint × PointName)). AreOffered k names l) standing offered in
    subst (λ (l : List (HPoint × PointName)). AreKnownPlaces c.args.input.now l) (sym (same_entries now c.dedup.new.self.items c.in_ok-list.list.items (c.in_ok-list.ensures ∙ ap (map now) c.deref-2.ensures.value)))
    (known_places c.args.input.now c.marked-m-items.ensures.valid (map (λ z. ranked_entry (now z)) c.dedup.new.self.items)
    (offered_once now k names order c.sort_unstable.new.self.items c.dedup.new.self.items c.sort_unstable.ensures.permutation c.sort_unstable.ensures.sorted (dedup_is (λ a b. same_ranked (now a) (now b)) c.sort_unstable.new.self.items c.dedup.new.self.items c.dedup.ensures.filtered) stand))

pub returns-clause-in_order : goal.returns-clause-in_order
returns-clause-in_order c =
    let now : Bor RankedPlace → RankedPlace = λ z. z.now in
    ranked_in_order now c.dedup.new.self.items c.in_ok-list.list.items (c.in_ok-list.ensures ∙ ap (map now) c.deref-2.ensures.value)
    (in_order now c.args.input.now.strip [] c.in_ok-order.order.items c.sort_unstable.new.self.items c.dedup.new.self.items c.sort_unstable.ensures.permutation c.sort_unstable.ensures.sorted (dedup_is (λ a b. same_ranked (now a) (now b)) c.sort_unstable.new.self.items c.dedup.new.self.items c.dedup.ensures.filtered))
