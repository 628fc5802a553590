use Rattle.std.proofs.Common.{◌≡◌, ℕ, List, ◌++◌, map, take, length, subst, sym, ap, ◌∙◌, arith}
use Rattle.std.specs.Prelude.{flat_map}
use Rattle.std.specs.List.{dedup}
use Rattle.std.specs.List.Sorted.{IsPermutation}
use Rattle.std.proofs.lemmas.List.{take_all}
use Rattle.std.proofs.lemmas.Simd.{map-map}
use Rattle.smallvec.proofs.SmallVecLemmas.{items-with_items}
use Rattle.overlay_terms.specs.Plane.{Segment}
use Rattle.overlay_terms.specs.Layers as terms
use Rattle.exact_point.specs.declared.point_name.PointName.{PointName}
use Rattle.arrange.specs.Marked.{marked_of}
use Rattle.arrange.specs.declared.marked_seg.MarkedSeg.{MarkedSeg}
use Rattle.arrange.specs.declared.named_place.NamedPlace.{NamedPlace}
use Rattle.arrange.specs.NamedPlaces.{AreFound, own_names, names_with, same_named}
use Rattle.arrange.proofs.FoundLemmas.{names_more, at_column}
use Rattle.arrange.proofs.SortedPlaces.{along_from_found}
use Rattle.arrange.proofs.finding_nodes.places_along.Goals as goal

pub loop-m-init : goal.loop-m-init
loop-m-init c = rw c.column.ensures.value at (c.in_ok-offer_own.ensures.found c.new-found.ensures.items)

pub loop-m-preserved : goal.loop-m-preserved
loop-m-preserved c =
    let k : ℕ = c.args.input.now.column in
    let s : Segment = c.args.seg.now in
    let Q : List PointName → Type 0 = λ names. AreFound k s names c.offer_with.new.found.items in
    subst Q (names_more (own_names s k) s c.marked-m-items.result.now c.loop-m.m-index c.m-item.result (omega arith) c.m-item.is)
    (at_column c.column-in-loop-m.result k s (names_with s c.m-item.result.seg) c.loop-m.found.items c.offer_with.new.found.items c.column-in-loop-m.ensures.value
    c.in_ok-offer_with.ensures (own_names s k ++ flat_map (names_with s) (map (λ (m : MarkedSeg). m.seg) (take c.loop-m.m-index c.marked-m-items.result.now))) c.loop-m.invariant)

pub returns-clause-along : goal.returns-clause-along
returns-clause-along c =
    let k : ℕ = c.args.input.now.column in
    let s : Segment = c.args.seg.now in
    let items : List MarkedSeg = c.marked-m-items.result.now in
    let Q : List Segment → Type 0 = λ segs. AreFound k s (own_names s k ++ flat_map (names_with s) segs) c.loop-m.found.items in
    let whole_list : map (λ (m : MarkedSeg). m.seg) (take c.loop-m.m-index items) ≡ map (λ (m : terms.Marked). m.segment) c.args.input.now.marked =
    ap (map (λ (m : MarkedSeg). m.seg)) (take_all c.loop-m.m-index items c.loop-m-test.false)
    ∙ sym (map-map (λ (m : terms.Marked). m.segment) marked_of items)
    ∙ ap (map (λ (m : terms.Marked). m.segment)) c.marked-m-items.ensures.value in
    let sorted : List NamedPlace = c.sort_unstable.new.self in
    let P : List NamedPlace → Type 0 = λ xs. IsPermutation xs sorted in
    along_from_found c.args.input.now s c.in_ok-offer_own.ensures.ahead c.loop-m.found.items sorted c.dedup.new.self.items (subst Q whole_list c.loop-m.invariant)
    (subst P c.deref_mut.ensures.value c.sort_unstable.ensures.permutation) c.sort_unstable.ensures.sorted
    (c.dedup.ensures.items ∙ ap (dedup same_named) (items-with_items c.loop-m.found sorted (c.sort_unstable.ensures.len ∙ ap length c.deref_mut.ensures.value)))
