use Rattle.std.proofs.Common.{◌≡◌, List, map, get_or, sym, ap, ◌∙◌, subst}
use Rattle.std.specs.Prelude.{Contains}
use Rattle.std.proofs.lemmas.List.{take_all, map_more}
use Rattle.std.proofs.lemmas.List.Elements.{Contains-get_or}
use Rattle.std.proofs.lemmas.List.Filters.{dedup_is}
use Rattle.std.proofs.lemmas.Simd.{map-map}
use Rattle.overlay_terms.specs.Plane.{Segment}
use Rattle.overlay_terms.specs.Layers as terms
use Rattle.overlay_terms.proofs.Lists.{contains_map}
use Rattle.arrange.specs.Arrangement.{ArePieces}
use Rattle.arrange.specs.PlacedPieces.{HoldsPieces, same_placed}
use Rattle.arrange.specs.Marked.{marked_of}
use Rattle.arrange.specs.declared.marked_seg.MarkedSeg.{MarkedSeg}
use Rattle.arrange.specs.declared.placed_piece.PlacedPiece.{PlacedPiece}
use Rattle.arrange.specs.declared.piece.Elementary.{Elementary}
use Rattle.arrange.proofs.SortedPieces.{pieces_once}
use Rattle.arrange.proofs.finding_pieces.pieces.Goals as goal

-- the segments of the code are those of the input
segments_are : (items : List MarkedSeg) (marked : List terms.Marked) → map marked_of items ≡ marked → map (λ (m : MarkedSeg). m.seg) items ≡ map (λ (m : terms.Marked). m.segment) marked
segments_are items marked e = sym (map-map (λ (m : terms.Marked). m.segment) marked_of items) ∙ ap (map (λ (m : terms.Marked). m.segment)) e

pub add_pieces_along-requires : goal.add_pieces_along-requires
add_pieces_along-requires c =
    let items : List MarkedSeg = c.marked-marked.result.now in
    let m : MarkedSeg = get_or items c.loop-i.i c.index-marked-i.result in
    let Q : List Segment → Type 0 = λ ts. Contains ts m.seg in
    record {
      among = subst Q (segments_are items c.args.input.now.marked c.marked-marked.ensures.value)
          (contains_map (λ (m : MarkedSeg). m.seg) items m (Contains-get_or items c.loop-i.i c.index-marked-i.result c.loop-i-test.true));
    }

pub loop-i-preserved : goal.loop-i-preserved
loop-i-preserved c =
    let Q : List Segment → Type 0 = λ ts. HoldsPieces c.args.input.now ts c.add_pieces_along.new.placed.items in
    subst Q (sym (map_more (λ (m : MarkedSeg). m.seg) c.marked-marked.result.now c.loop-i.i c.index-marked-i.result c.loop-i-test.true))
    (c.in_ok-add_pieces_along.ensures c.loop-i.invariant)

pub returns : goal.returns
returns c =
    let items : List MarkedSeg = c.marked-marked.result.now in
    let Q : List Segment → Type 0 = λ ts. HoldsPieces c.args.input.now ts c.loop-i.placed.items in
    let L : List Elementary → Type 0 = λ list. ArePieces c.args.input.now list in
    let all = subst Q (ap (map (λ (m : MarkedSeg). m.seg)) (take_all c.loop-i.i items c.loop-i-test.false) ∙ segments_are items c.args.input.now.marked c.marked-marked.ensures.value) c.loop-i.invariant in
    let told = c.in_ok-list.ensures ∙ ap (map (λ (h : PlacedPiece). h.piece)) (c.deref.ensures.value ∙ dedup_is same_placed _ _ c.dedup.ensures.filtered) in
    subst L (sym told) (pieces_once c.args.input.now c.loop-i.placed.items _ all c.sort_unstable.ensures.permutation c.sort_unstable.ensures.sorted)
