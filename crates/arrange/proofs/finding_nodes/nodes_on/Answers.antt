use Rattle.std.proofs.Common.{◌≡◌, map, ap, sym, ◌∙◌}
use Rattle.std.proofs.lemmas.Simd.{map-map}
use Rattle.overlay_terms.specs.Layers as terms
use Rattle.arrange.specs.Arrangement.{input_segments}
use Rattle.arrange.specs.Marked.{marked_of}
use Rattle.arrange.specs.declared.marked_seg.MarkedSeg.{MarkedSeg}
use Rattle.arrange.proofs.NodeSound.{nodes_from_along}
use Rattle.arrange.proofs.finding_nodes.nodes_on.Goals as goal

pub returns : goal.returns
returns c =
    let segments : map (λ (m : MarkedSeg). m.seg) c.marked.result.now ≡ input_segments c.args.input.now =
    sym (map-map (λ (m : terms.Marked). m.segment) marked_of c.marked.result.now) ∙ ap (map (λ (m : terms.Marked). m.segment)) c.marked.ensures.value in
    rw (c.in_ok-names.ensures, c.deref.ensures, segments)
    (nodes_from_along c.args.input.now c.args.seg.now c.in_ok-places.places.items c.in_ok-places.ensures.along)
