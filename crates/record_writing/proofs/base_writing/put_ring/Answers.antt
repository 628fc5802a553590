use Rattle.std.proofs.Common.{◌++◌, List, length, sym, ap, ◌∙◌, append_assoc}
use Rattle.std.proofs.lemmas.List.{append-nil}
use Rattle.std.specs.List.{flat_map}
use Rattle.overlay_terms.specs.Plane.{WholePoint}
use Rattle.byteorder.specs.Endian.{big_bytes}
use Rattle.store_terms.specs.BaseRecord.{whole_point, ring}
use Rattle.record_writing.proofs.PutLemmas.{text_more, text_all}
use Rattle.record_writing.proofs.base_writing.put_ring.Goals as goal

pub loop-point-init : goal.loop-point-init
loop-point-init c =
    c.in_ok-put_two_bytes.ensures ∙ sym (append-nil (c.args.out.now.items ++ big_bytes 2 (length c.points-points.result.now)))

pub loop-point-preserved : goal.loop-point-preserved
loop-point-preserved c =
    let points = c.points-points.result.now in
    let l = c.loop-point in
    let point = c.point-item in
    let front = c.args.out.now.items ++ big_bytes 2 (length points) in
    let new = c.put_point.new.out.items in
    let put = c.in_ok-put_point.ensures.spelled in
    text_more whole_point points l.point-index point.result front l.out.items new c.loop-point-test.true point.is l.invariant put

pub returns : goal.returns
returns c =
    let points = c.points-points.result.now in
    let old = c.args.out.now.items in
    let l = c.loop-point in
    let front = old ++ big_bytes 2 (length points) in
    text_all whole_point points l.point-index front l.out.items c.loop-point-test.false l.invariant
    ∙ append_assoc old (big_bytes 2 (length points)) (flat_map whole_point.text points)
    ∙ ap (λ (l : List WholePoint). old ++ ring.text l) c.points-points.ensures
