use Rattle.std.proofs.Common.{◌≡◌, ◌++◌, List, length, sym, ap, ◌∙◌, arith}
use Rattle.std.specs.List.{flat_map}
use Rattle.std.proofs.lemmas.List.{take_all}
use Rattle.byteorder.specs.Endian.{big_bytes}
use Rattle.overlay_terms.specs.Plane.{WholePoint}
use Rattle.plane_base.specs.BaseLayer.{rings_fault}
use Rattle.store_terms.specs.BaseRecord.{ring, rings, base_of_record}
use Rattle.store_terms.proofs.BaseLemmas.{few_rings, short_rings, base_reads_back}
use Rattle.record_writing.proofs.PutLemmas.{text_more, text_all}
use Rattle.record_writing.proofs.base_writing.write_base.Goals as goal

pub overflow_cast-rings : goal.overflow_cast-rings
overflow_cast-rings c = omega (arith, few_rings c.rings-rings.result.now c.rings-rings.ensures.valid)

pub put_ring-requires : goal.put_ring-requires
put_ring-requires c =
    let short = short_rings c.rings-rings.result.now c.rings-rings.ensures.valid in
    rw c.ring-item.is (short c.loop-ring.ring-index _ c.loop-ring-test.true)

pub returns-clause-reads_back : goal.returns-clause-reads_back
returns-clause-reads_back c =
    let all = c.rings-rings.result.now in
    let held : all ≡ c.args.layer.now = c.rings-rings.ensures.value in
    let text : c.loop-ring.out.items ≡ rings.text all =
    c.loop-ring.invariant
    ∙ ap (λ (l : List (List WholePoint)). big_bytes 2 (length all) ++ flat_map ring.text l)
    (take_all c.loop-ring.ring-index all c.loop-ring-test.false) in
    ap base_of_record (text ∙ ap rings.text held)
    ∙ base_reads_back c.args.layer.now
    (ap rings_fault (sym held) ∙ c.rings-rings.ensures.valid) c.rings-rings.ensures.rings

pub loop-ring-preserved : goal.loop-ring-preserved
loop-ring-preserved c =
    let rings = c.rings-rings.result.now in
    let l = c.loop-ring in
    let item = c.ring-item in
    let front = big_bytes 2 (length rings) in
    let new = c.put_ring.new.out.items in
    text_more ring rings l.ring-index item.result front l.out.items new c.loop-ring-test.true item.is l.invariant c.in_ok-put_ring.ensures

pub returns-clause-spelled : goal.returns-clause-spelled
returns-clause-spelled c =
    let all = c.rings-rings.result.now in
    text_all ring all c.loop-ring.ring-index (big_bytes 2 (length all)) c.loop-ring.out.items c.loop-ring-test.false c.loop-ring.invariant
    ∙ ap rings.text c.rings-rings.ensures.value
