use Rattle.std.proofs.Common.{arith}
use Rattle.store_terms.specs.Fields.{AreBytes, number}
use Rattle.record_writing.proofs.PutLemmas.{put_byte, put_bytes, put_counted}
use Rattle.record_writing.proofs.catalog_writing.put_layer_name.Goals as goal

pub returns : goal.returns
returns c =
    let name = c.args.name.now in
    let are : AreBytes name = λ i. omega (arith, c.type_inv.name i) in
    put_counted (number 1) 1 name c.args.out.now.items c.push.new.self.items c.extend_from_slice.new.self.items
    (put_byte _ c.args.out.now.items c.push.new.self.items c.requires c.in_ok-push.ensures.items)
    (put_bytes name c.push.new.self.items c.extend_from_slice.new.self.items are c.in_ok-extend_from_slice.ensures.items)
