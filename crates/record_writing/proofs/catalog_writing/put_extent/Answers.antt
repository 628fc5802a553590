use Rattle.store_terms.specs.Fields.{number}
use Rattle.record_writing.proofs.PutLemmas.{put_both}
use Rattle.record_writing.proofs.catalog_writing.put_extent.Goals as goal

pub returns : goal.returns
returns c =
    let old = c.args.out.now.items in
    let mid = c.put_eight_bytes.new.out.items in
    let new = c.put_four_bytes.new.out.items in
    let block = c.in_ok-put_eight_bytes.ensures in
    let size = c.in_ok-put_four_bytes.ensures in
    let put = put_both (number 8) (number 4) c.args.extent.block c.args.extent.size old mid new block size in
    record { fits = put.fits; spelled = put.spelled }
