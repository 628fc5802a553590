use Rattle.store_terms.specs.Catalog.{extent}
use Rattle.record_writing.proofs.PutLemmas.{put_some}
use Rattle.record_writing.proofs.catalog_writing.put_tile.Goals as goal

pub returns-in_ok-put_extent-in-Some : goal.returns-in_ok-put_extent-in-Some
returns-in_ok-put_extent-in-Some c =
    rw c.in-Some.is
    (put_some extent c.in-Some.extent c.args.out.now.items c.push-in-Some.new.self.items c.put_extent.new.out.items c.in_ok-push-in-Some.ensures.items c.in_ok-put_extent-in-Some.ensures)
