use Rattle.std.proofs.Common.{sym, subst, ◌∙◌, rules}
use Rattle.store_terms.specs.Listing as listings
use Rattle.store_terms.specs.Fields.{AreBytes}
use Rattle.store_terms.specs.Catalog.{catalog_of_record}
use Rattle.store_terms.specs.Image.{listing_of}
use Rattle.store_terms.specs.declared.damage.Damage.TheVariants.{CatalogForm, CatalogPlace}
use Rattle.root_reading.specs.Looking.{Gives}
use Rattle.root_reading.proofs.Fronts.{read_front}
use Rattle.root_reading.proofs.RecordLengths.{catalog_cut}
use Rattle.root_reading.proofs.records.listing_at.Goals as goal

pub returns-in_err-listing-clause-gives : goal.returns-in_err-listing-clause-gives
unfolding listing_of
returns-in_err-listing-clause-gives g c honest =
    let items = c.in_ok-bytes.bytes.items in
    let are : AreBytes items = subst AreBytes c.deref.ensures.value c.read_front.ensures.bytes in
    let same =
    read_front 45743432 CatalogPlace (g.D.Disk.seen c.args.disk.now) c.args.root.catalog items CatalogForm
    (catalog_of_record c.args.root.is_old) (λ bytes e. catalog_cut c.args.root.is_old bytes items are e)
    (c.in_ok-bytes.ensures.gives honest) in
    subst (λ read. Gives (λ v. listings.entries_of v.items) c.from_residual-in_err-listing.result read) (sym same)
    (search rules)

pub returns-clause-gives : goal.returns-clause-gives
unfolding listing_of
returns-clause-gives g c honest =
    let items = c.in_ok-bytes.bytes.items in
    let are : AreBytes items = subst AreBytes c.deref.ensures.value c.read_front.ensures.bytes in
    let same =
    read_front 45743432 CatalogPlace (g.D.Disk.seen c.args.disk.now) c.args.root.catalog items CatalogForm
    (catalog_of_record c.args.root.is_old) (λ bytes e. catalog_cut c.args.root.is_old bytes items are e)
    (c.in_ok-bytes.ensures.gives honest) in
    same ∙ (rw c.deref.ensures.value at c.in_ok-listing.ensures.reads)
