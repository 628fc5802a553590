use Rattle.std.proofs.Common.{◌≡◌, ◌<◌, ◌≤◌, ◌∷◌, [], length, take, get_or, List, sym, ◌∙◌, ap, subst, arith}
use Rattle.std.proofs.lemmas.List.{length-map, get_or-map, take_all}
use Rattle.store_terms.specs.Listing.{entry_of, entries_of}
use Rattle.store_terms.specs.Catalog.{Listed}
use Rattle.store_terms.specs.Places.{extents_listed}
use Rattle.root_reading.specs.RootRuns.{AreRunsFor}
use Rattle.root_reading.proofs.RootRunsLemmas.{listed_on}
use Rattle.root_reading.proofs.root_runs.runs_of.Goals as goal

pub loop-layer-init : goal.loop-layer-init
loop-layer-init c = c.in_ok-add_run.ensures [] (subst (AreRunsFor []) (sym c.new-runs.ensures.items) tt)

pub loop-layer-preserved : goal.loop-layer-preserved
loop-layer-preserved c =
    let i = c.loop-layer.layer-index in
    let listing = c.args.listing.now in
    let item = c.layer-item.result in
    let inside : i < length listing = c.loop-layer-test.true in
    let lt : i < length (entries_of listing) = omega (arith, length-map listing entry_of) in
    let is : entry_of item ≡ get_or (entries_of listing) i (entry_of item) =
    ap entry_of c.layer-item.is ∙ sym (get_or-map entry_of listing i item (entry_of item) inside) in
    listed_on c.args.catalog (entries_of listing) i (entry_of item) c.add_records.new.runs.items lt is
    (c.in_ok-add_records.ensures
    (c.args.catalog ∷ extents_listed (take i (entries_of listing))) c.loop-layer.invariant)

pub returns : goal.returns
returns c =
    let past : length (entries_of c.args.listing.now) ≤ c.loop-layer.layer-index =
    omega (arith, length-map c.args.listing.now entry_of, c.loop-layer-test.false) in
    subst (λ (xs : List Listed). AreRunsFor (c.args.catalog ∷ extents_listed xs) c.loop-layer.runs.items)
    (take_all c.loop-layer.layer-index (entries_of c.args.listing.now) past) c.loop-layer.invariant
