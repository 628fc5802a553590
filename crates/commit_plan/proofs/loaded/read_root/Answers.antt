use Rattle.std.proofs.Common.{◌≡◌, ◌∷◌, [], List, ℕ, Ok, sym, ◌∙◌, ap, subst}
use Rattle.extent_map.specs.Taken.{taken_of}
use Rattle.overlay_terms.specs.Layers.{Layer}
use Rattle.overlay_terms.specs.Histories.{Finished}
use Rattle.layer_tiles.specs.Table.{tiles_in, Tabled}
use Rattle.store_terms.specs.Listing as listings
use Rattle.store_terms.specs.Catalog.{Listed}
use Rattle.store_terms.specs.Places.{extents_listed}
use Rattle.store_terms.specs.Image.{Held, listing_of, layers_of, held_of}
use Rattle.root_reading.specs.Looking.{Refuses}
use Rattle.commit_plan.specs.Image.{table_held}
use Rattle.commit_plan.specs.Staying.{read_content, LiveContent}
use Rattle.commit_plan.specs.Loaded.{held_in}
use Rattle.root_reading.specs.RootRuns.{IsMapOf}
use Rattle.root_reading.specs.RootRuns.{AllNear}
use Rattle.root_reading.proofs.Looked.{gives_err, causes_still, looks_on, size_stays}
use Rattle.root_reading.proofs.NearLemmas.{near_catalog, near_layers}
use Rattle.commit_plan.proofs.HeldLemmas.{held_steps}
use Rattle.commit_plan.proofs.loaded.read_root.Goals as goal

pub returns-in_err-live-clause-gives : goal.returns-in_err-live-clause-gives
returns-in_err-live-clause-gives g c honest short =
    let k = g.D.Disk in
    let file = k.seen c.args.disk.now in
    let root = c.args.root in
    let looks1 = c.listing_at.ensures.looks honest in
    let ls = listings.entries_of c.in_ok-listing.listing.items in
    let x : List Layer × List Finished =
    (c.in_ok-table.table.layers, tiles_in c.in_ok-table.table) in
    let listing : listing_of file root ≡ Ok ls =
    c.in_ok-listing.ensures.gives honest in
    let layers : layers_of file [] ls ≡ Ok x =
    subst (λ (f : List ℕ). layers_of f [] ls ≡ Ok x) looks1.seen
    (subst (λ l. layers_of (k.seen c.listing_at.new.disk) [] (listings.entries_of l) ≡ Ok x) c.deref.ensures.value
    (c.in_ok-table.ensures.gives looks1.honest)) in
    let near : AllNear (root.catalog ∷ extents_listed ls) =
    (near_catalog file short root ls listing, near_layers file short [] ls x layers) in
    let held : Held = record { number = root.version; layers = x.0; tiles = x.1 } in
    gives_err held_in c.from_residual-in_err-live.result c.in_err-live.field-0.0
    (held_of file root) c.from_residual-in_err-live.ensures.1
    (subst (Refuses c.in_err-live.field-0.0) (sym (held_steps file root ls x listing layers))
    (c.in_err-live.ensures.room.reads near held))

pub returns-in_err-live-clause-cause : goal.returns-in_err-live-clause-cause
returns-in_err-live-clause-cause g c honest =
    let looks1 = c.listing_at.ensures.looks honest in
    causes_still c.from_residual-in_err-live.result c.in_err-live.field-0.0 _ _ c.from_residual-in_err-live.ensures.1 c.in_err-live.ensures.room.errors
    (c.in_ok-table.ensures.cause looks1.honest ∙ c.in_ok-listing.ensures.cause honest)

pub returns-clause-gives : goal.returns-clause-gives
returns-clause-gives g c honest short =
    let k = g.D.Disk in
    let file = k.seen c.args.disk.now in
    let root = c.args.root in
    let looks1 = c.listing_at.ensures.looks honest in
    let ls = listings.entries_of c.in_ok-listing.listing.items in
    let x : List Layer × List Finished =
    (c.in_ok-table.table.layers, tiles_in c.in_ok-table.table) in
    let listing : listing_of file root ≡ Ok ls =
    c.in_ok-listing.ensures.gives honest in
    let layers : layers_of file [] ls ≡ Ok x =
    subst (λ (f : List ℕ). layers_of f [] ls ≡ Ok x) looks1.seen
    (subst (λ l. layers_of (k.seen c.listing_at.new.disk) [] (listings.entries_of l) ≡ Ok x) c.deref.ensures.value
    (c.in_ok-table.ensures.gives looks1.honest)) in
    let near : AllNear (root.catalog ∷ extents_listed ls) =
    (near_catalog file short root ls listing, near_layers file short [] ls x layers) in
    let held : Held = record { number = root.version; layers = x.0; tiles = x.1 } in
    held_steps file root ls x listing layers ∙ c.in_ok-live.ensures.room.reads near held
    ∙ ap (λ (t : Tabled). Ok (table_held root.version t)) (sym c.in_ok-content.ensures.ok)

pub returns-clause-room : goal.returns-clause-room
returns-clause-room g c honest short =
    let k = g.D.Disk in
    let file = k.seen c.args.disk.now in
    let root = c.args.root in
    let looks1 = c.listing_at.ensures.looks honest in
    let ls = listings.entries_of c.in_ok-listing.listing.items in
    let x : List Layer × List Finished =
    (c.in_ok-table.table.layers, tiles_in c.in_ok-table.table) in
    let listing : listing_of file root ≡ Ok ls =
    c.in_ok-listing.ensures.gives honest in
    let layers : layers_of file [] ls ≡ Ok x =
    subst (λ (f : List ℕ). layers_of f [] ls ≡ Ok x) looks1.seen
    (subst (λ l. layers_of (k.seen c.listing_at.new.disk) [] (listings.entries_of l) ≡ Ok x) c.deref.ensures.value
    (c.in_ok-table.ensures.gives looks1.honest)) in
    let near : AllNear (root.catalog ∷ extents_listed ls) =
    (near_catalog file short root ls listing, near_layers file short [] ls x layers) in
    subst (λ (l : List Listed). IsMapOf (root.catalog ∷ extents_listed l) (taken_of c.in_ok-live.live.room.map))
    (sym (ap (λ (s : LiveContent). s.listing) c.in_ok-live.ensures.content)) (c.in_ok-live.ensures.room.taken near)

pub returns-in_err-table-clause-looks : goal.returns-in_err-table-clause-looks
returns-in_err-table-clause-looks g c honest =
    let k = g.D.Disk in
    let looks1 = c.listing_at.ensures.looks honest in
    looks_on k c.args.disk.now c.listing_at.new.disk c.content_of.new.disk looks1 (c.content_of.ensures.looks looks1.honest)

pub returns-in_err-content-clause-looks : goal.returns-in_err-content-clause-looks
returns-in_err-content-clause-looks g c honest =
    let k = g.D.Disk in
    let looks1 = c.listing_at.ensures.looks honest in
    looks_on k c.args.disk.now c.listing_at.new.disk c.content_of.new.disk looks1 (c.content_of.ensures.looks looks1.honest)

pub returns-in_err-live-clause-looks : goal.returns-in_err-live-clause-looks
returns-in_err-live-clause-looks g c honest =
    let k = g.D.Disk in
    let looks1 = c.listing_at.ensures.looks honest in
    looks_on k c.args.disk.now c.listing_at.new.disk c.content_of.new.disk looks1 (c.content_of.ensures.looks looks1.honest)

pub returns-in_err-next_room-clause-looks : goal.returns-in_err-next_room-clause-looks
returns-in_err-next_room-clause-looks g c honest =
    let k = g.D.Disk in
    let looks1 = c.listing_at.ensures.looks honest in
    looks_on k c.args.disk.now c.listing_at.new.disk c.content_of.new.disk looks1 (c.content_of.ensures.looks looks1.honest)

pub returns-clause-looks : goal.returns-clause-looks
returns-clause-looks g c honest =
    let k = g.D.Disk in
    let looks1 = c.listing_at.ensures.looks honest in
    looks_on k c.args.disk.now c.listing_at.new.disk c.content_of.new.disk looks1 (c.content_of.ensures.looks looks1.honest)

pub returns-clause-listing : goal.returns-clause-listing
returns-clause-listing g c honest =
    c.in_ok-listing.ensures.gives honest
    ∙ ap (λ (l : List Listed). Ok l) (sym (ap (λ (s : LiveContent). s.listing) c.in_ok-live.ensures.content))

pub returns-clause-content : goal.returns-clause-content
returns-clause-content g c =
    let ls = listings.entries_of c.in_ok-listing.listing.items in
    let stands = c.in_ok-live.ensures.content ∙ ap (λ (t : Tabled). read_content ls t) c.in_ok-clone.ensures.cases in
    λ i. record {
      listing = listings.entries_of c.in_ok-live.live.listing.items;
      layers = (stands i).layers;
      tiles = (stands i).tiles;
    }

pub content_of-requires : goal.content_of-requires
content_of-requires g c =
    size_stays g.D.Disk c.args.disk.now c.listing_at.new.disk c.args.size c.listing_at.ensures.honest c.listing_at.ensures.looks
    c.requires
