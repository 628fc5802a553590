-- The plan of a commit: its records, the catalog and the body.
use Rattle.std.proofs.Common.{◌≡◌, ◌+◌, [], ◌∷◌, ◌++◌, ℕ, List, length, sym, ◌∙◌, ap, subst, arith}
use Rattle.std.specs.List.{flat_map}
use Rattle.overlay_terms.specs.Column.{column_count}
use Rattle.extent_map.specs.declared.extent.Extent as runs
use Rattle.extent_map.specs.FirstFit.{IsFull}
use Rattle.extent_map.specs.Taken.{taken_of, limit_of}
use Rattle.layer_tiles.specs.Table.{tiles_in, Tabled}
use Rattle.store_terms.specs.Catalog.{catalog}
use Rattle.store_terms.specs.Places.{extents_listed}
use Rattle.store_terms.specs.Listing.{entries_of}
use Rattle.root_reading.specs.RootRuns.{IsMapOf}
use Rattle.commit_plan.specs.ImageHeld.{image_held}
use Rattle.commit_plan.specs.declared.fault.StoreFault.TheVariants.{Full}
use Rattle.commit_plan.specs.declared.next.Next.{Next}
use Rattle.commit_plan.specs.declared.room.Room.{Room}
use Rattle.commit_plan.specs.Drafted.{Drafted, HasNoRunFor, begun_in, sizes_in, with_filed}
use Rattle.commit_plan.specs.Next.{ArePlanned, IsLaidOut, Spell}
use Rattle.commit_plan.specs.Filed.{filed_of}
use Rattle.commit_plan.specs.Fitting.{HasRoom}
use Rattle.commit_plan.specs.Kept.{extents_in}
use Rattle.commit_plan.specs.Live.{live_content}
use Rattle.commit_plan.specs.RecordPlaces.{AreKnown, AreLayersFiled}
use Rattle.commit_plan.specs.Sizes.{catalog_size, new_records, sizes_of, sizes_of_layers}
use Rattle.commit_plan.specs.Staying.{LiveContent, AreHeldApart}
use Rattle.commit_plan.proofs.Counted.{records_count}
use Rattle.commit_plan.proofs.Drafts.{no_run_more, passed_error}
use Rattle.commit_plan.proofs.Imaged.{spell_of, if_ok}
use Rattle.commit_plan.proofs.Roomed.{of_draft, catalog_sized}
use Rattle.commit_plan.proofs.next.drafted.Goals as goal

abbrev room : goal.After-completed → Room
room c = c.args.live.now.room

abbrev live : goal.After-completed → LiveContent
live c = live_content c.args.live.now

abbrev table : goal.After-completed → Tabled
table c = c.args.image.table.value

abbrev sizes : goal.After-completed → List ℕ
sizes c = sizes_of_layers (live c) (table c).layers (table c).rows

abbrev catalog_long : goal.After-completed → ℕ
catalog_long c = length ((catalog column_count).text (entries_of c.in_ok-listing.listing.items))

-- the draft without a record, and with all but the catalog
abbrev old : goal.After-completed → Drafted
old c = c.in_ok-draft.draft

abbrev new : goal.After-completed → Drafted
new c = c.file_layers.new.draft

-- the records of the image have their places
filed : (c : goal.After-completed) → AreLayersFiled (live c) (old c) (table c).layers (tiles_in (table c)) (entries_of c.in_ok-listing.listing.items) (new c)
filed c =
    subst (λ (t : Tabled). AreLayersFiled (live c) (old c) t.layers (tiles_in t) (entries_of c.in_ok-listing.listing.items) (new c)) c.table.ensures.value c.in_ok-listing.ensures.ok

made : (c : goal.After-completed) → new c ≡ with_filed (begun_in (room c)) (flat_map filed_of (filed c).filed)
made c = (filed c).draft ∙ ap (λ (d : Drafted). with_filed d (flat_map filed_of (filed c).filed)) c.in_ok-draft.ensures

given : (c : goal.After-completed) → taken_of (room c).map ≡ (new c).given
given c = sym (ap (λ (d : Drafted). d.given) (made c))

records : (c : goal.After-completed) → (new c).filed ≡ flat_map filed_of (filed c).filed
records c = ap (λ (d : Drafted). d.filed) (made c)

spell : (c : goal.After-completed) → Spell (live c) (filed c).filed (entries_of c.in_ok-listing.listing.items) (image_held c.args.image)
spell c =
    spell_of (live c) (image_held c.args.image) (entries_of c.in_ok-listing.listing.items) (old c) (new c)
    (record { small = c.args.image.small; stored = c.args.image.stored }) c.table.ensures.valid.book (filed c)

-- what is true of them and the catalog's size is true of all sizes, and of the room
of_sizes : (c : goal.After-completed) (P : List runs.Extent → ℕ → List ℕ → Type 0) → P (new c).given (new c).limit (sizes_in (new c) ++ catalog_long c ∷ [])
    → P (taken_of (room c).map) (room c).max_blocks (sizes_of (live c) c.args.image)
of_sizes c P is =
    let sized : sizes_in (new c) ≡ sizes_in (old c) ++ sizes c =
    subst (λ (t : Tabled). sizes_in (new c) ≡ sizes_in (old c) ++ sizes_of_layers (live c) t.layers t.rows) c.table.ensures.value c.in_ok-listing.ensures.sizes in
    subst (P (taken_of (room c).map) (room c).max_blocks)
    (catalog_sized (live c) (table c) c.in_ok-listing.listing.items (old c) (new c) (filed c) c.in_ok-listing.ensures.listable)
    (of_draft (λ l n ns. P l n (ns ++ catalog_long c ∷ [])) (room c) (old c) (new c) (flat_map filed_of (filed c).filed) (sizes c) c.in_ok-draft.ensures (filed c).draft sized is)

apart : (c : goal.After-completed) → AreHeldApart (extents_listed (live c).listing) (new c).given
apart c = subst (AreHeldApart (extents_listed (live c).listing)) (given c) (record { apart = c.args.live.now.apart; free = c.args.live.now.free })

pub returns-clause-ok : goal.returns-clause-ok
returns-clause-ok c x root there content mapped =
    let own = subst (λ (s : LiveContent). Spell s (filed c).filed (entries_of c.in_ok-listing.listing.items) (image_held c.args.image)) content (spell c) in
    let free = subst (λ (s : LiveContent). AreHeldApart (extents_listed s.listing) (new c).given) content (apart c) in
    c.completed.ensures.ok x (filed c).filed root there (subst (IsMapOf (extents_in x)) (given c) mapped) free (records c) own

pub returns-clause-laid : goal.returns-clause-laid
returns-clause-laid c =
    let held = image_held c.args.image in
    let body = c.args.body in
    if_ok c.completed.result
    (λ (next : Next). IsLaidOut (live c) (new c).given (new c).limit held (sizes_in (new c) ++ catalog_long c ∷ []) body next.root next.plan.items)
    (λ (next : Next). IsLaidOut (live c) (taken_of (room c).map) (room c).max_blocks held (sizes_of (live c) c.args.image) body next.root next.plan.items)
    (λ (next : Next) is. of_sizes c (λ l n ns. IsLaidOut (live c) l n held ns body next.root next.plan.items) is)
    (c.completed.ensures.laid (live c) (filed c).filed (records c) (spell c))

pub returns-clause-calls : goal.returns-clause-calls
returns-clause-calls c =
    let count = ap length (records c) ∙ records_count (live c) (filed c).filed (table c).layers (tiles_in (table c)) (filed c).spelled in
    if_ok c.completed.result (λ (next : Next). length next.plan.items ≡ length (new c).filed + 2)
    (λ (next : Next). length next.plan.items ≡ new_records (live c) (image_held c.args.image) + 2)
    (λ next is. omega (arith, is, count)) c.completed.ensures.calls

pub returns-clause-room : goal.returns-clause-room
returns-clause-room c =
    if_ok c.completed.result (λ _. ArePlanned (new c).given (new c).limit (sizes_in (new c) ++ catalog_long c ∷ [])) (λ _. HasRoom c.args.live.now c.args.image)
    (λ next planned. of_sizes c ArePlanned planned) c.completed.ensures.placed

pub returns-clause-blocks : goal.returns-clause-blocks
returns-clause-blocks c =
    if_ok c.completed.result (λ (next : Next). limit_of next.live.room.map ≡ (new c).limit) (λ (next : Next). limit_of next.live.room.map ≡ limit_of (room c).map)
    (λ next is. is ∙ ap (λ (d : Drafted). d.limit) (made c) ∙ sym (room c).limit) c.completed.ensures.blocks

pub returns-clause-full : goal.returns-clause-full
returns-clause-full c u = of_sizes c IsFull (c.completed.ensures.full u)

pub returns-clause-err : goal.returns-clause-err
returns-clause-err c = c.completed.ensures.err (live c) (filed c).filed (apart c) (records c) (spell c)

pub returns-in_err-listing-clause-full : goal.returns-in_err-listing-clause-full
returns-in_err-listing-clause-full c u =
    let room = c.args.live.now.room in
    let live = live_content c.args.live.now in
    let table = c.args.image.table.value in
    let full = c.in_err-listing.ensures.full (passed_error _ c.from_residual-in_err-listing.result c.in_err-listing.field-0.0 Full c.from_residual-in_err-listing.ensures.1 u) in
    no_run_more (begun_in room) (sizes_of_layers live table.layers table.rows) (catalog_size table.layers (length (tiles_in table)) ∷ [])
    (subst (λ (d : Drafted). HasNoRunFor d (sizes_of_layers live table.layers table.rows)) c.in_ok-draft.ensures
    (subst (λ (t : Tabled). HasNoRunFor c.in_ok-draft.draft (sizes_of_layers live t.layers t.rows)) c.table.ensures.value full))

pub file_layers-requires : goal.file_layers-requires
file_layers-requires c known =
    subst (λ (t : Tabled). AreKnown (live_content c.args.live.now) (tiles_in t)) (sym c.table.ensures.value) (c.requires.known known)
