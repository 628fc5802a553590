-- Room for the records of an image, or none.
use Rattle.std.proofs.Common.{◌≡◌, ℕ, List, [], ◌∷◌, ◌++◌, length, sym, ◌∙◌, ap, subst}
use Rattle.std.specs.List.{All}
use Rattle.overlay_terms.specs.Column.{column_count}
use Rattle.extent_map.specs.declared.extent.Extent as runs
use Rattle.extent_map.specs.Taken.{taken_of}
use Rattle.commit_plan.specs.declared.room.Room.{Room}
use Rattle.layer_tiles.specs.Table.{tiles_in, Tabled}
use Rattle.store_terms.specs.Catalog.{catalog}
use Rattle.store_terms.specs.Listing.{entries_of, IsListable}
use Rattle.store_terms.specs.declared.catalog.Listed as code
use Rattle.commit_plan.specs.Staying.{LiveContent}
use Rattle.commit_plan.specs.Drafted.{Drafted, begun_in, sizes_in, with_filed}
use Rattle.commit_plan.specs.Filed.{Filed}
use Rattle.commit_plan.specs.Sizes.{sizes_of_layers, record_sizes}
use Rattle.commit_plan.specs.RecordPlaces.{AreLayersFiled}
use Rattle.commit_plan.proofs.CatalogSize.{catalog_long, have_columns}

-- what is true of a draft of records of some sizes, that began in some room, is true of the room and the sizes
pub of_draft : (P : List runs.Extent → ℕ → List ℕ → Type 0) (room : Room) (old new : Drafted) (fs : List Filed) (ns : List ℕ) → old ≡ begun_in room → new ≡ with_filed old fs
    → sizes_in new ≡ sizes_in old ++ ns → P new.given new.limit (sizes_in new) → P (taken_of room.map) room.max_blocks ns
of_draft P room old new fs ns begun more sizes is =
    let sized : sizes_in new ≡ ns = sizes ∙ ap (λ (d : Drafted). sizes_in d ++ ns) begun in
    subst (P (taken_of room.map) room.max_blocks) sized
    (subst (λ (d : Drafted). P d.given d.limit (sizes_in new)) begun (subst (λ (d : Drafted). P d.given d.limit (sizes_in new)) more is))

-- the catalog that lists the records of a table has its size
pub catalog_sized : (live : LiveContent) (table : Tabled) (listing : List code.Listed) (old new : Drafted)
    → AreLayersFiled live old table.layers (tiles_in table) (entries_of listing) new → All IsListable listing
    → sizes_of_layers live table.layers table.rows ++ length ((catalog column_count).text (entries_of listing)) ∷ [] ≡ record_sizes live table
catalog_sized live table listing old new filed listable =
    let columns = have_columns listing filed.filed listable filed.listed in
    let long = catalog_long live filed.filed table.layers (tiles_in table) filed.spelled columns in
    ap (λ (n : ℕ). sizes_of_layers live table.layers table.rows ++ n ∷ [])
    (ap (λ l. length ((catalog column_count).text l)) (sym filed.listed) ∙ long)
