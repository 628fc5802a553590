-- Entries of the catalog in code as those of the definitions.
use Rattle.std.specs.Prelude.{◌≡◌, ◌<◌, ℕ, List, length, map}
use Rattle.std.proofs.Common.{inl, inr}
use Rattle.overlay_terms.specs.Column.{column_count}
use Rattle.store_terms.specs.Fields.{Field, both, repeated}
use Rattle.store_terms.specs.Choices.{either, optional}
use Rattle.store_terms.specs.Catalog as terms
use Rattle.store_terms.specs.Catalog.{extent}
use Rattle.store_terms.specs.declared.catalog.Listed.{Listed}
use Rattle.store_terms.specs.declared.catalog.Records.{Records}
use Rattle.store_terms.specs.declared.catalog.Records.TheVariants.{Base, Derived}

-- how the records of a layer are spelled, where there are n columns
abbrev pub spelled_records : ℕ → Field terms.Records
spelled_records n = either extent (both extent (repeated n (optional extent)))

-- the extents that the code keeps of a layer, as the catalog's definition has them
abbrev pub records_of : Records → terms.Records
records_of (Base extent) = inl extent
records_of (Derived extent tiles) = inr (extent, tiles.items)

-- a layer of the code's listing, as the catalog's definition has it
abbrev pub entry_of : Listed → terms.Listed
entry_of l = record { name = l.name.items; records = records_of l.records }

-- a whole listing of the code, as what a catalog lists
abbrev pub entries_of : List Listed → List terms.Listed
entries_of ls = map entry_of ls

abbrev pub HasColumns : Records → Type 0
HasColumns (Base _) = Unit {0}
HasColumns (Derived _ tiles) = length tiles.items ≡ column_count

-- a layer that a catalog can list: its name has fewer than 256 bytes, and a definition has an entry for each column
pub record IsListable (l : Listed) : Type 0 where
  pub short : length l.name.items < 256
  pub columns : HasColumns l.records
