-- The catalog: where the records of each layer lie.
use Rattle.std.specs.Prelude.{ℕ, ◌⊎◌, Bool, List, map, replicate, Option, None, if◌then◌else◌}
use Rattle.std.specs.Option.{option_map}
use Rattle.std.proofs.Common.{inl, inr}
use Rattle.overlay_terms.specs.Column.{column_count}
use Rattle.overlay_terms.specs.Layers.{Name}
use Rattle.store_terms.specs.declared.root.RecordExtent.{RecordExtent}
use Rattle.store_terms.specs.Fields.{Field, number, both, made, repeated, counted, all_read}
use Rattle.store_terms.specs.Choices.{either, optional}

-- the first block of a record, then how many bytes it has
abbrev pub extent : Field RecordExtent
extent = made (λ p. record { block = p.0; size = p.1 }) (λ e. (e.block, e.size)) (both (number 8) (number 4))

-- the record of a base layer; or that of a definition, and by column of each finished tile
abbrev pub Records : Type 0
Records = RecordExtent ⊎ RecordExtent × List (Option RecordExtent)

-- the name of a layer, and its records
pub record Listed : Type 0 where
  pub name : Name
  pub records : Records

-- a layer, where there are n columns
abbrev pub listed : ℕ → Field Listed
listed n = made (λ p. record { name = p.0; records = p.1 }) (λ l. (l.name, l.records)) (both (counted 1 (number 1)) (either extent (both extent (repeated n (optional extent)))))

-- the layers in order
abbrev pub catalog : ℕ → Field (List Listed)
catalog n = counted 2 (listed n)

-- how many columns a file of the old format has
abbrev pub old_column_count : ℕ
old_column_count = 17

-- a layer without its finished tiles, as they are those of other columns
abbrev pub pending_records : Records → Records
pending_records (inl e) = inl e
pending_records (inr both) = inr (both.0, replicate column_count None)

-- a layer that is listed, without where its finished tiles lie
abbrev pub without_tiles : Listed → Listed
without_tiles l = record { name = l.name; records = pending_records l.records }

-- the layers that a catalog lists. Of the tiles in an old one the form of their entries is asked, and no more
abbrev pub catalog_of_record : Bool → List ℕ → Option (List Listed)
catalog_of_record is_old bytes =
    if is_old then option_map (map without_tiles) (all_read (catalog old_column_count) bytes) else all_read (catalog column_count) bytes
