-- Where the records of a store lie in its file. The file is read through `bytes_at` and `is_placed` alone.
use Rattle.std.specs.Prelude.{ℕ, ◌+◌, ◌*◌, ◌/◌, ◌&&◌, ◌||◌, [], ◌∷◌}
use Rattle.std.specs.Prelude.{nat_le, Bool, true, List, length, flat_map, Option, Some, None}
use Rattle.std.proofs.Common.{inl, inr}
use Rattle.disk_model.specs.Disk.{part}
pub use Rattle.extent_map.specs.Blocks.{block_size, blocks}
use Rattle.store_terms.specs.declared.root.RecordExtent.{RecordExtent}
use Rattle.store_terms.specs.Catalog.{Records, Listed}

-- the bytes of a record
abbrev pub bytes_at : List ℕ → RecordExtent → List ℕ
bytes_at file e = part file (block_size * e.block) e.size

-- whether a record lies after the slots, in whole blocks of the file
abbrev pub is_placed : List ℕ → RecordExtent → Bool
is_placed file e = nat_le 2 e.block && nat_le (e.block + blocks e.size) (length file / block_size)

-- the extents of some tiles
abbrev pub some_extents : List (Option RecordExtent) → List RecordExtent
some_extents [] = []
some_extents (None ∷ rest) = some_extents rest
some_extents (Some e ∷ rest) = e ∷ some_extents rest

-- where a layer's own record lies, and then those of its finished tiles
abbrev pub extents_of_records : Records → List RecordExtent
extents_of_records (inl e) = e ∷ []
extents_of_records (inr (e, tiles)) = e ∷ some_extents tiles

-- the extents of all records that are listed
abbrev pub extents_listed : List Listed → List RecordExtent
extents_listed ls = flat_map (λ l. extents_of_records l.records) ls

-- whether two extents have no block in common
abbrev pub are_apart : RecordExtent → RecordExtent → Bool
are_apart a b = nat_le (a.block + blocks a.size) b.block || nat_le (b.block + blocks b.size) a.block

-- whether an extent has no block in common with any of some others
abbrev pub is_apart_from : RecordExtent → List RecordExtent → Bool
is_apart_from e [] = true
is_apart_from e (f ∷ fs) = are_apart e f && is_apart_from e fs

-- whether no two extents have a block in common
abbrev pub all_apart : List RecordExtent → Bool
all_apart [] = true
all_apart (e ∷ es) = is_apart_from e es && all_apart es
