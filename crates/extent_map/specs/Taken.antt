-- What a map of extents shows.
use Rattle.std.specs.Prelude.{ℕ, List}
use Rattle.extent_map.specs.declared.extent.Extent.{Extent}
use Rattle.extent_map.specs.declared.extents.Extents.{Extents}

-- the extents that are taken
abbrev pub taken_of : Extents → List Extent
taken_of map = map.taken.items

-- the number of blocks that the file may have
abbrev pub limit_of : Extents → ℕ
limit_of map = map.limit
