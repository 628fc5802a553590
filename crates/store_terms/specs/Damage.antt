-- The codes of what is wrong with a file.
use Rattle.std.specs.Prelude.{ℕ, Option, Some, None}
use Rattle.store_terms.specs.declared.damage.Damage.{Damage}
use Rattle.store_terms.specs.declared.damage.Damage.TheVariants.{NotAStore, Format, Numbers, CatalogPlace}
use Rattle.store_terms.specs.declared.damage.Damage.TheVariants.{CatalogForm, RecordPlace, LayerForm}
use Rattle.store_terms.specs.declared.damage.Damage.TheVariants.{LayerRefused, TileForm, Overlap}

-- the code that `damaged` carries; none where the file is no store
abbrev pub code_of : Damage → Option ℕ
code_of NotAStore = None
code_of Format = Some 1
code_of Numbers = Some 2
code_of CatalogPlace = Some 3
code_of CatalogForm = Some 4
code_of RecordPlace = Some 5
code_of LayerForm = Some 6
code_of LayerRefused = Some 7
code_of TileForm = Some 8
code_of Overlap = Some 9
