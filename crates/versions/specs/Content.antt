-- What is in a version.
use Rattle.std.specs.Prelude.{◌≡◌, ℕ, []}
use Rattle.versions.specs.declared.version.VersionContent.{VersionContent}
use Rattle.versions.specs.declared.version.VersionContent.TheVariants.{Nothing, Tiled}
use Rattle.layer_tiles.specs.Table.{laid, Laid}
use Rattle.versions.specs.Laid.{nothing_laid, numbered}
use Rattle.versions.specs.Version.{IsVersion}

-- its layers and tiles
abbrev pub laid_by : VersionContent → Laid
laid_by (Nothing layers) = nothing_laid
laid_by (Tiled table) = laid table.value

-- there is no layer where there is no table
abbrev pub IsBare : VersionContent → Type 0
IsBare (Nothing layers) = layers ≡ []
IsBare (Tiled table) = Unit {0}

pub record IsHeld (number : ℕ) (content : VersionContent) (durable : ℕ) : Type 0 where
  pub valid : IsVersion (numbered number (laid_by content) durable)
  pub bare : IsBare content
