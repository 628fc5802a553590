-- The tiles of the columns of a strip.
use Rattle.std.specs.Prelude.{◌≡◌, ℕ, ◌+◌, ◌<◌, List, length, get_or}
use Rattle.overlay_terms.specs.Histories.{Tile}
use Rattle.overlay_terms.specs.Tiles.{Input}
use Rattle.crossing_sweep.specs.StripInput.{StripInput, part}

-- built tiles of a strip's columns, from its first one up to a number: each is built of its own column's input
pub record AreUpTo (input : StripInput) (number : ℕ) (built : List (Input × Tile)) : Type 0 where
  pub each : length built + input.strip.first ≡ number
  pub inputs : (i : ℕ) (d : Input × Tile) → i < length built → (get_or built i d).0 ≡ part input (input.strip.first + i)

-- of all its columns
abbrev pub AreOfStrip : StripInput → List (Input × Tile) → Type 0
AreOfStrip input built = AreUpTo input (input.strip.last + 1) built
