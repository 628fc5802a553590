-- What a root holds has its form.
use Rattle.std.specs.Prelude.{◌≡◌, ◌≤◌, ℕ, List, Ok}
use Rattle.overlay_terms.specs.Commands.{version_max}
use Rattle.overlay_terms.specs.StoredTiles.{AreStored}
use Rattle.store_terms.specs.declared.root.Root.{Root}
use Rattle.store_terms.specs.Image.{Held, held_of}

-- what a store may hold: no number that is too great, and tiles of their form in their order
pub record IsImage (x : Held) : Type 0 where
  pub small : x.number ≤ version_max
  pub stored : AreStored x.layers x.tiles

-- the tiles that a root holds are of derived layers, of columns that there are, of their form and in order
abbrev pub HeldIsStored : Type 0
HeldIsStored = (file : List ℕ) (r : Root) (x : Held) → held_of file r ≡ Ok x → AreStored x.layers x.tiles

-- what a root of no number that is too great holds may be an image
abbrev pub HeldIsImage : Type 0
HeldIsImage = (file : List ℕ) (r : Root) (x : Held) → r.version ≤ version_max → held_of file r ≡ Ok x → IsImage x
