-- What an image holds, by the places of the ends of its pieces.
use Rattle.store_terms.specs.Image.{Held}
use Rattle.commit_plan.specs.declared.image.Image.{Image}
use Rattle.commit_plan.specs.Image.{table_held}

-- the number, the layers and the tiles of an image, as a store holds them; the names of the ends are left out
abbrev pub image_held : Image → Held
image_held image = table_held image.number image.table.value
