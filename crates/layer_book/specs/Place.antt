-- Places of the code as answers of the definitions.
use Rattle.overlay_terms.specs.Layers.{Location, inside, outside, edge}
use Rattle.layer_book.specs.declared.direct_answer.Place.{Place}
use Rattle.layer_book.specs.declared.direct_answer.Place.TheVariants.{Inside, Outside, Edge}

-- what each of the code's answers says of a point
abbrev pub location : Place → Location
location Inside = inside
location Outside = outside
location Edge = edge
