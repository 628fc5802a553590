-- The layers that a sketch shows.
use Rattle.std.specs.Prelude.{List, [], map}
use Rattle.overlay_terms.specs.Layers.{base, derived, Layer}
use Rattle.layer_book.specs.declared.sketch.Entry.{Entry}
use Rattle.layer_book.specs.declared.sketch.Entry.TheVariants.{Unused, Base, Derived}
use Rattle.layer_book.specs.declared.sketch.Sketch.{Sketch}

-- a place of a sketch as a layer; an unused one has no name
abbrev pub entry_layer : Entry → Layer
entry_layer Unused = record { name = []; content = base [] }
entry_layer (Base name rings) = record { name = name.now; content = base rings.now }
entry_layer (Derived name expression) = record { name = name.now; content = derived expression.now }

-- the layers of a sketch, in order
abbrev pub sketched : Sketch → List Layer
sketched sketch = map entry_layer sketch.entries.items
