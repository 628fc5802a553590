-- How all layers are listed: how many there are, then a line for each.
use Rattle.std.specs.Prelude.{ℕ, List, [], ◌∷◌, ◌++◌, length, flat_map, codes, decimal}
use Rattle.wkt_form.specs.Spelling.{wkt_text}
use Rattle.layer_expr.specs.Spelling.{expression_text}
use Rattle.overlay_terms.specs.Layers.{Content, base, derived, Layer}

-- the text after the name: the rings as a text, or `= ` and the expression
abbrev pub content_text : Content → List ℕ
content_text (base rings) = wkt_text rings
content_text (derived expression) = codes "= " ++ expression_text expression

-- a layer's line has its name, and after it what the layer holds
abbrev pub layer_line : Layer → List ℕ
layer_line layer = layer.name ++ (codes " " ++ (content_text layer.content ++ 10 ∷ []))

-- LAYERS is answered by the number of layers, and by their lines in order
abbrev pub layers_text : List Layer → List ℕ
layers_text layers = codes "layers " ++ (decimal (length layers) ++ (10 ∷ flat_map layer_line layers))
