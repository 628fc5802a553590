-- Layers of the code as layers of the definitions.
use Rattle.std.specs.Prelude.{ℕ, [], ◌∷◌, if◌then◌else◌}
use Rattle.std.specs.Prelude.{not, List, map, filter, Option, Some, None, bytes_eq, All, IsTrue}
use Rattle.std.specs.List.{AllByRecursion}
use Rattle.overlay_terms.specs.Plane.{WholePoint}
use Rattle.overlay_terms.specs.Layers.{Content, base, derived}
use Rattle.overlay_terms.specs.Layers as terms
use Rattle.overlay_terms.specs.Commands.{Command, put, define}
use Rattle.overlay_terms.specs.LayerParity.{AreSound}
use Rattle.overlay_terms.specs.InputLaws.{IsRing}
use Rattle.layer_expr.specs.Name.{is_name}
use Rattle.layer_book.specs.declared.layer.Layer.{Layer}
use Rattle.layer_book.specs.declared.layer.Layer.TheVariants.{Base, Derived}

-- what a layer is made of
abbrev pub content : Layer → Content
content (Base rings) = base rings.value
content (Derived expression) = derived expression.value

-- a name and what is under it, as a layer
abbrev pub named_layer : List ℕ × Layer → terms.Layer
named_layer entry = record { name = entry.0; content = content entry.1 }

-- the entries of the map, as layers in its order
abbrev pub layers_of : List (List ℕ × Layer) → List terms.Layer
layers_of entries = map named_layer entries

-- the rings that a content has are closed and in range
abbrev pub HasRings : Content → Type 0
HasRings (base rings) = All IsRing rings
HasRings (derived expression) = Unit {0}

-- layers as commands leave them: sound, and each under a name
pub record IsBook (layers : List terms.Layer) : Type 0 where
  pub sound : AreSound layers
  pub named : AllByRecursion (λ layer. IsTrue (is_name layer.name)) layers

-- the rings of a base layer, as a list of one; none of a derived one
abbrev pub rings_in : Content → List (List (List WholePoint))
rings_in (base rings) = rings ∷ []
rings_in (derived expression) = []

-- what is under a name
abbrev pub content_named : List terms.Layer → List ℕ → Option Content
content_named [] name = None
content_named (layer ∷ layers) name = if bytes_eq layer.name name then Some layer.content else content_named layers name

-- the command that keeps a content under a name
abbrev pub keeping : List ℕ → Content → Command
keeping name (base rings) = put name rings
keeping name (derived expression) = define name expression

-- the layers with other names
abbrev pub others : List terms.Layer → List ℕ → List terms.Layer
others layers name = filter (λ layer. not (bytes_eq layer.name name)) layers
