-- Commands: why one is refused, and what it makes of the layers.
use Rattle.std.specs.Prelude.{◌≡◌, ℕ, ◌==◌, nat_le, Bool, false, true, not, ◌&&◌, List, [], ◌∷◌, ◌++◌, map}
use Rattle.std.specs.Prelude.{filter, fold, length, Option, Some, None, bytes_eq, if◌then◌else◌, ◌+◌, ◌^◌}
use Rattle.std.specs.List.{list_any}
use Rattle.std.specs.Option.{option_or}
use Rattle.overlay_terms.specs.Plane.{WholePoint}
use Rattle.overlay_terms.specs.Trees.{Tree, leaves}
use Rattle.overlay_terms.specs.Layers.{layers_max, Name, Content, base, derived, Layer}

-- keep rings under a name, keep an expression under a name, or take a layer out
pub data Command : Type 0 where
  put : Name → List (List WholePoint) → Command
  define : Name → Tree Name → Command
  remove : Name → Command

-- why a command is refused
pub data Refusal : Type 0 where
  unknown_layer : Refusal
  not_base : Refusal
  not_derived : Refusal
  later_layer : Refusal
  in_use : Refusal
  too_many_layers : Refusal
  version_limit : Refusal

-- the index of the layer with a name, from 0; how many layers there are where none has it
abbrev pub index_of : List Layer → Name → ℕ
index_of [] name = 0
index_of (layer ∷ layers) name = if bytes_eq layer.name name then 0 else index_of layers name + 1

-- whether a layer has the name
abbrev pub stands : List Layer → Name → Bool
stands layers name = list_any (λ layer. bytes_eq layer.name name) layers

-- whether the content of a name is an expression
abbrev pub is_derived : Content → Bool
is_derived (base rings) = false
is_derived (derived expression) = true

-- whether a base layer has the name
abbrev pub stands_as_base : List Layer → Name → Bool
stands_as_base layers name = list_any (λ layer. bytes_eq layer.name name && not (is_derived layer.content)) layers

-- whether a derived layer has the name
abbrev pub stands_as_derived : List Layer → Name → Bool
stands_as_derived layers name = list_any (λ layer. bytes_eq layer.name name && is_derived layer.content) layers

-- whether a layer's definition names the name
abbrev pub uses : Name → Content → Bool
uses name (base rings) = false
uses name (derived expression) = list_any (λ used. bytes_eq used name) (leaves expression)

-- the reason, where the test holds
abbrev pub when : Bool → Refusal → Option Refusal
when test reason = if test then Some reason else None

-- whether the name is new and there is no room for another layer
abbrev pub is_crowded : List Layer → Name → Bool
is_crowded layers name = not (stands layers name) && nat_le layers_max (length layers)

-- why a PUT is refused: the name is a derived layer's; it is new and there is no room
abbrev pub refusal_of_put : List Layer → Name → Option Refusal
refusal_of_put layers name =
    option_or (when (stands_as_derived layers name) not_base) (when (is_crowded layers name) too_many_layers)

-- why a definition may not use a name: no layer has it; the layer that has it is the defined one, or comes after it
abbrev pub refusal_of_use : List Layer → Name → Name → Option Refusal
refusal_of_use layers defined used =
    option_or (when (not (stands layers used)) unknown_layer) (when (nat_le (index_of layers defined) (index_of layers used)) later_layer)

-- the first reason against the names of an expression, from left to right
abbrev pub refusal_of_uses : List Layer → Name → List Name → Option Refusal
refusal_of_uses layers defined [] = None
refusal_of_uses layers defined (used ∷ others) =
    option_or (refusal_of_use layers defined used) (refusal_of_uses layers defined others)

-- why a DEFINE is refused: the name is a base layer's; it uses what it may not; the name is new and there is no room
abbrev pub refusal_of_define : List Layer → Name → Tree Name → Option Refusal
refusal_of_define layers name expression =
    option_or (when (stands_as_base layers name) not_derived)
    (option_or (refusal_of_uses layers name (leaves expression)) (when (is_crowded layers name) too_many_layers))

-- why a DROP is refused: no layer has the name; a definition names it
abbrev pub refusal_of_remove : List Layer → Name → Option Refusal
refusal_of_remove layers name =
    option_or (when (not (stands layers name)) unknown_layer)
    (when (list_any (λ layer. uses name layer.content) layers) in_use)

-- why a command is refused: the first reason that applies
abbrev pub refusal_of : List Layer → Command → Option Refusal
refusal_of layers (put name rings) = refusal_of_put layers name
refusal_of layers (define name expression) = refusal_of_define layers name expression
refusal_of layers (remove name) = refusal_of_remove layers name

-- the greatest number of a version; a version may have it
abbrev pub version_max : ℕ
version_max = 2 ^ 62

-- why a command is refused at a version of this number: for the layers, or since the number is the greatest
abbrev pub refusal_at : ℕ → List Layer → Command → Option Refusal
refusal_at number layers command =
    option_or (refusal_of layers command) (when (number == version_max) version_limit)

-- the content of a name is replaced in its place, or comes last
abbrev pub with_content : List Layer → Name → Content → List Layer
with_content layers name content =
    if stands layers name then map (λ (layer : Layer). if bytes_eq layer.name name then record { name = name; content = content } else layer) layers
    else layers ++ record { name = name; content = content } ∷ []

-- the layers after an accepted command
abbrev pub applied : List Layer → Command → List Layer
applied layers (put name rings) = with_content layers name (base rings)
applied layers (define name expression) = with_content layers name (derived expression)
applied layers (remove name) = filter (λ layer. not (bytes_eq layer.name name)) layers

-- the layers after accepted commands, from none
abbrev pub layers_after : List Command → List Layer
layers_after commands = fold applied [] commands

-- each command is accepted by the layers after those before it
abbrev pub AllAccepted : List Layer → List Command → Type 0
AllAccepted layers [] = Unit {0}
AllAccepted layers (command ∷ commands) =
    (refusal_of layers command ≡ None) × AllAccepted (applied layers command) commands
