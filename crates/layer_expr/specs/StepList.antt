-- Layers in reach as steps: each name replaced by a number, and what the last layer is by Boolean evaluation.
use Rattle.std.specs.Prelude.{◌≡◌, ℕ, ◌+◌, ◌≤◌, nat_lt, Bool, true, false, not, ◌&&◌, ◌||◌, ◌==◌, IsTrue}
use Rattle.std.specs.Prelude.{List, [], ◌∷◌, ◌++◌, map, length, Option, Some, None, is_some, option_copied}
use Rattle.std.specs.Borrow.{Bor}
use Rattle.std.specs.List.{list_all, filter_map, enumerate_from}
use Rattle.overlay_terms.specs.Trees.{Tree, truth, leaves, relabel, Source, base_bit}
use Rattle.overlay_terms.specs.Trees.{definition, Steps, steps_value, last_or}
use Rattle.overlay_terms.specs.Layers.{layers_max, Name, Content, base, derived, Layer, named}
use Rattle.overlay_terms.specs.Layers.{source_of, base_of, derived_of, layers_in_reach, steps_in_reach}
use Rattle.overlay_terms.specs.Orderly.{is_among}

-- a layer in reach: its name, and its expression where it is derived
abbrev pub Reached : Type 0
Reached = Name × Option (Tree Name)

-- the layers behind the references of a list
abbrev pub reached : List (Bor Name × Option (Bor (Tree Name))) → List Reached
reached layers = map (λ layer. (layer.0.now, option_copied layer.1)) layers

-- a base layer's name
abbrev pub base_name : Reached → Option Name
base_name (name, None) = Some name
base_name (name, Some expression) = None

-- a derived layer's name and expression
abbrev pub definition_of : Reached → Option (Name × Tree Name)
definition_of (name, None) = None
definition_of (name, Some expression) = Some (name, expression)

-- the base layers' names, in order
abbrev pub base_names : List Reached → List Name
base_names layers = filter_map base_name layers

-- the derived layers' names and expressions, in order
abbrev pub definitions_of : List Reached → List (Name × Tree Name)
definitions_of layers = filter_map definition_of layers

-- the base layer or the definition that a name is of, by its number
abbrev pub source_among : List Reached → Name → Source
source_among layers name = source_of (base_names layers) (map (λ d. d.0) (definitions_of layers)) name

-- the layers in reach as steps: how many base layers, and the expressions in order with
-- each name replaced by its number
abbrev pub numbered_steps : List Reached → Steps
numbered_steps layers =
    record {
      bases = length (base_names layers);
      definitions = map (λ d. relabel (source_among layers) d.1) (definitions_of layers);
    }

-- the names in a layer's expression
abbrev pub names_in : Option (Tree Name) → List Name
names_in None = []
names_in (Some expression) = leaves expression

-- layers that come after layers of the given names: each has a name of its own, and its
-- expression names only layers before it
abbrev pub is_ordered_after : List Name → List Reached → Bool
is_ordered_after known [] = true
is_ordered_after known (layer ∷ layers) =
    not (is_among known layer.0) && list_all (is_among known) (names_in layer.1)
    && is_ordered_after (known ++ layer.0 ∷ []) layers

-- the names differ, and each expression names earlier layers alone
abbrev pub IsOrdered : List Reached → Type 0
IsOrdered layers = IsTrue (is_ordered_after [] layers)

-- the last layer is derived, or it is a base layer and the only one: a base layer reaches itself alone
abbrev pub ReachesAll : List Reached → Type 0
ReachesAll layers = IsTrue (last_or false (map (λ layer. is_some layer.1) layers) || length layers == 1)

-- what each layer is, in order, after layers whose values are known: a base layer takes the next bit, and an expression
-- is evaluated over the layers before it
abbrev pub values_after : ℕ → List (Name × Bool) → (ℕ → Bool) → List Reached → List (Name × Bool)
values_after next known bits [] = known
values_after next known bits ((name, None) ∷ layers) =
    values_after (next + 1) (known ++ (name, bits next) ∷ []) bits layers
values_after next known bits ((name, Some expression) ∷ layers) =
    values_after next (known ++ (name, truth (named false known) expression) ∷ []) bits layers

-- what the last layer is by Boolean evaluation, from the bits of the base layers
abbrev pub evaluated : List Reached → (ℕ → Bool) → Bool
evaluated layers bits = last_or false (map (λ entry. entry.1) (values_after 0 [] bits layers))

-- whether a leaf is one of the base layers, or a definition before an index
abbrev pub stands_before : ℕ → ℕ → Source → Bool
stands_before bases place (base_bit k) = nat_lt k bases
stands_before bases place (definition k) = nat_lt k place

-- whether each leaf of each definition is one of the base layers or an earlier definition
abbrev pub names_earlier : ℕ → ℕ → List (Tree Source) → Bool
names_earlier bases place definitions =
    list_all (λ d. list_all (stands_before bases d.0) (leaves d.1)) (enumerate_from place definitions)

-- no more base layers and no more definitions than there may be layers, each over base layers and earlier definitions
pub record IsStepList (steps : Steps) : Type 0 where
  pub few_bases : steps.bases ≤ layers_max
  pub few_definitions : length steps.definitions ≤ layers_max
  pub earlier : IsTrue (names_earlier steps.bases 0 steps.definitions)

-- a layer with its name and, where it is derived, its expression
abbrev pub reached_of : Layer → Reached
reached_of layer = (layer.name, expression_of layer.content) where
  expression_of : Content → Option (Tree Name)
  expression_of (base rings) = None
  expression_of (derived expression) = Some expression

-- the steps of the layers that a layer reaches are its steps in reach
abbrev pub NumberedAreInReach : Type 0
NumberedAreInReach =
    (layers : List Layer) (name : Name)
    → numbered_steps (map reached_of (layers_in_reach layers name)) ≡ steps_in_reach layers name

-- the same of any list of layers: base layers are counted, and definitions numbered
abbrev pub NumberedByContent : Type 0
NumberedByContent =
    (layers : List Layer) →
    let bases = filter_map base_of layers in
    let definitions = filter_map derived_of layers in
    let steps : Steps = record { bases = length bases; definitions = map (λ d. relabel (source_of (map (λ b. b.0) bases) (map (λ e. e.0) definitions)) d.1) definitions } in
    numbered_steps (map reached_of layers) ≡ steps

-- the value of ordered layers' steps is that of the last layer, by Boolean evaluation in order
abbrev pub StepsEvaluate : Type 0
StepsEvaluate =
    (layers : List Reached) (bits : ℕ → Bool) → IsOrdered layers → ReachesAll layers →
    steps_value (numbered_steps layers) bits ≡ evaluated layers bits
