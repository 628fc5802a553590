-- The tiles that a command touches, as a table: a row for each layer, with a mark for each column.
use Rattle.std.specs.Prelude.{◌≡◌, ℕ, Bool, true, List, map, filter, bytes_eq}
use Rattle.std.specs.List.{list_any}
use Rattle.std.specs.Cmp.Lexicographic.{pointwise}
use Rattle.overlay_terms.specs.Plane.{WholePoint, Segment}
use Rattle.overlay_terms.specs.Column.{columns, touches}
use Rattle.overlay_terms.specs.Layers.{Name, Layer, Marked, marked_segments}
use Rattle.overlay_terms.specs.SameInput.{same_segment}
use Rattle.overlay_terms.specs.Commands.{Command}
use Rattle.overlay_terms.specs.Touched.{is_touched, derived_over, name_of}
use Rattle.arrange.specs.Marked.{kept_in}

-- in which columns a command touches the tile of a layer
abbrev pub touched_columns : List Layer → Command → Name → List Bool
touched_columns layers command name = map (is_touched layers command name) columns

-- marks are those of each derived layer that reaches the name of a command
abbrev pub AreOfAllOver : List Layer → Command → List Bool → Type 0
AreOfAllOver layers command row =
    (name : Name) → list_any (bytes_eq name) (derived_over layers (name_of command)) ≡ true
    → row ≡ touched_columns layers command name

-- in which columns a command touches the tiles of each layer
abbrev pub touched_rows : List Layer → Command → List (List Bool)
touched_rows layers command = map (λ (layer : Layer). touched_columns layers command layer.name) layers

-- the segments of base layers that have a point in a column, with the layers' numbers
abbrev pub marked_in : ℕ → List (List (List WholePoint)) → List Marked
marked_in column bases = kept_in column (marked_segments bases)

-- whether two lists have the same segments with a point in a column, in the same order
abbrev pub same_in : ℕ → List Segment → List Segment → Bool
same_in column new old = pointwise same_segment (filter (touches column) new) (filter (touches column) old)
