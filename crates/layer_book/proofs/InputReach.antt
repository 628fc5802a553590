-- The input of a tile, from the layers that are marked.
use Rattle.std.proofs.Common.{◌≡◌, ℕ, ◌≤◌, Bool, true, false, List, [], ◌∷◌, length, map, filter_map, Result, Ok, Err, IfOk, refl, ap, sym, ◌∙◌, subst, arith, bytes_eq, ◌==◌}
use Rattle.std.proofs.lemmas.Bool.{false≢true, or_left, or_right}
use Rattle.std.proofs.lemmas.List.{length-map}
use Rattle.overlay_terms.specs.Plane.{WholePoint}
use Rattle.overlay_terms.specs.Trees.{Steps}
use Rattle.overlay_terms.specs.Layers.{Name, Layer, named, base_of, reaches, layers_in_reach, steps_in_reach, marked_segments}
use Rattle.overlay_terms.specs.Tiles.{Input, input_of}
use Rattle.overlay_terms.specs.Orderly.{IsOrderly}
use Rattle.overlay_terms.specs.Commands.{stands, stands_as_base}
use Rattle.overlay_terms.proofs.NameLemmas.{name_itself, or_false}
use Rattle.overlay_terms.proofs.ReachLemmas.{has_name}
use Rattle.overlay_terms.proofs.OwnLemmas.{alone, base_reach, derived_from_stands}
use Rattle.overlay_terms.proofs.KeptBounds.{reach_rows, reaches_itself}
use Rattle.arrange.specs.Marked.{kept_in}
use Rattle.layer_expr.specs.StepList.{Reached, reached_of, numbered_steps, IsOrdered, ReachesAll}
use Rattle.layer_expr.proofs.ReachedLayers.{numbered_are_in_reach, is_ordered_after-reached}
use Rattle.layer_book.specs.Layer.{IsBook}
use Rattle.layer_book.specs.Question.{marked_layers}
use Rattle.layer_book.proofs.MarkedLayers.{rings_of}
use Rattle.layer_book.proofs.MarkedReach.{in_reach, uses_in_reach}
use Rattle.layer_book.proofs.InReach.{passing_orderly, ends_all}

-- no more are marked than there are
marked_few : (ws : List Bool) (layers : List Layer) → length (marked_layers ws layers) ≤ length layers
marked_few [] layers = omega arith
marked_few (w ∷ ws) [] = omega arith
marked_few (true ∷ ws) (layer ∷ layers) = omega (arith, marked_few ws layers)
marked_few (false ∷ ws) (layer ∷ layers) = omega (arith, marked_few ws layers)

-- the marks of a layer that there is
pub record IsMarked (layers : List Layer) (name : Name) (ws : List Bool) : Type 0 where
  pub book : IsBook layers
  pub standing : stands layers name ≡ true
  pub exactly : marked_layers ws layers ≡ layers_in_reach layers name

-- they are not too many
pub few_marked : {X : Type 0} (f : X → Reached) (layers : List Layer) (name : Name) (ws : List Bool) (lent : List X) → IsMarked layers name ws → map f lent ≡ map reached_of (marked_layers ws layers) → length lent ≤ 32
few_marked f layers name ws lent m e =
    let count : length lent ≡ length (marked_layers ws layers) = sym (length-map lent f) ∙ ap length e ∙ length-map (marked_layers ws layers) reached_of in
    omega (arith, count, marked_few ws layers, m.book.sound.few)

-- they are in order
pub ordered_marked : (layers : List Layer) (name : Name) (ws : List Bool) (lent : List Reached) → IsMarked layers name ws → lent ≡ map reached_of (marked_layers ws layers) → IsOrdered lent
ordered_marked layers name ws lent m e =
    subst IsOrdered (sym (e ∙ ap (map reached_of) m.exactly))
    (is_ordered_after-reached [] (layers_in_reach layers name) ∙ passing_orderly (in_reach layers name) layers [] [] (λ n. refl) m.book.sound.orderly (uses_in_reach layers name m.book.sound.orderly m.standing))

-- a base layer reaches itself alone
base_alone : (layers : List Layer) (name : Name) → IsOrderly layers → stands_as_base layers name ≡ true → length (map reached_of (layers_in_reach layers name)) ≡ 1
base_alone layers name orderly as_base =
    let own : named [] (reaches layers) name ≡ name ∷ [] = base_reach (reaches layers) name layers (reach_rows layers orderly) as_base in
    let itself : in_reach layers name name ≡ true = ap (λ ns. has_name ns name) own ∙ or_left _ _ (name_itself name) in
    let only = alone (in_reach layers name) name layers [] orderly (λ m e. sym (or_false (bytes_eq m name)) ∙ sym (ap (λ ns. has_name ns m) own) ∙ e) itself as_base in
    ap (λ ls. length (map reached_of ls)) only.is

-- the last is derived, or it is a base layer and alone
pub last_marked : (layers : List Layer) (name : Name) (ws : List Bool) (lent : List Reached) → IsMarked layers name ws → lent ≡ map reached_of (marked_layers ws layers) → ReachesAll lent
last_marked layers name ws lent m e =
    subst ReachesAll (sym (e ∙ ap (map reached_of) m.exactly)) (by_kind (stands_as_base layers name) refl)
  where
    by_kind : (b : Bool) → stands_as_base layers name ≡ b → ReachesAll (map reached_of (layers_in_reach layers name))
    by_kind true as_base = or_right _ _ (ap (λ n. n == 1) (base_alone layers name m.book.sound.orderly as_base))
    by_kind false not_base =
        let orderly = m.book.sound.orderly in
        or_left _ _
        (ends_all (reaches layers) name layers [] orderly (reach_rows layers orderly) (λ n k. absurd (false≢true k)) (reaches_itself layers name orderly m.standing) (derived_from_stands layers name m.standing not_base) false)

-- their steps are those in reach
pub steps_marked : (layers : List Layer) (name : Name) (ws : List Bool) (lent : List Reached) (steps : Steps) → IsMarked layers name ws → lent ≡ map reached_of (marked_layers ws layers) → steps ≡ numbered_steps lent → steps ≡ steps_in_reach layers name
steps_marked layers name ws lent steps m e made =
    made ∙ ap numbered_steps (e ∙ ap (map reached_of) m.exactly) ∙ numbered_are_in_reach layers name

-- as many base layers are in reach as the steps know
pub bases_counted : {X : Type 0} (f : X → List (List WholePoint)) (layers : List Layer) (name : Name) (bases : List X) (steps : Steps) → map f bases ≡ rings_of (layers_in_reach layers name) → steps ≡ steps_in_reach layers name → length bases ≡ steps.bases
bases_counted f layers name bases steps b e =
    sym (length-map bases f) ∙ ap length b
    ∙ length-map (filter_map base_of (layers_in_reach layers name)) (λ (b : Name × List (List WholePoint)). b.1)
    ∙ sym (ap (λ (s : Steps). s.bases) e)

-- the input is that of the layer and column
pub input_ok : {E : Type 0} (layers : List Layer) (name : Name) (column : ℕ) (bases : List (List (List WholePoint))) (steps : Steps) (result : Result Input E) → bases ≡ rings_of (layers_in_reach layers name) → steps ≡ steps_in_reach layers name →
    IfOk result (λ input. input ≡ record { column = column; marked = kept_in column (marked_segments bases); steps = steps }) → IfOk result (λ input. input ≡ input_of layers name column)
input_ok layers name column bases steps (Ok input) b e is =
    is ∙ (λ i. record { column = column; marked = kept_in column (marked_segments (b i)); steps = e i })
input_ok layers name column bases steps (Err fault) b e is = tt
