-- The table of touched tiles: its rows, and what is read in it.
use Rattle.std.proofs.Common.{◌≡◌, ℕ, zero, suc, ◌+◌, ◌<◌, ◌==◌, Bool, true, false, not, ◌&&◌, List, [], ◌∷◌, ◌++◌, length, map, take, set, replicate, slice_get, Some, None, refl, ap, sym, ◌∙◌, arith, add-one, add-zero, bytes_eq}
use Rattle.std.specs.List.{list_any, range_with_len}
use Rattle.std.specs.Cmp.Lexicographic.{pointwise}
use Rattle.std.proofs.lemmas.Bool.{both_ways, false_from_ne_true}
use Rattle.std.proofs.lemmas.Bool.Decides.{Decides-eqb}
use Rattle.std.proofs.lemmas.List.{map-append, take_more_set}
use Rattle.overlay_terms.specs.Plane.{WholePoint}
use Rattle.overlay_terms.specs.Column.{columns, column_count}
use Rattle.overlay_terms.specs.Layers.{Name, Layer, layers_in_reach, steps_in_reach}
use Rattle.overlay_terms.specs.Tiles.{input_of}
use Rattle.overlay_terms.specs.SameInput.{same_marked, same_steps, same_input}
use Rattle.overlay_terms.specs.Commands.{Command, refusal_of, applied, stands_as_derived}
use Rattle.overlay_terms.specs.Touched.{is_touched, derived_over, name_of}
use Rattle.overlay_terms.specs.Orderly.{IsOrderly}
use Rattle.overlay_terms.proofs.KeptCommands.{only_reach_is_touched}
use Rattle.layer_book.specs.Touching.{touched_columns, marked_in}
use Rattle.layer_book.proofs.Answering.{take_there}
use Rattle.layer_book.proofs.MarkedLayers.{rings_of}
use Rattle.layer_book.proofs.BoolLemmas.{and_true, and_false}
use lib.Seq.{take-length}

pub length_set : (marks : List Bool) (i : ℕ) (b : Bool) → length (set marks i b) ≡ length marks
length_set [] zero b = refl
length_set [] (suc i) b = refl
length_set (m ∷ marks) zero b = refl
length_set (m ∷ marks) (suc i) b = ap suc (length_set marks i b)

-- one truth for all numbers
all_one : (p : ℕ → Bool) (b : Bool) → ((k : ℕ) → p k ≡ b) → (n a : ℕ) → map p (range_with_len a n) ≡ replicate n b
all_one p b h zero a = refl
all_one p b h (suc n) a = λ i. h a i ∷ all_one p b h n (a + 1) i

-- the same truths
pub same_all : (p q : ℕ → Bool) → ((k : ℕ) → p k ≡ q k) → (ks : List ℕ) → map p ks ≡ map q ks
same_all p q h [] = refl
same_all p q h (k ∷ ks) = λ i. h k i ∷ same_all p q h ks i

-- a layer that does not reach the command's name has no touched tile
pub none_touched : (layers : List Layer) (command : Command) (name : Name) → IsOrderly layers → refusal_of layers command ≡ None
    → list_any (bytes_eq name) (derived_over layers (name_of command)) ≡ false → replicate column_count false ≡ touched_columns layers command name
none_touched layers command name orderly accepted out =
    sym (all_one (is_touched layers command name) false (λ k. false_from_ne_true (is_touched layers command name k)
    (λ t. both_ways (list_any (bytes_eq name) (derived_over layers (name_of command))) out
    (only_reach_is_touched layers command name k orderly accepted t))) column_count 0)

touched_by : (d s : Bool) → d ≡ true → s ≡ false → (d && not s) ≡ true
touched_by true false e f = refl
touched_by true true e f = sym f
touched_by false s e f = e

-- a layer that is taken out has only touched tiles
pub all_touched : (layers : List Layer) (command : Command) (name : Name) → stands_as_derived layers name ≡ true
    → stands_as_derived (applied layers command) name ≡ false → replicate column_count true ≡ touched_columns layers command name
all_touched layers command name before after =
    sym (all_one (is_touched layers command name) true (λ k. touched_by (stands_as_derived layers name)
    (stands_as_derived (applied layers command) name && same_input (input_of (applied layers command) name k) (input_of layers name k)) before
    (ap (λ b. b && same_input (input_of (applied layers command) name k) (input_of layers name k)) after)) column_count 0)

pub both_derived : (d e s : Bool) → d ≡ true → e ≡ true → not s ≡ (d && not (e && s))
both_derived true true s p q = refl
both_derived true false s p q = absurd (both_ways false refl q)
both_derived false e s p q = absurd (both_ways false refl p)

-- a layer that stays derived has touched tiles where its input changes
pub changed_touched : (layers : List Layer) (command : Command) (name : Name) → stands_as_derived layers name ≡ true
    → stands_as_derived (applied layers command) name ≡ true → map (λ k. not
    (same_input (input_of (applied layers command) name k) (input_of layers name k))) columns ≡ touched_columns layers command name
changed_touched layers command name before after =
    same_all (λ k. not (same_input (input_of (applied layers command) name k) (input_of layers name k))) (is_touched layers command name)
    (λ k. both_derived (stands_as_derived layers name) (stands_as_derived (applied layers command) name)
    (same_input (input_of (applied layers command) name k) (input_of layers name k)) before after) columns

-- the rows of one layer more, and of all
pub rows_more : (g : Name → List Bool) (layers : List Layer) (i : ℕ) (layer : Layer) (old new : List (List Bool)) (row : List Bool)
    → slice_get layers i ≡ Some layer → old ≡ map (λ (l : Layer). g l.name) (take i layers) → row ≡ g layer.name → new ≡ old ++ row ∷ []
    → new ≡ map (λ (l : Layer). g l.name) (take (i + 1) layers)
rows_more g layers i layer old new row e before is made =
    made ∙ (λ x. before x ++ is x ∷ [])
    ∙ sym (ap (map (λ (l : Layer). g l.name)) (ap (λ k. take k layers) (add-one i) ∙ take_there layers i layer e) ∙ map-append (λ (l : Layer). g l.name) (take i layers) (layer ∷ []))

pub rows_whole : (g : Name → List Bool) (layers : List Layer) (i : ℕ) (rows : List (List Bool)) → i ≡ length layers
    → rows ≡ map (λ (l : Layer). g l.name) (take i layers) → rows ≡ map (λ (l : Layer). g l.name) layers
rows_whole g layers i rows e is = is ∙ ap (map (λ (l : Layer). g l.name)) (ap (λ k. take k layers) e ∙ take-length layers)

-- where the definitions in reach differ, so does each input
pub steps_differ : (layers after : List Layer) (name : Name) → same_steps (steps_in_reach after name) (steps_in_reach layers name) ≡ false
    → replicate column_count true ≡ map (λ k. not (same_input (input_of after name k) (input_of layers name k))) columns
steps_differ layers after name other =
    sym (all_one (λ k. not (same_input (input_of after name k) (input_of layers name k))) true
    (λ k. ap (λ b. not ((k == k && pointwise same_marked (input_of after name k).marked (input_of layers name k).marked) && b)) other ∙ ap not
    (and_false (k == k && pointwise same_marked (input_of after name k).marked (input_of layers name k).marked))) column_count 0)

-- where they are the same, the segments decide
pub marks_tell : (layers after : List Layer) (name : Name) (news olds : List (List (List WholePoint))) → news ≡ rings_of (layers_in_reach after name)
    → olds ≡ rings_of (layers_in_reach layers name) → same_steps (steps_in_reach after name) (steps_in_reach layers name) ≡ true →
    map (λ k. not (pointwise same_marked (marked_in k news) (marked_in k olds))) columns ≡ map (λ k. not (same_input (input_of after name k) (input_of layers name k))) columns
marks_tell layers after name news olds e f same =
    same_all (λ k. not (pointwise same_marked (marked_in k news) (marked_in k olds))) (λ k. not (same_input (input_of after name k) (input_of layers name k))) (λ k. ap not (one k)) columns
  where
    one : (k : ℕ) → pointwise same_marked (marked_in k news) (marked_in k olds) ≡ same_input (input_of after name k) (input_of layers name k)
    one k =
        let marks = pointwise same_marked (input_of after name k).marked (input_of layers name k).marked in
        (λ x. pointwise same_marked (marked_in k (e x)) (marked_in k (f x)))
        ∙ sym ((λ x. ((Decides-eqb k k).1 refl x && marks) && same x) ∙ and_true marks)

first_number : (k : ℕ) → 0 + k ≡ k
first_number k = omega arith

-- a mark of one column more
pub marks_more : (p : ℕ → Bool) (marks : List Bool) (n at : ℕ) (same : Bool) → n < column_count → n < length marks → at ≡ n → not same ≡ p n
    → take n marks ≡ map p (take n columns) → take (n + 1) (set marks at (not same)) ≡ map p (take (n + 1) columns)
marks_more p marks n at same near room here is so_far =
    ap (λ i. take (n + 1) (set marks i (not same))) here ∙ take_more_set marks n (not same) room
    ∙ (λ x. so_far x ++ is x ∷ [])
    ∙ sym (ap (map p) (ap (λ k. take k columns) (add-one n) ∙ take_there columns n n (column_there column_count 0 n near ∙ ap (λ k. Some k) (first_number n))) ∙ map-append p (take n columns) (n ∷ []))
  where
    column_there : (m a k : ℕ) → k < m → slice_get (range_with_len a m) k ≡ Some (a + k)
    column_there zero a k h = absurd (omega arith)
    column_there (suc m) a zero h = ap (λ j. Some j) (sym (add-zero a))
    column_there (suc m) a (suc k) h =
        let next : (a + 1) + k ≡ a + suc k = omega arith in
        column_there m (a + 1) k (omega arith) ∙ ap (λ j. Some j) next
