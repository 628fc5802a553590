-- How the answers of layers grow with the layers.
use Rattle.std.proofs.Common.{◌≡◌, ℕ, zero, suc, ◌+◌, ◌<◌, ◌≤◌, Bool, true, false, cond, List, [], ◌∷◌, ◌++◌, length, take, slice_get, unwrap_or, Some, get_or, set, refl, ap, sym, ◌∙◌, arith, add-one, bytes_eq}
use Rattle.std.specs.List.{list_any}
use Rattle.std.specs.Option.{option_map_or}
use Rattle.std.proofs.lemmas.List.{take_more_set}
use Rattle.std.proofs.lemmas.Grind.{common_steps}
use Rattle.std.proofs.lemmas.List.Sums.{fold_push}
use Rattle.overlay_terms.specs.Plane.{Point}
use Rattle.overlay_terms.specs.Trees.{Tree, truth, leaves}
use Rattle.overlay_terms.specs.Layers.{Name, base, Layer, named}
use Rattle.overlay_terms.specs.Commands.{index_of}
use Rattle.layer_book.specs.Question.{Question, content_answer, answers, labelled, if_wanted, wanted_layers, content_at}

-- what is beside a name is what is at its index
named_by_index : (layers : List Layer) (known : List Bool) (used : Name) → length known ≤ length layers → named false (labelled layers known) used ≡ unwrap_or (slice_get known (index_of layers used)) false
named_by_index [] [] used h = refl
named_by_index [] (v ∷ vs) used h = absurd (omega arith)
named_by_index (layer ∷ layers) [] used h = refl
named_by_index (layer ∷ layers) (v ∷ vs) used h = split (bytes_eq layer.name used) (named_by_index layers vs used (omega arith)) where
  split : (b : Bool) → named false (labelled layers vs) used ≡ unwrap_or (slice_get vs (index_of layers used)) false → cond b v (named false (labelled layers vs) used) ≡ unwrap_or (slice_get (v ∷ vs) (cond b 0 (index_of layers used + 1))) false
  split true e = refl
  split false e = rw add-one e

module _ (layers : List Layer) (known : List Bool) (h : length known ≤ length layers) where
  by_index : (λ (used : Name). unwrap_or (slice_get known (index_of layers used)) false) ≡ named false (labelled layers known)
  by_index j used = sym (named_by_index layers known used h) j

  pub inside_by_index : (t u : Tree Name) → t ≡ u → truth (λ used. unwrap_or (slice_get known (index_of layers used)) false) t ≡ truth (named false (labelled layers known)) u
  inside_by_index t u e = ap (λ at. truth at t) by_index ∙ ap (truth (named false (labelled layers known))) e

  pub edge_by_index : (t u : Tree Name) → t ≡ u → list_any (λ used. unwrap_or (slice_get known (index_of layers used)) false) (leaves t) ≡ list_any (named false (labelled layers known)) (leaves u)
  edge_by_index t u e = ap (λ at. list_any at (leaves t)) by_index ∙ ap (λ v. list_any (named false (labelled layers known)) (leaves v)) e

pub layer_there : (layers : List Layer) (i : ℕ) → i < length layers → (layer : Layer) × (slice_get layers i ≡ Some layer)
layer_there [] i h = absurd (omega arith)
layer_there (layer ∷ layers) zero h = (layer, refl)
layer_there (layer ∷ layers) (suc i) h = layer_there layers i (omega arith)

read_there : (ws : List Bool) (i : ℕ) → i < length ws → slice_get ws i ≡ Some (get_or ws i false)
read_there [] i h = absurd (omega arith)
read_there (w ∷ ws) zero h = refl
read_there (w ∷ ws) (suc i) h = read_there ws i (omega arith)

wanted_there : (ws : List Bool) (layers : List Layer) (i : ℕ) (layer : Layer) (w : Bool) → slice_get layers i ≡ Some layer → slice_get ws i ≡ Some w → slice_get (wanted_layers ws layers) i ≡ Some (record { name = layer.name; content = if_wanted w layer.content })
wanted_there [] layers i layer w e f = cc
wanted_there (v ∷ ws) [] i layer w e f = cc
wanted_there (v ∷ ws) (l ∷ layers) zero layer w e f =
    let same : l ≡ layer = cc in
    let alike : v ≡ w = cc in
    ap (λ (m : Layer). Some (record { name = m.name; content = if_wanted v m.content })) same ∙ ap (λ b. Some (record { name = layer.name; content = if_wanted b layer.content })) alike
wanted_there (v ∷ ws) (l ∷ layers) (suc i) layer w e f = wanted_there ws layers i layer w e f

pub take_there : {X : Type 0} (xs : List X) (i : ℕ) (x : X) → slice_get xs i ≡ Some x → take (suc i) xs ≡ take i xs ++ x ∷ []
take_there [] i x e = cc
take_there (y ∷ xs) zero x e =
    let same : y ≡ x = cc in
    ap (λ z. z ∷ []) same
take_there (y ∷ xs) (suc i) x e = ap (λ ys. y ∷ ys) (take_there xs i x e)

pub labelled-nil : (layers : List Layer) → labelled layers [] ≡ []
labelled-nil [] = refl
labelled-nil (layer ∷ layers) = refl

pub labelled_more : (layers : List Layer) (known : List Bool) (i : ℕ) (layer : Layer) (v : Bool) → length known ≡ i → slice_get layers i ≡ Some layer → labelled layers (known ++ v ∷ []) ≡ labelled layers known ++ (layer.name, v) ∷ []
labelled_more [] known i layer v n e = cc
labelled_more (l ∷ layers) [] zero layer v n e =
    let same : l ≡ layer = cc in
    ap (λ more. (l.name, v) ∷ more) (labelled-nil layers) ∙ ap (λ (m : Layer). (m.name, v) ∷ []) same
labelled_more (l ∷ layers) [] (suc i) layer v n e = absurd (omega arith)
labelled_more (l ∷ layers) (k ∷ known) zero layer v n e = absurd (omega arith)
labelled_more (l ∷ layers) (k ∷ known) (suc i) layer v n e = ap (λ ys. (l.name, k) ∷ ys) (labelled_more layers known i layer v (omega arith) e)

-- a step of the loop over the layers
answers_more : (question : Question) (ws : List Bool) (layers : List Layer) (p : Point) (known : List Bool) (i : ℕ) (w v : Bool) → i < length layers → length known ≡ i → slice_get ws i ≡ Some w → answers question (take i (wanted_layers ws layers)) p ≡ labelled layers known → v ≡ content_answer question p (labelled layers known) (if_wanted w (content_at layers i)) → answers question (take (suc i) (wanted_layers ws layers)) p ≡ labelled layers (known ++ v ∷ [])
answers_more question ws layers p known i w v h n ew so_far ev =
    let there = layer_there layers i h in
    let layer : Layer = there.0 in
    let blank : Layer = record { name = layer.name; content = if_wanted w layer.content } in
    let made : content_at layers i ≡ layer.content = ap (λ o. option_map_or (λ (l : Layer). l.content) o (base [])) there.1 in
    ap (λ ls. answers question ls p) (take_there (wanted_layers ws layers) i blank (wanted_there ws layers i layer w there.1 ew))
    ∙ fold_push (λ known (layer : Layer). known ++ (layer.name, content_answer question p known layer.content) ∷ []) [] (take i (wanted_layers ws layers)) blank
    ∙ ap (λ so. so ++ (layer.name, content_answer question p so (if_wanted w layer.content)) ∷ []) so_far
    ∙ ap (λ b. labelled layers known ++ (layer.name, b) ∷ []) (sym (ev ∙ ap (λ c. content_answer question p (labelled layers known) (if_wanted w c)) made))
    ∙ sym (labelled_more layers known i layer v n there.1)

-- the same where the answers are written into a table
pub table_more : (question : Question) (ws : List Bool) (layers : List Layer) (p : Point) (known : List Bool) (i : ℕ) (v : Bool) → i < length layers → i < length ws → i < length known → answers question (take i (wanted_layers ws layers)) p ≡ labelled layers (take i known) → v ≡ content_answer question p (labelled layers (take i known)) (if_wanted (get_or ws i false) (content_at layers i)) → answers question (take (i + 1) (wanted_layers ws layers)) p ≡ labelled layers (take (i + 1) (set known i v))
table_more question ws layers p known i v h hw hk so_far ev =
    let n : length (take i known) ≡ i = grind (arith, common_steps) in
    ap (λ k. answers question (take k (wanted_layers ws layers)) p) (add-one i) ∙ answers_more question ws layers p (take i known) i (get_or ws i false) v h n (read_there ws i hw) so_far ev
    ∙ ap (labelled layers) (sym (take_more_set known i v hk))

whole : (ws : List Bool) (layers : List Layer) → length layers ≤ length ws → take (length layers) (wanted_layers ws layers) ≡ wanted_layers ws layers
whole [] [] h = refl
whole [] (layer ∷ layers) h = absurd (omega arith)
whole (w ∷ ws) [] h = refl
whole (w ∷ ws) (layer ∷ layers) h = ap (λ ls. record { name = layer.name; content = if_wanted w layer.content } ∷ ls) (whole ws layers (omega arith))

pub labelled_whole : (layers : List Layer) (known : List Bool) → labelled layers (take (length layers) known) ≡ labelled layers known
labelled_whole [] known = refl
labelled_whole (layer ∷ layers) [] = refl
labelled_whole (layer ∷ layers) (k ∷ known) = ap (λ ls. (layer.name, k) ∷ ls) (labelled_whole layers known)

-- the table when all layers have answered
pub table_whole : (question : Question) (ws : List Bool) (layers : List Layer) (p : Point) (known : List Bool) (i : ℕ) → i ≡ length layers → length layers ≤ length ws → answers question (take i (wanted_layers ws layers)) p ≡ labelled layers (take i known) → labelled layers known ≡ answers question (wanted_layers ws layers) p
table_whole question ws layers p known i e h so_far =
    sym (labelled_whole layers known) ∙ ap (λ n. labelled layers (take n known)) (sym e) ∙ sym so_far ∙ ap (λ n. answers question (take n (wanted_layers ws layers)) p) e ∙ ap (λ ls. answers question ls p) (whole ws layers h)
