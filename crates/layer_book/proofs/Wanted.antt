-- Layers that are not wanted change no answer of a wanted one.
use Rattle.std.proofs.Common.{◌≡◌, ℕ, zero, suc, ◌+◌, ◌≤◌, Bool, true, false, cond, ◌||◌, List, [], ◌∷◌, ◌++◌, length, fold, slice_get, Some, refl, ap, sym, ◌∙◌, subst, arith, add-one, bytes_eq}
use Rattle.std.specs.List.{list_any, list_all}
use Rattle.std.specs.Option.{option_map}
use Rattle.std.proofs.lemmas.Bool.{and_parts, or_left, or_right, both_ways, false_from_ne_true}
use Rattle.std.proofs.lemmas.List.Folds.{list_all-append}
use Rattle.overlay_terms.specs.Plane.{Point}
use Rattle.overlay_terms.specs.Trees.{Tree, leaf, combine, combined, truth, leaves}
use Rattle.overlay_terms.specs.Layers.{Name, Content, base, derived, Layer, named}
use Rattle.overlay_terms.specs.Commands.{index_of, stands}
use Rattle.overlay_terms.specs.Orderly.{used_names, is_orderly_after}
use Rattle.layer_book.specs.Question.{Question, IsInside, IsEdge, content_answer, answers, labelled, if_wanted, wanted_layers, at_index, is_wanted, NamesAreWanted}
use Rattle.layer_book.proofs.Names.{same_name, own_name}
use Rattle.layer_book.specs.Layer.{content_named}
use Rattle.layer_book.proofs.Order.{head_of, apart}

-- where there is a layer of a name, what is beside it is what is at its index
pub named_at : (layers : List Layer) (known : List Bool) (name : Name) → stands layers name ≡ true → named false (labelled layers known) name ≡ at_index known (index_of layers name)
named_at [] known name h = cc
named_at (layer ∷ layers) [] name h = refl
named_at (layer ∷ layers) (v ∷ vs) name h = split (bytes_eq layer.name name) h (named_at layers vs name) where
  split : (b : Bool) → (b || stands layers name) ≡ true → (stands layers name ≡ true → named false (labelled layers vs) name ≡ at_index vs (index_of layers name)) → cond b v (named false (labelled layers vs) name) ≡ at_index (v ∷ vs) (cond b 0 (index_of layers name + 1))
  split true h next = refl
  split false h next = rw add-one (next h)

named-push : (absent : Bool) (known : List (Name × Bool)) (x : Name) (v : Bool) (n : Name) → named absent (known ++ (x, v) ∷ []) n ≡ named (cond (bytes_eq x n) v absent) known n
named-push absent [] x v n = refl
named-push absent (e ∷ known) x v n = ap (λ rest. cond (bytes_eq e.0 n) e.1 rest) (named-push absent known x v n)

module _ (is_in : Name → Bool) where
  -- the same answers for the names that pass
  abbrev Agree : List (Name × Bool) → List (Name × Bool) → Type 0
  Agree known other = (absent : Bool) (n : Name) → is_in n ≡ true → named absent known n ≡ named absent other n

  truth_where : (f g : Name → Bool) → ((n : Name) → is_in n ≡ true → f n ≡ g n) → (t : Tree Name) → list_all is_in (leaves t) ≡ true → truth f t ≡ truth g t
  truth_where f g h (leaf n) a = h n (and_parts (is_in n) true a).0
  truth_where f g h (combine o l r) a =
      let both = and_parts (list_all is_in (leaves l)) (list_all is_in (leaves r)) (sym (list_all-append is_in (leaves l) (leaves r)) ∙ a) in
      ap (λ b. combined o b (truth f r)) (truth_where f g h l both.0) ∙ ap (combined o (truth g l)) (truth_where f g h r both.1)

  any_where : (f g : Name → Bool) → ((n : Name) → is_in n ≡ true → f n ≡ g n) → (ns : List Name) → list_all is_in ns ≡ true → list_any f ns ≡ list_any g ns
  any_where f g h [] a = refl
  any_where f g h (n ∷ ns) a =
      let both = and_parts (is_in n) (list_all is_in ns) a in
      ap (λ b. b || list_any f ns) (h n both.0) ∙ ap (λ b. g n || b) (any_where f g h ns both.1)

  answer_where : (question : Question) (p : Point) (known other : List (Name × Bool)) (content : Content) → Agree known other → list_all is_in (used_names content) ≡ true → content_answer question p known content ≡ content_answer question p other content
  answer_where IsInside p known other (base rings) h a = refl
  answer_where IsInside p known other (derived e) h a = truth_where (named false known) (named false other) (h false) e a
  answer_where IsEdge p known other (base rings) h a = refl
  answer_where IsEdge p known other (derived e) h a = any_where (named false known) (named false other) (h false) (leaves e) a

  -- each layer's mark is that of its name, and a marked layer names marked ones
  abbrev Marks : List Bool → List Layer → Type 0
  Marks [] [] = Unit {0}
  Marks [] (layer ∷ layers) = ⊥
  Marks (w ∷ ws) [] = Unit {0}
  Marks (w ∷ ws) (layer ∷ layers) = (is_in layer.name ≡ w) × (w ≡ true → list_all is_in (used_names layer.content) ≡ true) × Marks ws layers

  agree_push : (known other : List (Name × Bool)) (x : Name) (v u : Bool) → Agree known other → (is_in x ≡ true → v ≡ u) → Agree (known ++ (x, v) ∷ []) (other ++ (x, u) ∷ [])
  agree_push known other x v u h e absent n is =
      named-push absent known x v n ∙ h (cond (bytes_eq x n) v absent) n is ∙ split (bytes_eq x n) refl ∙ sym (named-push absent other x u n)
    where
      split : (b : Bool) → bytes_eq x n ≡ b → named (cond b v absent) other n ≡ named (cond b u absent) other n
      split true at = ap (λ c. named c other n) (e (subst (λ m. is_in m ≡ true) (sym (same_name x n at)) is))
      split false at = refl

  agree_all : (question : Question) (p : Point) (ws : List Bool) (layers : List Layer) (known other : List (Name × Bool)) → Marks ws layers → Agree known other → Agree (fold (λ known layer. known ++ (layer.name, content_answer question p known layer.content) ∷ []) known (wanted_layers ws layers)) (fold (λ known layer. known ++ (layer.name, content_answer question p known layer.content) ∷ []) other layers)
  agree_all question p [] [] known other m h = h
  agree_all question p [] (layer ∷ layers) known other m h = absurd m
  agree_all question p (w ∷ ws) [] known other m h = h
  agree_all question p (w ∷ ws) (layer ∷ layers) known other m h =
      agree_all question p ws layers _ _ m.2 (agree_push known other layer.name _ _ h (λ is. same w (sym m.0 ∙ is) (m.1 (sym m.0 ∙ is))))
    where
      same : (b : Bool) → b ≡ true → list_all is_in (used_names layer.content) ≡ true → content_answer question p known (if_wanted b layer.content) ≡ content_answer question p other layer.content
      same true e a = answer_where question p known other layer.content h a
      same false e a = cc

pub stands_at : (layers : List Layer) (i : ℕ) (layer : Layer) → slice_get layers i ≡ Some layer → stands layers layer.name ≡ true
stands_at [] i layer e = cc
stands_at (l ∷ layers) zero layer e =
    let same : l ≡ layer = cc in
    subst (λ (m : Layer). stands (l ∷ layers) m.name ≡ true) same (or_left _ _ (own_name l.name))
stands_at (l ∷ layers) (suc i) layer e = or_right _ _ (stands_at layers i layer e)

-- the index of the layer at an index
pub index_at : (known : List Name) (layers : List Layer) (i : ℕ) (layer : Layer) → is_orderly_after known layers ≡ true → slice_get layers i ≡ Some layer → index_of layers layer.name ≡ i
index_at known [] i layer h e = cc
index_at known (l ∷ layers) zero layer h e =
    let same : l ≡ layer = cc in
    subst (λ (m : Layer). index_of (l ∷ layers) m.name ≡ 0) same (ap (λ b. cond b 0 (index_of layers l.name + 1)) (own_name l.name))
index_at known (l ∷ layers) (suc i) layer h e =
    let other : bytes_eq l.name layer.name ≡ false = false_from_ne_true _ (λ same. both_ways (stands layers l.name) (apart known l layers h) (subst (λ n. stands layers n ≡ true) (sym (same_name l.name layer.name same)) (stands_at layers i layer e))) in
    let next : index_of layers layer.name ≡ i = index_at (known ++ l.name ∷ []) layers i layer (head_of known l layers h).behind e in
    ap (λ b. cond b 0 (index_of layers layer.name + 1)) other ∙ omega arith

-- where the layer at an index has another name, and none before it has the name, the name's index is greater
pub index_behind : (layers : List Layer) (name : Name) (i : ℕ) (layer : Layer) → slice_get layers i ≡ Some layer → bytes_eq layer.name name ≡ false → i ≤ index_of layers name → i + 1 ≤ index_of layers name
index_behind [] name i layer e other h = cc
index_behind (l ∷ layers) name zero layer e other h =
    let same : l ≡ layer = cc in
    let here : bytes_eq l.name name ≡ false = subst (λ (m : Layer). bytes_eq m.name name ≡ false) (sym same) other in
    rw here (omega arith)
index_behind (l ∷ layers) name (suc i) layer e other h =
    split (bytes_eq l.name name) h (λ within. index_behind layers name i layer e other within) where
      split : (b : Bool) → suc i ≤ cond b 0 (index_of layers name + 1) → (i ≤ index_of layers name → i + 1 ≤ index_of layers name) → suc i + 1 ≤ cond b 0 (index_of layers name + 1)
      split true h next = absurd (omega (arith, h))
      split false h next = omega (arith, next (omega (arith, h)))

-- the layer at an index that has the name is the name's
pub index_here : (layers : List Layer) (name : Name) (i : ℕ) (layer : Layer) → is_orderly_after [] layers ≡ true → slice_get layers i ≡ Some layer → bytes_eq layer.name name ≡ true → (stands layers name ≡ true) × (index_of layers name ≡ i)
index_here layers name i layer h e same =
    let named : layer.name ≡ name = same_name layer.name name same in
    (subst (λ n. stands layers n ≡ true) named (stands_at layers i layer e), subst (λ n. index_of layers n ≡ i) named (index_at [] layers i layer h e))

-- what is at a name's index is what is under the name
pub content_there : (layers : List Layer) (name : Name) → option_map (λ (layer : Layer). layer.content) (slice_get layers (index_of layers name)) ≡ content_named layers name
content_there [] name = refl
content_there (l ∷ layers) name = split (bytes_eq l.name name) (content_there layers name) where
  split : (b : Bool) → option_map (λ (layer : Layer). layer.content) (slice_get layers (index_of layers name)) ≡ content_named layers name
      → option_map (λ (layer : Layer). layer.content) (slice_get (l ∷ layers) (cond b 0 (index_of layers name + 1))) ≡ cond b (Some l.content) (content_named layers name)
  split true next = refl
  split false next = ap (λ i. option_map (λ (layer : Layer). layer.content) (slice_get (l ∷ layers) i)) (add-one (index_of layers name)) ∙ next

marks_from : (is_in : Name → Bool) (ws : List Bool) (layers : List Layer) → ((i : ℕ) (layer : Layer) → slice_get layers i ≡ Some layer → (is_in layer.name ≡ at_index ws i) × (at_index ws i ≡ true → list_all is_in (used_names layer.content) ≡ true)) → length layers ≤ length ws → Marks is_in ws layers
marks_from is_in [] [] f h = tt
marks_from is_in [] (layer ∷ layers) f h = absurd (omega arith)
marks_from is_in (w ∷ ws) [] f h = tt
marks_from is_in (w ∷ ws) (layer ∷ layers) f h =
    let here = f zero layer refl in
    (here.0, here.1, marks_from is_in ws layers (λ i other e. f (suc i) other e) (omega arith))

marks_hold : (layers : List Layer) (ws : List Bool) → is_orderly_after [] layers ≡ true → length layers ≤ length ws → NamesAreWanted layers ws → Marks (is_wanted layers ws) ws layers
marks_hold layers ws h n closed =
    marks_from (is_wanted layers ws) ws layers (λ i layer e. (ap (at_index ws) (index_at [] layers i layer h e), closed i layer e)) n

-- the answer of a wanted layer
pub wanted_answer : (question : Question) (p : Point) (layers : List Layer) (ws known : List Bool) (name : Name) → is_orderly_after [] layers ≡ true → length layers ≤ length ws → NamesAreWanted layers ws → stands layers name ≡ true → is_wanted layers ws name ≡ true → labelled layers known ≡ answers question (wanted_layers ws layers) p → at_index known (index_of layers name) ≡ named false (answers question layers p) name
wanted_answer question p layers ws known name h n closed s w e =
    sym (named_at layers known name s) ∙ ap (λ found. named false found name) e ∙ agree_all (is_wanted layers ws) question p ws layers [] [] (marks_hold layers ws h n closed) (λ absent m is. refl) false name w
