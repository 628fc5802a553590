-- The definitions in reach, each name replaced by its number, give the values of their layers.
use Rattle.std.specs.Prelude.{◌≡◌, ℕ, Bool, true, false, ◌&&◌, ◌||◌, List, [], ◌∷◌, ◌++◌, map, filter, fold, filter_map, bytes_eq, if◌then◌else◌}
use Rattle.std.specs.List.{list_all, AllByRecursion}
use Rattle.std.proofs.Common.{refl, ap, sym, ◌∙◌, subst, ⊎_elim, append_assoc, append-nil}
use Rattle.std.proofs.lemmas.Bool.{and_parts, or_cases, or_left, or_right, both_ways}
use Rattle.std.proofs.lemmas.List.{map-append}
use Rattle.std.proofs.lemmas.List.Folds.{list_all-append, list_any-append}
use Rattle.overlay_terms.specs.Plane.{Point}
use Rattle.overlay_terms.specs.Trees.{combined, Tree, leaf, combine, truth, leaves, relabel, Source, source_value, definition_values}
use Rattle.overlay_terms.specs.Layers.{Name, Content, base, derived, Layer, named, content_value, base_of, derived_of, source_of}
use Rattle.overlay_terms.specs.Orderly.{used_names, is_among, is_orderly_after}
use Rattle.overlay_terms.proofs.NameLemmas.{same_name, is_among-push}
use Rattle.overlay_terms.proofs.OrderlyLemmas.{orderly_splits}
use Rattle.overlay_terms.proofs.TableLemmas.{names_of, named-append}
use Rattle.overlay_terms.proofs.SourceLemmas.{Matches, source_reads}

-- a test of all follows from two others
list_all_both : {X : Type 0} (p q r : X → Bool) → ((x : X) → p x ≡ true → q x ≡ true → r x ≡ true) → (xs : List X) → list_all p xs ≡ true → list_all q xs ≡ true → list_all r xs ≡ true
list_all_both p q r h [] a b = refl
list_all_both p q r h (x ∷ xs) a b =
    let first = and_parts (p x) (list_all p xs) a in
    let second = and_parts (q x) (list_all q xs) b in
    ap (λ c. c && list_all r xs) (h x first.0 second.0) ∙ list_all_both p q r h xs first.1 second.1

-- an expression is the same where its leaves are
pub truth_same : {A : Type 0} (f g : A → Bool) (p : A → Bool) → ((x : A) → p x ≡ true → f x ≡ g x) → (t : Tree A) → list_all p (leaves t) ≡ true → truth f t ≡ truth g t
truth_same f g p h (leaf a) all = h a (and_parts (p a) true all).0
truth_same f g p h (combine o l r) all =
    let parts = and_parts (list_all p (leaves l)) (list_all p (leaves r)) (sym (list_all-append p (leaves l) (leaves r)) ∙ all) in
    ap (λ b. combined o b (truth f r)) (truth_same f g p h l parts.0) ∙ ap (combined o (truth g l)) (truth_same f g p h r parts.1)

-- an expression over other leaves
truth-relabel : {A B : Type 0} (f : B → Bool) (g : A → B) (t : Tree A) → truth f (relabel g t) ≡ truth (λ a. f (g a)) t
truth-relabel f g (leaf a) = refl
truth-relabel f g (combine o l r) =
    ap (λ b. combined o b (truth f (relabel g r))) (truth-relabel f g l) ∙ ap (combined o (truth (λ a. f (g a)) l)) (truth-relabel f g r)

-- a name among the first of some names is among all
among_append : (a b : List Name) (u : Name) → is_among a u ≡ true → is_among (a ++ b) u ≡ true
among_append a b u h = list_any-append (λ other. bytes_eq other u) a b ∙ or_left _ _ h

-- a layer's value is made of what stands beside the names that it uses
pub content_value_of_uses : (p : Point) (known more : List (Name × Bool)) (content : Content) → list_all (is_among (names_of known)) (used_names content) ≡ true → content_value p (known ++ more) content ≡ content_value p known content
content_value_of_uses p known more (base rings) h = refl
content_value_of_uses p known more (derived expression) h =
    truth_same (named false (known ++ more)) (named false known) (is_among (names_of known)) (λ u. named-append false known more u) expression h

-- the names of the base layers, and of the derived ones
abbrev pub base_names : List Layer → List Name
base_names layers = map (λ b. b.0) (filter_map base_of layers)

-- the names of the derived layers
abbrev pub derived_names : List Layer → List Name
derived_names layers = map (λ d. d.0) (filter_map derived_of layers)

-- the layers whose names pass a test
abbrev pub passing : (Name → Bool) → List Layer → List Layer
passing test layers = filter (λ layer. test layer.name) layers

-- a first layer whose name passes stays in front
pub passing_yes : (test : Name → Bool) (layer : Layer) (layers : List Layer) → test layer.name ≡ true → passing test (layer ∷ layers) ≡ layer ∷ passing test layers
passing_yes test layer layers e = ap (λ b. if b then layer ∷ passing test layers else passing test layers) e

-- a first layer whose name does not pass is left out
pub passing_no : (test : Name → Bool) (layer : Layer) (layers : List Layer) → test layer.name ≡ false → passing test (layer ∷ layers) ≡ passing test layers
passing_no test layer layers e = ap (λ b. if b then layer ∷ passing test layers else passing test layers) e

module _ (p : Point) (values : List (Name × Bool)) (reached : Name → Bool) (bits : ℕ → Bool) (bases definitions : List Name) where
  -- what stands beside a name in the table
  abbrev value : Name → Bool
  value name = named false values name

  -- a definition with its names replaced
  abbrev numbered : Name × Tree Name → Tree Source
  numbered d = relabel (source_of bases definitions) d.1

  -- how far the walk over the layers is: what is known before, and which of it are base layers and definitions in reach
  record Reaches (known before_bases before : List Name) (layers reachable : List Layer) : Type 0 where
    pub orderly : is_orderly_after known layers ≡ true
    pub rows : AllByRecursion (λ layer. value layer.name ≡ content_value p values layer.content) layers
    pub uses : AllByRecursion (λ layer. reached layer.name ≡ true → list_all reached (used_names layer.content) ≡ true) layers
    pub covered : (u : Name) → is_among known u ≡ true → reached u ≡ true → (is_among before_bases u || is_among before u) ≡ true
    pub bases_are : bases ≡ before_bases ++ base_names reachable
    pub definitions_are : definitions ≡ before ++ derived_names reachable

  -- the definitions after those known give the values of their layers
  abbrev Gives : List Name → List Layer → Type 0
  Gives before reachable =
      fold (λ known t. known ++ truth (source_value bits known) t ∷ []) (map value before) (map numbered (filter_map derived_of reachable)) ≡ map value (before ++ derived_names reachable)

  -- from any place of the walk on
  abbrev Walks : List Layer → Type 0
  Walks layers = (known before_bases before : List Name) → Reaches known before_bases before layers (passing reached layers) → Gives before (passing reached layers)

  -- a name in reach that is known reads its value
  leaf_reads : Matches value bits bases 0 → (known before_bases before : List Name) (layers reachable : List Layer) → Reaches known before_bases before layers reachable → (u : Name) → is_among known u ≡ true → reached u ≡ true → source_value bits (map value before) (source_of bases definitions u) ≡ value u
  leaf_reads matches known before_bases before layers reachable h u e r =
      source_reads value bits bases definitions before (derived_names reachable) u matches h.definitions_are
      (⊎_elim
      (λ b. or_left _ _ (ap (λ ns. is_among ns u) h.bases_are ∙ among_append before_bases (base_names reachable) u b))
      (λ d. or_right (is_among bases u) _ d)
      (or_cases (is_among before_bases u) (is_among before u) (h.covered u e r)))

  -- a definition with its names replaced gives the value of its layer
  definition_reads : Matches value bits bases 0 → (known before_bases before : List Name) (layers reachable : List Layer) → Reaches known before_bases before layers reachable → (expression : Tree Name) → list_all (is_among known) (leaves expression) ≡ true → list_all reached (leaves expression) ≡ true → truth (source_value bits (map value before)) (relabel (source_of bases definitions) expression) ≡ truth (named false values) expression
  definition_reads matches known before_bases before layers reachable h expression uses in_reach =
      truth-relabel (source_value bits (map value before)) (source_of bases definitions) expression
      ∙ truth_same (λ u. source_value bits (map value before) (source_of bases definitions u)) (named false values) (λ u. is_among known u && reached u)
      (λ u e. let parts = and_parts (is_among known u) (reached u) e in leaf_reads matches known before_bases before layers reachable h u parts.0 parts.1) expression
      (list_all_both (is_among known) reached (λ u. is_among known u && reached u) (λ u a b. ap (λ c. c && reached u) a ∙ b) (leaves expression) uses in_reach)

  -- a layer out of reach is passed over
  past_other : (known before_bases before : List Name) (layer : Layer) (layers reachable : List Layer) → reached layer.name ≡ false → Reaches known before_bases before (layer ∷ layers) reachable → Reaches (known ++ layer.name ∷ []) before_bases before layers reachable
  past_other known before_bases before layer layers reachable out h = record {
    orderly = (orderly_splits known layer layers h.orderly).rest;
    rows = h.rows.1;
    uses = h.uses.1;
    covered = λ u e r.
        ⊎_elim (λ old. h.covered u old r) (λ here. absurd (both_ways (reached layer.name) out (ap reached (same_name layer.name u here) ∙ r)))
        (or_cases (is_among known u) (bytes_eq layer.name u) (sym (is_among-push known layer.name u) ∙ e));
    bases_are = h.bases_are;
    definitions_are = h.definitions_are;
  }

  -- a base layer in reach is one more of those before
  past_base : (known before_bases before : List Name) (layer : Layer) (layers reachable : List Layer) → bases ≡ before_bases ++ layer.name ∷ base_names reachable → definitions ≡ before ++ derived_names reachable → Reaches known before_bases before (layer ∷ layers) (layer ∷ reachable) → Reaches (known ++ layer.name ∷ []) (before_bases ++ layer.name ∷ []) before layers reachable
  past_base known before_bases before layer layers reachable in_bases in_definitions h = record {
    orderly = (orderly_splits known layer layers h.orderly).rest;
    rows = h.rows.1;
    uses = h.uses.1;
    covered = λ u e r.
        ⊎_elim
        (λ old.
        ⊎_elim (λ b. or_left _ _ (among_append before_bases (layer.name ∷ []) u b)) (λ d. or_right (is_among (before_bases ++ layer.name ∷ []) u) _ d)
        (or_cases (is_among before_bases u) (is_among before u) (h.covered u old r)))
        (λ here. or_left _ _ (is_among-push before_bases layer.name u ∙ or_right (is_among before_bases u) _ here))
        (or_cases (is_among known u) (bytes_eq layer.name u) (sym (is_among-push known layer.name u) ∙ e));
    bases_are = in_bases ∙ sym (append_assoc before_bases (layer.name ∷ []) (base_names reachable));
    definitions_are = in_definitions;
  }

  -- a definition in reach is one more of those before
  past_definition : (known before_bases before : List Name) (layer : Layer) (layers reachable : List Layer) → bases ≡ before_bases ++ base_names reachable → definitions ≡ before ++ layer.name ∷ derived_names reachable → Reaches known before_bases before (layer ∷ layers) (layer ∷ reachable) → Reaches (known ++ layer.name ∷ []) before_bases (before ++ layer.name ∷ []) layers reachable
  past_definition known before_bases before layer layers reachable in_bases in_definitions h = record {
    orderly = (orderly_splits known layer layers h.orderly).rest;
    rows = h.rows.1;
    uses = h.uses.1;
    covered = λ u e r.
        ⊎_elim
        (λ old.
        ⊎_elim (λ b. or_left _ _ b) (λ d. or_right (is_among before_bases u) _ (among_append before (layer.name ∷ []) u d))
        (or_cases (is_among before_bases u) (is_among before u) (h.covered u old r)))
        (λ here. or_right (is_among before_bases u) _ (is_among-push before layer.name u ∙ or_right (is_among before u) _ here))
        (or_cases (is_among known u) (bytes_eq layer.name u) (sym (is_among-push known layer.name u) ∙ e));
    bases_are = in_bases;
    definitions_are = in_definitions ∙ sym (append_assoc before (layer.name ∷ []) (derived_names reachable));
  }

  -- one more definition in front
  gives_first : Matches value bits bases 0 → (known before_bases before : List Name) (name : Name) (expression : Tree Name) (layers reachable : List Layer) → reached name ≡ true → Reaches known before_bases before (record { name = name; content = derived expression } ∷ layers) (record { name = name; content = derived expression } ∷ reachable) →
      Gives (before ++ name ∷ []) reachable → Gives before (record { name = name; content = derived expression } ∷ reachable)
  gives_first matches known before_bases before name expression layers reachable r h later =
      let layer : Layer = record { name = name; content = derived expression } in
      let first : truth (source_value bits (map value before)) (relabel (source_of bases definitions) expression) ≡ value name =
      definition_reads matches known before_bases before (layer ∷ layers) (layer ∷ reachable) h expression (orderly_splits known layer layers h.orderly).first.uses_known (h.uses.0 r) ∙ sym h.rows.0 in
      ap (λ bs. fold (λ known t. known ++ truth (source_value bits known) t ∷ []) bs (map numbered (filter_map derived_of reachable)))
      (ap (λ b. map value before ++ b ∷ []) first ∙ sym (map-append value before (name ∷ [])))
      ∙ later
      ∙ ap (map value) (append_assoc before (name ∷ []) (derived_names reachable))

  -- the walk over one more layer
  walk_first : Matches value bits bases 0 → (name : Name) (content : Content) (layers : List Layer) (b : Bool) → reached name ≡ b → Walks layers → Walks (record { name = name; content = content } ∷ layers)
  walk_first matches name content layers false out again known before_bases before h =
      let layer : Layer = record { name = name; content = content } in
      let less = passing_no reached layer layers out in
      subst (Gives before) (sym less)
      (again (known ++ name ∷ []) before_bases before (past_other known before_bases before layer layers (passing reached layers) out (subst (Reaches known before_bases before (layer ∷ layers)) less h)))
  walk_first matches name (base rings) layers true r again known before_bases before h =
      let layer : Layer = record { name = name; content = base rings } in
      let more = passing_yes reached layer layers r in
      let here = subst (Reaches known before_bases before (layer ∷ layers)) more h in
      subst (Gives before) (sym more)
      (again (known ++ name ∷ []) (before_bases ++ name ∷ []) before (past_base known before_bases before layer layers (passing reached layers) here.bases_are here.definitions_are here))
  walk_first matches name (derived expression) layers true r again known before_bases before h =
      let layer : Layer = record { name = name; content = derived expression } in
      let more = passing_yes reached layer layers r in
      let here = subst (Reaches known before_bases before (layer ∷ layers)) more h in
      subst (Gives before) (sym more)
      (gives_first matches known before_bases before name expression layers (passing reached layers) r here
      (again (known ++ name ∷ []) before_bases (before ++ name ∷ []) (past_definition known before_bases before layer layers (passing reached layers) here.bases_are here.definitions_are here)))

  -- the walk over all layers
  walk : Matches value bits bases 0 → (layers : List Layer) → Walks layers
  walk matches [] known before_bases before h = ap (map value) (sym (append-nil before))
  walk matches (layer ∷ layers) known before_bases before h =
      walk_first matches layer.name layer.content layers (reached layer.name) refl (walk matches layers) known before_bases before h

  -- the definitions in reach give the values of their layers
  pub definitions_give : (layers : List Layer) → Matches value bits bases 0 → is_orderly_after [] layers ≡ true → AllByRecursion (λ layer. value layer.name ≡ content_value p values layer.content) layers →
      AllByRecursion (λ layer. reached layer.name ≡ true → list_all reached (used_names layer.content) ≡ true) layers → bases ≡ base_names (passing reached layers) → definitions ≡ derived_names (passing reached layers) →
      definition_values bits (map numbered (filter_map derived_of (passing reached layers))) ≡ map value (derived_names (passing reached layers))
  definitions_give layers matches orderly rows uses bases_are definitions_are =
      walk matches layers [] [] [] (record { orderly = orderly; rows = rows; uses = uses; covered = λ u e r. e; bases_are = bases_are; definitions_are = definitions_are })
