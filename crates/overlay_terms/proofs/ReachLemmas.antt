-- What a layer reaches: with a layer the layers that it uses, and nothing that comes after it.
use Rattle.std.specs.Prelude.{◌≡◌, Bool, true, ◌&&◌, ◌||◌, List, [], ◌∷◌, ◌++◌, filter, flat_map, bytes_eq, if◌then◌else◌}
use Rattle.std.specs.List.{list_any, list_all, AllByRecursion}
use Rattle.std.proofs.Common.{refl, ap, sym, ◌∙◌, subst, ⊎_elim}
use Rattle.std.proofs.lemmas.Bool.{and_parts, or_cases, or_left, or_right, both_ways, false_from_ne_true}
use Rattle.std.proofs.lemmas.List.Folds.{list_any-append}
use Rattle.overlay_terms.specs.Trees.{leaves}
use Rattle.overlay_terms.specs.Layers.{Name, Content, base, derived, Layer, named, content_reach}
use Rattle.overlay_terms.specs.Orderly.{used_names, is_among, is_orderly_after}
use Rattle.overlay_terms.proofs.NameLemmas.{same_name, name_itself, or_false, list_all_so, is_among-push}
use Rattle.overlay_terms.proofs.OrderlyLemmas.{orderly_splits, is_known, is_known-cons}
use Rattle.overlay_terms.proofs.TableLemmas.{names_of, named-append}

-- whether a name is one of some names
abbrev pub has_name : List Name → Name → Bool
has_name names n = list_any (bytes_eq n) names

-- lists made of equal lists
flat_map_same : {X A : Type 0} (f g : X → List A) (p : X → Bool) → ((x : X) → p x ≡ true → f x ≡ g x) → (xs : List X) → list_all p xs ≡ true → flat_map f xs ≡ flat_map g xs
flat_map_same f g p h [] all = refl
flat_map_same f g p h (x ∷ xs) all =
    let parts = and_parts (p x) (list_all p xs) all in
    ap (λ ys. ys ++ flat_map f xs) (h x parts.0) ∙ ap (λ ys. g x ++ ys) (flat_map_same f g p h xs parts.1)

-- a test of one in lists put end to end
pub any-flat_map : {X A : Type 0} (test : A → Bool) (f : X → List A) (xs : List X) → list_any test (flat_map f xs) ≡ list_any (λ x. list_any test (f x)) xs
any-flat_map test f [] = refl
any-flat_map test f (x ∷ xs) = list_any-append test (f x) (flat_map f xs) ∙ ap (λ b. list_any test (f x) || b) (any-flat_map test f xs)

-- a test of one follows from another test of one, and from one that all pass
any_so : {X : Type 0} (p q r : X → Bool) → ((x : X) → p x ≡ true → q x ≡ true → r x ≡ true) → (xs : List X) → list_all p xs ≡ true → list_any q xs ≡ true → list_any r xs ≡ true
any_so p q r h [] all some = some
any_so p q r h (x ∷ xs) all some =
    let parts = and_parts (p x) (list_all p xs) all in
    ⊎_elim (λ e. or_left _ _ (h x parts.0 e)) (λ e. or_right (r x) _ (any_so p q r h xs parts.1 e)) (or_cases (q x) (list_any q xs) some)

-- what follows at each that passes, where one passes
one_of_all : {X : Type 0} (p q : X → Bool) (b : Bool) → ((x : X) → p x ≡ true → q x ≡ true → b ≡ true) → (xs : List X) → list_all p xs ≡ true → list_any q xs ≡ true → b ≡ true
one_of_all p q b h [] all some = absurd (cc)
one_of_all p q b h (x ∷ xs) all some =
    let parts = and_parts (p x) (list_all p xs) all in
    ⊎_elim (λ e. h x parts.0 e) (λ e. one_of_all p q b h xs parts.1 e) (or_cases (q x) (list_any q xs) some)

-- where each passes a test with itself, each passes it with one of all
all_with_one : {X : Type 0} (test : X → X → Bool) (xs : List X) → list_all (λ x. test x x) xs ≡ true → list_all (λ x. list_any (λ y. test y x) xs) xs ≡ true
all_with_one test [] all = refl
all_with_one test (x ∷ xs) all =
    let parts = and_parts (test x x) (list_all (λ y. test y y) xs) all in
    ap (λ b. (b || list_any (λ y. test y x) xs) && list_all (λ z. test x z || list_any (λ y. test y z) xs) xs) parts.0
    ∙ list_all_so (λ z. list_any (λ y. test y z) xs) (λ z. test x z || list_any (λ y. test y z) xs) (λ z e. or_right (test x z) _ e) xs (all_with_one test xs parts.1)

-- what a layer reaches is made of what stands beside the names that it uses
pub content_reach_of_uses : (known more : List (Name × List Name)) (name : Name) (content : Content) → list_all (is_among (names_of known)) (used_names content) ≡ true → content_reach name (known ++ more) content ≡ content_reach name known content
content_reach_of_uses known more name (base rings) h = refl
content_reach_of_uses known more name (derived expression) h =
    ap (λ ns. name ∷ ns) (flat_map_same (named [] (known ++ more)) (named [] known) (is_among (names_of known)) (λ u. named-append [] known more u) (leaves expression) h)

-- what all known names have, one more has too
pub known_push : (P : Name → Type 0) (known : List Name) (m : Name) → ((n : Name) → is_among known n ≡ true → P n) → P m → (n : Name) → is_among (known ++ m ∷ []) n ≡ true → P n
known_push P known m all_known last n e =
    ⊎_elim (λ old. all_known n old) (λ here. subst P (same_name m n here) last) (or_cases (is_among known n) (bytes_eq m n) (sym (is_among-push known m n) ∙ e))

-- where only known names pass a test, no layer after them does
pub none_behind : (test : Name → Bool) (layers : List Layer) (known : List Name) → ((m : Name) → test m ≡ true → is_among known m ≡ true) → is_orderly_after known layers ≡ true → filter (λ layer. test layer.name) layers ≡ []
none_behind test [] known h orderly = refl
none_behind test (layer ∷ layers) known h orderly =
    let parts = orderly_splits known layer layers orderly in
    let out = false_from_ne_true (test layer.name) (λ e. both_ways (is_among known layer.name) parts.first.new_name (h layer.name e)) in
    ap (λ b. if b then layer ∷ filter (λ l. test l.name) layers else filter (λ l. test l.name) layers) out
    ∙ none_behind test layers (known ++ layer.name ∷ []) (λ m e. is_among-push known layer.name m ∙ or_left _ _ (h m e)) parts.rest

module _ (T : List (Name × List Name)) where
  -- what the name reaches is what its content does
  abbrev pub IsReachRow : Name → Content → Type 0
  IsReachRow name content = named [] T name ≡ content_reach name T content

  -- the same for each of some layers
  abbrev pub AreReachRows : List Layer → Type 0
  AreReachRows layers = AllByRecursion (λ layer. named [] T layer.name ≡ content_reach layer.name T layer.content) layers

  -- whether a name is reached from another
  abbrev pub is_reached : Name → Name → Bool
  is_reached from name = has_name (named [] T from) name

  -- what is reached from a reached name is reached
  abbrev pub ReachesOn : Name → Type 0
  ReachesOn n = (m k : Name) → is_reached n m ≡ true → is_reached m k ≡ true → is_reached n k ≡ true

  -- a name that is the layer's own reaches what the layer does
  own_reach : (name m k : Name) → bytes_eq m name ≡ true → is_reached m k ≡ true → is_reached name k ≡ true
  own_reach name m k e h = subst (λ n. is_reached n k ≡ true) (same_name m name e) h

  -- a definition reaches what a leaf reaches
  from_leaf : (name k : Name) (us : List Name) → named [] T name ≡ name ∷ flat_map (named [] T) us → list_any (λ u. is_reached u k) us ≡ true → is_reached name k ≡ true
  from_leaf name k us row h =
      ap (λ ns. has_name ns k) row ∙ or_right (bytes_eq k name) _ (any-flat_map (bytes_eq k) (named [] T) us ∙ h)

  -- a layer reaches on where the layers that it uses do
  closed_row : (known : List Name) (name : Name) (content : Content) → IsReachRow name content → list_all (is_among known) (used_names content) ≡ true → ((n : Name) → is_among known n ≡ true → ReachesOn n) → ReachesOn name
  closed_row known name (base rings) row uses closed m k hm hk =
      own_reach name m k (sym (or_false (bytes_eq m name)) ∙ sym (ap (λ ns. has_name ns m) row) ∙ hm) hk
  closed_row known name (derived expression) row uses closed m k hm hk =
      ⊎_elim (λ own. own_reach name m k own hk)
      (λ some.
      from_leaf name k (leaves expression) row
      (any_so (is_among known) (λ u. is_reached u m) (λ u. is_reached u k) (λ u e through. closed u e m k through hk) (leaves expression) uses
      (sym (any-flat_map (bytes_eq m) (named [] T) (leaves expression)) ∙ some)))
      (or_cases (bytes_eq m name) (has_name (flat_map (named [] T) (leaves expression)) m) (sym (ap (λ ns. has_name ns m) row) ∙ hm))

  -- a layer reaches itself
  itself_row : (name : Name) (content : Content) → IsReachRow name content → is_reached name name ≡ true
  itself_row name (base rings) row = ap (λ ns. has_name ns name) row ∙ or_left _ _ (name_itself name)
  itself_row name (derived expression) row = ap (λ ns. has_name ns name) row ∙ or_left _ _ (name_itself name)

  -- a layer that is there reaches all that is reached from what it reaches
  pub closed_all : (layers : List Layer) (known : List Name) → is_orderly_after known layers ≡ true → AreReachRows layers → ((n : Name) → is_among known n ≡ true → ReachesOn n) → (n : Name) → is_known known layers n ≡ true → ReachesOn n
  closed_all [] known orderly rows closed n e = closed n (sym (or_false (is_among known n)) ∙ e)
  closed_all (layer ∷ layers) known orderly rows closed n e =
      let parts = orderly_splits known layer layers orderly in
      closed_all layers (known ++ layer.name ∷ []) parts.rest rows.1
      (known_push ReachesOn known layer.name closed (closed_row known layer.name layer.content rows.0 parts.first.uses_known closed)) n
      (sym (is_known-cons known layer layers n) ∙ e)

  -- a layer that is there reaches itself
  pub itself_all : (layers : List Layer) (known : List Name) → AreReachRows layers → ((n : Name) → is_among known n ≡ true → is_reached n n ≡ true) → (n : Name) → is_known known layers n ≡ true → is_reached n n ≡ true
  itself_all [] known rows itself n e = itself n (sym (or_false (is_among known n)) ∙ e)
  itself_all (layer ∷ layers) known rows itself n e =
      itself_all layers (known ++ layer.name ∷ []) rows.1 (known_push (λ m. is_reached m m ≡ true) known layer.name itself (itself_row layer.name layer.content rows.0)) n
      (sym (is_known-cons known layer layers n) ∙ e)

  -- what a reached layer uses is reached
  abbrev pub UsesReached : Name → Name → Content → Type 0
  UsesReached from name content = is_reached from name ≡ true → list_all (is_reached from) (used_names content) ≡ true

  -- the same of one layer
  uses_row : (from : Name) (known : List Name) (name : Name) (content : Content) → ReachesOn from → IsReachRow name content → list_all (is_among known) (used_names content) ≡ true → ((n : Name) → is_among known n ≡ true → is_reached n n ≡ true) → UsesReached from name content
  uses_row from known name (base rings) closed row uses itself reached = refl
  uses_row from known name (derived expression) closed row uses itself reached =
      list_all_so (λ u. list_any (λ v. is_reached v u) (leaves expression)) (is_reached from) (λ u some. closed name u reached (from_leaf name u (leaves expression) row some)) (leaves expression)
      (all_with_one is_reached (leaves expression) (list_all_so (is_among known) (λ u. is_reached u u) itself (leaves expression) uses))

  -- each layer that is reached uses reached layers alone
  pub uses_all : (from : Name) → ReachesOn from → (layers : List Layer) (known : List Name) → is_orderly_after known layers ≡ true → AreReachRows layers → ((n : Name) → is_among known n ≡ true → is_reached n n ≡ true) → AllByRecursion (λ layer. UsesReached from layer.name layer.content) layers
  uses_all from closed [] known orderly rows itself = tt
  uses_all from closed (layer ∷ layers) known orderly rows itself =
      let parts = orderly_splits known layer layers orderly in (
        uses_row from known layer.name layer.content closed rows.0 parts.first.uses_known itself,
        uses_all from closed layers (known ++ layer.name ∷ []) parts.rest rows.1 (known_push (λ m. is_reached m m ≡ true) known layer.name itself (itself_row layer.name layer.content rows.0)),
      )

  -- a name reaches known names alone
  abbrev pub IsBounded : List Name → Name → Type 0
  IsBounded known n = (m : Name) → is_reached n m ≡ true → is_among known m ≡ true

  -- a layer reaches itself and known names alone
  bounded_row : (known : List Name) (name : Name) (content : Content) → IsReachRow name content → list_all (is_among known) (used_names content) ≡ true → ((n : Name) → is_among known n ≡ true → IsBounded known n) → IsBounded (known ++ name ∷ []) name
  bounded_row known name (base rings) row uses bounded m h =
      is_among-push known name m ∙ or_right (is_among known m) _ (ap (λ n. bytes_eq n m) (sym (same_name m name (sym (or_false (bytes_eq m name)) ∙ sym (ap (λ ns. has_name ns m) row) ∙ h))) ∙ name_itself m)
  bounded_row known name (derived expression) row uses bounded m h =
      is_among-push known name m
      ∙ ⊎_elim (λ own. or_right (is_among known m) _ (ap (λ n. bytes_eq n m) (sym (same_name m name own)) ∙ name_itself m))
      (λ some.
      or_left _ _
      (one_of_all (is_among known) (λ u. is_reached u m) (is_among known m) (λ u e through. bounded u e m through) (leaves expression) uses
      (sym (any-flat_map (bytes_eq m) (named [] T) (leaves expression)) ∙ some)))
      (or_cases (bytes_eq m name) (has_name (flat_map (named [] T) (leaves expression)) m) (sym (ap (λ ns. has_name ns m) row) ∙ h))

  -- names and one more layer reach no other names
  pub bounded_push : (known : List Name) (layer : Layer) → IsReachRow layer.name layer.content → list_all (is_among known) (used_names layer.content) ≡ true → ((n : Name) → is_among known n ≡ true → IsBounded known n) → (n : Name) → is_among (known ++ layer.name ∷ []) n ≡ true → IsBounded (known ++ layer.name ∷ []) n
  bounded_push known layer row uses bounded =
      known_push (IsBounded (known ++ layer.name ∷ [])) known layer.name (λ n e m h. is_among-push known layer.name m ∙ or_left _ _ (bounded n e m h)) (bounded_row known layer.name layer.content row uses bounded)
