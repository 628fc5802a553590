-- What accepted commands leave is orderly, and has room.
use Rattle.std.specs.Prelude.{◌≡◌, nat_le, ◌≤◌, Bool, true, false, not, ◌&&◌, ◌||◌, List, [], ◌∷◌, ◌++◌, map, filter, fold, length, bytes_eq, None, if◌then◌else◌}
use Rattle.std.specs.List.{list_any, list_all}
use Rattle.std.proofs.Common.{refl, ap, sym, ◌∙◌, subst, arith}
use Rattle.std.proofs.lemmas.Bool.{and_parts, and_from, and_left, or_parts, not_from_false, not-false, leb-false}
use Rattle.std.proofs.lemmas.List.{length-map, length_push}
use Rattle.std.proofs.lemmas.List.Sums.{length-filter, count_by-le-length}
use Rattle.overlay_terms.specs.Trees.{leaves}
use Rattle.overlay_terms.specs.Layers.{layers_max, Name, Content, base, derived, Layer}
use Rattle.overlay_terms.specs.Orderly.{used_names, is_among, is_orderly_after, IsOrderly}
use Rattle.std.specs.Option.{option_or}
use Rattle.overlay_terms.proofs.Options.{both_absent}
use Rattle.overlay_terms.specs.Commands.{Command, put, define, remove, Refusal, index_of, stands, stands_as_base, stands_as_derived, uses, when, unknown_layer, not_base, not_derived, in_use, later_layer, too_many_layers, is_crowded, refusal_of_use, refusal_of_uses, refusal_of, applied, AllAccepted}
use Rattle.overlay_terms.specs.Laws.{AcceptedIsOrderly}
use Rattle.overlay_terms.proofs.NameLemmas.{same_name, list_all_but, list_all_so, is_among-push}
use Rattle.overlay_terms.proofs.OrderlyLemmas.{MayFollow, orderly_splits, orderly_joins, replaced_by, is_before, is_known, orderly-replaced, orderly-push}

-- names without one of them
record IsWithout (name : Name) (known less : List Name) : Type 0 where
  pub same_others : (n : Name) → is_among less n ≡ (is_among known n && not (bytes_eq n name))

-- whether a definition names a name, by its list of names
uses_by_names : (name : Name) (content : Content) → uses name content ≡ list_any (λ used. bytes_eq used name) (used_names content)
uses_by_names name (base rings) = refl
uses_by_names name (derived expression) = refl

-- of three tests: a name among the others or one more, where that one is not the name left out
keep_by : (a b c : Bool) → (b ≡ true → c ≡ false) → ((a && not c) || b) ≡ ((a || b) && not c)
keep_by true true true h = h refl
keep_by true true false h = refl
keep_by true false true h = refl
keep_by true false false h = refl
keep_by false true true h = h refl
keep_by false true false h = refl
keep_by false false c h = refl

-- the same, where the one more is the name left out
drop_by : (a b c : Bool) → (b ≡ true → c ≡ true) → (a && not c) ≡ ((a || b) && not c)
drop_by true b c h = refl
drop_by false true true h = refl
drop_by false true false h = h refl
drop_by false false c h = refl

-- another name, among both
without-keep : (name : Name) (known less : List Name) (m : Name) → bytes_eq m name ≡ false → IsWithout name known less → IsWithout name (known ++ m ∷ []) (less ++ m ∷ [])
without-keep name known less m other h = record {
  same_others = λ n.
      is_among-push less m n
      ∙ ap (λ b. b || bytes_eq m n) (h.same_others n)
      ∙ keep_by (is_among known n) (bytes_eq m n) (bytes_eq n name) (λ e. subst (λ k. bytes_eq k name ≡ false) (same_name m n e) other)
      ∙ ap (λ b. b && not (bytes_eq n name)) (sym (is_among-push known m n));
}

-- the name itself, among one alone
without-drop : (name : Name) (known less : List Name) (m : Name) → bytes_eq m name ≡ true → IsWithout name known less → IsWithout name (known ++ m ∷ []) less
without-drop name known less m itself h = record {
  same_others = λ n.
      h.same_others n
      ∙ drop_by (is_among known n) (bytes_eq m n) (bytes_eq n name) (λ e. subst (λ k. bytes_eq k name ≡ true) (same_name m n e) itself)
      ∙ ap (λ b. b && not (bytes_eq n name)) (sym (is_among-push known m n));
}

-- a layer that does not name the name may follow without it
follows_without : (name : Name) (known less : List Name) (layer : Layer) → IsWithout name known less → uses name layer.content ≡ false → MayFollow known layer → MayFollow less layer
follows_without name known less layer h unused follows = record {
  new_name = h.same_others layer.name ∙ and_left _ _ follows.new_name;
  uses_known =
      list_all_but (is_among known) (λ used. bytes_eq used name) (is_among less) (λ used e other. h.same_others used ∙ and_from _ _ e (not_from_false _ other)) (used_names layer.content) follows.uses_known
      (sym (uses_by_names name layer.content) ∙ unused);
}

-- layers without the one that has a name
abbrev pub without : List Layer → Name → List Layer
without layers name = filter (λ layer. not (bytes_eq layer.name name)) layers

-- layers stay orderly without one whose name no definition names
abbrev StaysWithout : List Layer → Name → Type 0
StaysWithout layers name =
    (known less : List Name) → IsWithout name known less → is_orderly_after known layers ≡ true → list_any (λ layer. uses name layer.content) layers ≡ false → is_orderly_after less (without layers name) ≡ true

-- one more layer in front, which has the name or has it not
removed_in_front : (layer : Layer) (layers : List Layer) (name : Name) (b : Bool) → bytes_eq layer.name name ≡ b → StaysWithout layers name → StaysWithout (layer ∷ layers) name
removed_in_front layer layers name true here again known less h orderly unused =
    let parts = orderly_splits known layer layers orderly in
    let others = or_parts (uses name layer.content) (list_any (λ l. uses name l.content) layers) unused in
    ap (λ b. is_orderly_after less (if not b then layer ∷ without layers name else without layers name)) here
    ∙ again (known ++ layer.name ∷ []) less (without-drop name known less layer.name here h) parts.rest others.1
removed_in_front layer layers name false other again known less h orderly unused =
    let parts = orderly_splits known layer layers orderly in
    let others = or_parts (uses name layer.content) (list_any (λ l. uses name l.content) layers) unused in
    ap (λ b. is_orderly_after less (if not b then layer ∷ without layers name else without layers name)) other
    ∙ orderly_joins less layer (without layers name) (record {
      first = follows_without name known less layer h others.0 parts.first;
      rest = again (known ++ layer.name ∷ []) (less ++ layer.name ∷ []) (without-keep name known less layer.name other h) parts.rest others.1;
    })

-- layers stay orderly without one whose name no definition names
orderly-removed : (layers : List Layer) (name : Name) → StaysWithout layers name
orderly-removed [] name known less h orderly unused = refl
orderly-removed (layer ∷ layers) name known less h orderly unused =
    removed_in_front layer layers name (bytes_eq layer.name name) refl (orderly-removed layers name) known less h orderly unused

-- a reason that does not apply has a test that fails
pub not_when : (test : Bool) (reason : Refusal) → when test reason ≡ None → test ≡ false
not_when true reason e = absurd (cc)
not_when false reason e = refl

-- orderly layers with room
pub record Stand (layers : List Layer) : Type 0 where
  pub orderly : IsOrderly layers
  pub room : length layers ≤ layers_max

-- whether a definition under a name may use another name
abbrev is_usable : List Layer → Name → Name → Bool
is_usable layers defined used = stands layers used && not (nat_le (index_of layers defined) (index_of layers used))

-- the names of an expression against which there is no reason
all_usable : (layers : List Layer) (defined : Name) (names : List Name) → refusal_of_uses layers defined names ≡ None → list_all (is_usable layers defined) names ≡ true
all_usable layers defined [] e = refl
all_usable layers defined (used ∷ names) e =
    let both = both_absent (refusal_of_use layers defined used) (refusal_of_uses layers defined names) e in
    let each = both_absent (when (not (stands layers used)) unknown_layer) (when (nat_le (index_of layers defined) (index_of layers used)) later_layer) both.first in
    and_from _ _ (and_from _ _ (not-false (stands layers used) (not_when _ _ each.first)) (not_from_false _ (not_when _ _ each.second))) (all_usable layers defined names both.second)

-- content that a name may have keeps orderly layers so
with_content_orderly : (layers : List Layer) (name : Name) (content : Content) (b : Bool) → stands layers name ≡ b → IsOrderly layers → list_all (is_usable layers name) (used_names content) ≡ true →
    IsOrderly (if b then map (replaced_by name content) layers else layers ++ record { name = name; content = content } ∷ [])
with_content_orderly layers name content true e orderly usable =
    orderly-replaced layers name content []
    (list_all_so (is_usable layers name) (is_before [] layers name) (λ used u. (and_parts (stands layers used) (not (nat_le (index_of layers name) (index_of layers used))) u).1) (used_names content) usable)
    orderly
with_content_orderly layers name content false e orderly usable =
    orderly-push [] layers (record { name = name; content = content }) orderly e
    (list_all_so (is_usable layers name) (is_known [] layers) (λ used u. (and_parts (stands layers used) (not (nat_le (index_of layers name) (index_of layers used))) u).0) (used_names content) usable)

-- where it is not crowded, content under a name leaves room
with_content_room : (layers : List Layer) (name : Name) (content : Content) (b : Bool) → stands layers name ≡ b → length layers ≤ layers_max → is_crowded layers name ≡ false →
    length (if b then map (replaced_by name content) layers else layers ++ record { name = name; content = content } ∷ []) ≤ layers_max
with_content_room layers name content true e room roomy = rw length-map room
with_content_room layers name content false e room roomy =
    let few : nat_le layers_max (length layers) ≡ false = ap (λ b. not b && nat_le layers_max (length layers)) (sym e) ∙ roomy in
    let low = leb-false layers_max (length layers) few in
    rw length_push (omega arith)

-- an accepted command leaves orderly layers so
pub step_orderly : (layers : List Layer) (command : Command) → refusal_of layers command ≡ None → IsOrderly layers → IsOrderly (applied layers command)
step_orderly layers (put name rings) e orderly = with_content_orderly layers name (base rings) (stands layers name) refl orderly refl
step_orderly layers (define name expression) e orderly =
    let reasons = both_absent (when (stands_as_base layers name) not_derived) (option_or (refusal_of_uses layers name (leaves expression)) (when (is_crowded layers name) too_many_layers)) e in
    let later = both_absent (refusal_of_uses layers name (leaves expression)) (when (is_crowded layers name) too_many_layers) reasons.second in
    with_content_orderly layers name (derived expression) (stands layers name) refl orderly (all_usable layers name (leaves expression) later.first)
step_orderly layers (remove name) e orderly =
    let reasons = both_absent (when (not (stands layers name)) unknown_layer) (when (list_any (λ layer. uses name layer.content) layers) in_use) e in
    orderly-removed layers name [] [] (record { same_others = λ n. refl }) orderly (not_when _ _ reasons.second)

-- an accepted command leaves at most so many layers, where there are
pub step_room : (layers : List Layer) (command : Command) → refusal_of layers command ≡ None → length layers ≤ layers_max → length (applied layers command) ≤ layers_max
step_room layers (put name rings) e room =
    let reasons = both_absent (when (stands_as_derived layers name) not_base) (when (is_crowded layers name) too_many_layers) e in
    with_content_room layers name (base rings) (stands layers name) refl room (not_when _ _ reasons.second)
step_room layers (define name expression) e room =
    let reasons = both_absent (when (stands_as_base layers name) not_derived) (option_or (refusal_of_uses layers name (leaves expression)) (when (is_crowded layers name) too_many_layers)) e in
    let later = both_absent (refusal_of_uses layers name (leaves expression)) (when (is_crowded layers name) too_many_layers) reasons.second in
    with_content_room layers name (derived expression) (stands layers name) refl room (not_when _ _ later.second)
step_room layers (remove name) e room =
    omega (arith, room, length-filter (λ (layer : Layer). not (bytes_eq layer.name name)) layers, count_by-le-length (λ (layer : Layer). not (bytes_eq layer.name name)) layers)

-- an accepted command leaves orderly layers with room so
pub step_stands : (layers : List Layer) (command : Command) → refusal_of layers command ≡ None → Stand layers → Stand (applied layers command)
step_stands layers command e h = record { orderly = step_orderly layers command e h.orderly; room = step_room layers command e h.room }

-- accepted commands leave orderly layers so
all_stand : (commands : List Command) (layers : List Layer) → AllAccepted layers commands → Stand layers → Stand (fold applied layers commands)
all_stand [] layers accepted h = h
all_stand (command ∷ commands) layers accepted h =
    all_stand commands (applied layers command) accepted.1 (step_stands layers command accepted.0 h)

-- what accepted commands leave is orderly, and has room
pub accepted_is_orderly : AcceptedIsOrderly
accepted_is_orderly commands accepted =
    let h = all_stand commands [] accepted (record { orderly = refl; room = omega arith }) in
    (h.orderly, h.room)
