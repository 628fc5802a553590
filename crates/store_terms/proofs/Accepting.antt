-- Orderly layers are accepted one after another.
use Rattle.std.proofs.Common.{◌≡◌, ⊎_elim, ◌+◌, ◌<◌, nat_le, Bool, true, false, not, cond, ◌&&◌, ◌||◌, List, [], ◌∷◌, length, map, None, refl, sym, ap, ◌∙◌, arith}
use Rattle.std.specs.Prelude.{bytes_eq}
use Rattle.std.specs.List.{list_any, list_all}
use Rattle.std.specs.Option.{option_or, is_none}
use Rattle.std.proofs.lemmas.Bool.{cases_Bool, and_parts, and_from, and_left, and_right, or_parts, not_from_false, lt-leb}
use Rattle.overlay_terms.specs.Trees.{Tree, leaves}
use Rattle.overlay_terms.specs.Layers.{layers_max, Name, Content, base, derived, Layer}
use Rattle.overlay_terms.specs.Commands.{unknown_layer, not_base, not_derived, later_layer, too_many_layers, index_of, stands, is_derived, stands_as_base, stands_as_derived, when, is_crowded, refusal_of_put, refusal_of_use, refusal_of_uses, refusal_of_define}
use Rattle.overlay_terms.specs.Orderly.{used_names, is_among}
use Rattle.overlay_terms.proofs.OrderlyLemmas.{MayFollow}
use Rattle.layer_expr.specs.Name.{is_name}
use Rattle.store_terms.specs.Image.{refusal_of_keeping, may_stand}

abbrev pub names_of : List Layer → List Name
names_of layers = map (λ (layer : Layer). layer.name) layers

pub stands_among : (layers : List Layer) (name : Name) → stands layers name ≡ is_among (names_of layers) name
stands_among [] name = refl
stands_among (l ∷ ls) name = ap (λ b. bytes_eq l.name name || b) (stands_among ls name)

-- a narrower test passes nowhere where a wider one passes nowhere
none_too : (p q : Layer → Bool) → ((l : Layer) → p l ≡ false → q l ≡ false) → (ls : List Layer) → list_any p ls ≡ false → list_any q ls ≡ false
none_too p q so [] none = refl
none_too p q so (l ∷ ls) none =
    let h = or_parts (p l) (list_any p ls) none in
    ap (λ b. b || list_any q ls) (so l h.0) ∙ none_too p q so ls h.1

index_past : (layers : List Layer) (name : Name) → stands layers name ≡ false → index_of layers name ≡ length layers
index_past [] name none = refl
index_past (l ∷ ls) name none =
    let h = or_parts (bytes_eq l.name name) (stands ls name) none in
    ap (λ b. cond b 0 (index_of ls name + 1)) h.0 ∙ (let e = index_past ls name h.1 in omega (arith, e))

index_within : (layers : List Layer) (name : Name) → stands layers name ≡ true → index_of layers name < length layers
index_within [] name some = absurd cc
index_within (l ∷ ls) name some = ⊎_elim
    (λ here. let e : index_of (l ∷ ls) name ≡ 0 = ap (λ b. cond b 0 (index_of ls name + 1)) here in omega (arith, e))
    (λ there.
    let e : index_of (l ∷ ls) name ≡ index_of ls name + 1 = ap (λ b. cond b 0 (index_of ls name + 1)) there in
    let rest : stands ls name ≡ true = sym (ap (λ b. b || stands ls name) there) ∙ some in
    let h = index_within ls name rest in
    omega (arith, e, h))
    (cases_Bool (bytes_eq l.name name))

module _ (known : List Layer) (name : Name) (new : stands known name ≡ false) (room : length known < layers_max) where
  not_crowded : is_crowded known name ≡ false
  not_crowded = and_right (not (stands known name)) (nat_le layers_max (length known)) (lt-leb layers_max (length known) room)

  not_base_there : stands_as_base known name ≡ false
  not_base_there = none_too (λ l. bytes_eq l.name name) (λ l. bytes_eq l.name name && not (is_derived l.content)) (λ l h. and_left (bytes_eq l.name name) (not (is_derived l.content)) h) known new

  not_derived_there : stands_as_derived known name ≡ false
  not_derived_there = none_too (λ l. bytes_eq l.name name) (λ l. bytes_eq l.name name && is_derived l.content) (λ l h. and_left (bytes_eq l.name name) (is_derived l.content) h) known new

  put_accepted : refusal_of_put known name ≡ None
  put_accepted =
      ap (λ b. option_or (when b not_base) (when (is_crowded known name) too_many_layers)) not_derived_there ∙ ap (λ b. when b too_many_layers) not_crowded

  use_accepted : (used : Name) → is_among (names_of known) used ≡ true → refusal_of_use known name used ≡ None
  use_accepted used among =
      let there : stands known used ≡ true = stands_among known used ∙ among in
      let first : not (stands known used) ≡ false = ap not there in
      let before : nat_le (index_of known name) (index_of known used) ≡ false =
      (let past = index_past known name new in let within = index_within known used there in lt-leb (index_of known name) (index_of known used) (omega (arith, past, within))) in
      ap (λ b. option_or (when b unknown_layer) (when (nat_le (index_of known name) (index_of known used)) later_layer)) first ∙ ap (λ b. when b later_layer) before

  uses_accepted : (uses : List Name) → list_all (is_among (names_of known)) uses ≡ true → refusal_of_uses known name uses ≡ None
  uses_accepted [] all = refl
  uses_accepted (used ∷ others) all =
      let h = and_parts (is_among (names_of known) used) (list_all (is_among (names_of known)) others) all in
      ap (λ o. option_or o (refusal_of_uses known name others)) (use_accepted used h.0) ∙ uses_accepted others h.1

  define_accepted : (tree : Tree Name) → list_all (is_among (names_of known)) (leaves tree) ≡ true → refusal_of_define known name tree ≡ None
  define_accepted tree all =
      ap (λ b. option_or (when b not_derived) (option_or (refusal_of_uses known name (leaves tree)) (when (is_crowded known name) too_many_layers))) not_base_there
      ∙ ap (λ o. option_or o (when (is_crowded known name) too_many_layers)) (uses_accepted (leaves tree) all) ∙ ap (λ b. when b too_many_layers) not_crowded

  content_accepted : (content : Content) → list_all (is_among (names_of known)) (used_names content) ≡ true → refusal_of_keeping known name content ≡ None
  content_accepted (base rings) all = put_accepted
  content_accepted (derived tree) all = define_accepted tree all

pub may_follow_stands : (known : List Layer) (layer : Layer) → MayFollow (names_of known) layer → length known < layers_max → is_name layer.name ≡ true → may_stand known layer.name layer.content ≡ true
may_follow_stands known layer follows room named =
    let new : stands known layer.name ≡ false = stands_among known layer.name ∙ follows.new_name in
    and_from (is_name layer.name && not (stands known layer.name)) (is_none (refusal_of_keeping known layer.name layer.content))
    (and_from (is_name layer.name) (not (stands known layer.name)) named (not_from_false (stands known layer.name) new))
    (ap is_none (content_accepted known layer.name new room layer.content follows.uses_known))
