-- What order says of layers: each has a name of its own; and what keeps them in order.
use Rattle.std.proofs.Common.{◌≡◌, true, false, not, cond, ◌||◌, ◌&&◌, List, [], ◌∷◌, ◌++◌, map, refl, ap, sym, ◌∙◌, subst, bytes_eq}
use Rattle.std.specs.List.{list_all}
use Rattle.std.proofs.lemmas.Bool.{both_ways, not-true, and_parts, or_parts, or_from, or_left, or_right, false_from_ne_true}
use Rattle.std.proofs.lemmas.List.Folds.{list_any-append}
use Rattle.overlay_terms.specs.Layers.{Name, Content, Layer}
use Rattle.overlay_terms.specs.Commands.{stands}
use Rattle.overlay_terms.specs.Orderly.{used_names, is_among, is_orderly_after}
use Rattle.overlay_terms.proofs.NameLemmas.{is_among-push}
use Rattle.layer_book.specs.Layer.{others}
use Rattle.layer_book.proofs.Names.{same_name, own_name, turned}

-- what order says of the first of some layers
pub record IsHead (known : List Name) (layer : Layer) (layers : List Layer) : Type 0 where
  pub own : is_among known layer.name ≡ false
  pub earlier : list_all (is_among known) (used_names layer.content) ≡ true
  pub behind : is_orderly_after (known ++ layer.name ∷ []) layers ≡ true

pub head_of : (known : List Name) (layer : Layer) (layers : List Layer) → is_orderly_after known (layer ∷ layers) ≡ true → IsHead known layer layers
head_of known layer layers h =
    let both = and_parts (not (is_among known layer.name) && list_all (is_among known) (used_names layer.content)) (is_orderly_after (known ++ layer.name ∷ []) layers) h in
    let first = and_parts (not (is_among known layer.name)) (list_all (is_among known) (used_names layer.content)) both.0 in
    record { own = not-true _ first.0; earlier = first.1; behind = both.1 }

-- no layer has a known name
pub strangers : (known : List Name) (layers : List Layer) (n : Name) → is_orderly_after known layers ≡ true → is_among known n ≡ true → stands layers n ≡ false
strangers known [] n h k = refl
strangers known (layer ∷ layers) n h k =
    let head = head_of known layer layers h in
    or_from (bytes_eq layer.name n) (stands layers n)
    (false_from_ne_true _ (λ e. both_ways (is_among known layer.name) head.own (subst (λ m. is_among known m ≡ true) (sym (same_name layer.name n e)) k)))
    (strangers (known ++ layer.name ∷ []) layers n head.behind (is_among-push known layer.name n ∙ or_left _ _ k))

-- no later layer has the name of the first
pub apart : (known : List Name) (layer : Layer) (layers : List Layer) → is_orderly_after known (layer ∷ layers) ≡ true → stands layers layer.name ≡ false
apart known layer layers h =
    strangers (known ++ layer.name ∷ []) layers layer.name (head_of known layer layers h).behind (is_among-push known layer.name layer.name ∙ or_right _ _ (own_name layer.name))

-- no earlier layer has the name of a later one
pub fresh : (known : List Name) (xs : List Layer) (y : Layer) (ys : List Layer) → is_orderly_after known (xs ++ y ∷ ys) ≡ true → stands xs y.name ≡ false
fresh known [] y ys h = refl
fresh known (x ∷ xs) y ys h =
    let later = apart known x (xs ++ y ∷ ys) h in
    let split = sym (list_any-append (λ layer. bytes_eq layer.name x.name) xs (y ∷ ys)) ∙ later in
    let other = (or_parts (bytes_eq y.name x.name) (stands ys x.name) (or_parts (stands xs x.name) (stands (y ∷ ys) x.name) split).1).0 in
    or_from (bytes_eq x.name y.name) (stands xs y.name) (turned x.name y.name ∙ other) (fresh (known ++ x.name ∷ []) xs y ys (head_of known x (xs ++ y ∷ ys) h).behind)

pub replaced_absent : (name : Name) (new : Content) (layers : List Layer) → stands layers name ≡ false → map (λ (layer : Layer). cond (bytes_eq layer.name name) (record { name = name; content = new }) layer) layers ≡ layers
replaced_absent name new [] h = refl
replaced_absent name new (layer ∷ layers) h =
    let parts = or_parts (bytes_eq layer.name name) (stands layers name) h in
    rw parts.0 (ap (λ ls. layer ∷ ls) (replaced_absent name new layers parts.1))

pub others_absent : (name : Name) (layers : List Layer) → stands layers name ≡ false → others layers name ≡ layers
others_absent name [] h = refl
others_absent name (layer ∷ layers) h =
    let parts = or_parts (bytes_eq layer.name name) (stands layers name) h in
    rw parts.0 (ap (λ ls. layer ∷ ls) (others_absent name layers parts.1))
