-- What is under a name, and the first reason against some names.
use Rattle.std.proofs.Common.{◌≡◌, Bool, true, false, not, cond, is_some, ◌||◌, ◌&&◌, List, [], ◌∷◌, ◌++◌, length, Option, Some, None, refl, ap, sym, ◌∙◌, subst, arith, bytes_eq}
use Rattle.std.specs.List.{list_any}
use Rattle.std.specs.Option.{option_map, option_or}
use Rattle.std.proofs.lemmas.Bool.{or_parts}
use Rattle.overlay_terms.specs.Layers.{Name, Content, Layer}
use Rattle.overlay_terms.specs.Commands.{Refusal, index_of, stands, is_derived, refusal_of_use, refusal_of_uses, stands_as_base, stands_as_derived}
use Rattle.overlay_terms.specs.Orderly.{is_orderly_after}
use Rattle.overlay_terms.proofs.NameLemmas.{or_false}
use Rattle.layer_book.specs.declared.fault.LayerFault.{LayerFault}
use Rattle.layer_book.specs.Fault.{fault_of}
use Rattle.layer_book.specs.Layer.{content_named}
use Rattle.layer_book.proofs.Names.{same_name}
use Rattle.layer_book.proofs.Order.{head_of, apart}

-- the index of a name that no layer has
pub absent_index : (layers : List Layer) (name : Name) → stands layers name ≡ false → index_of layers name ≡ length layers
absent_index [] name h = refl
absent_index (layer ∷ layers) name h =
    let parts = or_parts (bytes_eq layer.name name) (stands layers name) h in
    rw parts.0 (omega (arith, absent_index layers name parts.1))

-- whether there is a content and it passes
abbrev pub passes : (Content → Bool) → Option Content → Bool
passes test None = false
passes test (Some c) = test c

pub none_passes : (test : Content → Bool) (layers : List Layer) (name : Name) → stands layers name ≡ false → list_any (λ layer. bytes_eq layer.name name && test layer.content) layers ≡ false
none_passes test [] name h = refl
none_passes test (layer ∷ layers) name h =
    let parts = or_parts (bytes_eq layer.name name) (stands layers name) h in
    rw parts.0 (none_passes test layers name parts.1)

pub named_passes : (test : Content → Bool) (known : List Name) (layers : List Layer) (name : Name) → is_orderly_after known layers ≡ true → list_any (λ layer. bytes_eq layer.name name && test layer.content) layers ≡ passes test (content_named layers name)
named_passes test known [] name h = refl
named_passes test known (layer ∷ layers) name h =
    split (bytes_eq layer.name name) refl (named_passes test (known ++ layer.name ∷ []) layers name (head_of known layer layers h).behind)
  where
    split : (b : Bool) → bytes_eq layer.name name ≡ b → list_any (λ layer. bytes_eq layer.name name && test layer.content) layers ≡ passes test (content_named layers name) → ((b && test layer.content) || list_any (λ layer. bytes_eq layer.name name && test layer.content) layers) ≡ passes test (cond b (Some layer.content) (content_named layers name))
    split true at next =
        let gone : stands layers name ≡ false = subst (λ n. stands layers n ≡ false) (same_name layer.name name at) (apart known layer layers h) in
        ap (λ b. test layer.content || b) (none_passes test layers name gone) ∙ or_false (test layer.content)
    split false at next = next

pub as_base : (layers : List Layer) (name : Name) (found : Option Content) → is_orderly_after [] layers ≡ true → found ≡ content_named layers name → stands_as_base layers name ≡ passes (λ c. not (is_derived c)) found
as_base layers name found h e = named_passes (λ c. not (is_derived c)) [] layers name h ∙ ap (passes (λ c. not (is_derived c))) (sym e)

pub as_derived : (layers : List Layer) (name : Name) (found : Option Content) → is_orderly_after [] layers ≡ true → found ≡ content_named layers name → stands_as_derived layers name ≡ passes is_derived found
as_derived layers name found h e = named_passes is_derived [] layers name h ∙ ap (passes is_derived) (sym e)

-- whether a layer has the name
pub as_standing : (layers : List Layer) (name : Name) (found : Option Content) → found ≡ content_named layers name → stands layers name ≡ is_some found
as_standing layers name found e = named_stands layers ∙ ap is_some (sym e) where
  named_stands : (layers : List Layer) → stands layers name ≡ is_some (content_named layers name)
  named_stands [] = refl
  named_stands (layer ∷ layers) = split (bytes_eq layer.name name) (named_stands layers) where
    split : (b : Bool) → stands layers name ≡ is_some (content_named layers name) → (b || stands layers name) ≡ is_some (cond b (Some layer.content) (content_named layers name))
    split true h = refl
    split false h = h

or_assoc : (a b c : Option Refusal) → option_or (option_or a b) c ≡ option_or a (option_or b c)
or_assoc None b c = refl
or_assoc (Some a) b c = refl

uses-append : (layers : List Layer) (defined : Name) (xs ys : List Name) → refusal_of_uses layers defined (xs ++ ys) ≡ option_or (refusal_of_uses layers defined xs) (refusal_of_uses layers defined ys)
uses-append layers defined [] ys = refl
uses-append layers defined (x ∷ xs) ys =
    ap (option_or (refusal_of_use layers defined x)) (uses-append layers defined xs ys) ∙ sym (or_assoc (refusal_of_use layers defined x) (refusal_of_uses layers defined xs) (refusal_of_uses layers defined ys))

first_stays : (a b : Option Refusal) (fault : LayerFault) → Some fault ≡ option_map fault_of a → Some fault ≡ option_map fault_of (option_or a b)
first_stays None b fault h = cc
first_stays (Some a) b fault h = h

next_counts : (a b : Option Refusal) (found : Option LayerFault) → None ≡ option_map fault_of a → found ≡ option_map fault_of b → found ≡ option_map fault_of (option_or a b)
next_counts None b found h e = e
next_counts (Some a) b found h e = cc

-- a reason against the names on the left is the first
pub on_left : (layers : List Layer) (defined : Name) (xs ys : List Name) (fault : LayerFault) → Some fault ≡ option_map fault_of (refusal_of_uses layers defined xs) → Some fault ≡ option_map fault_of (refusal_of_uses layers defined (xs ++ ys))
on_left layers defined xs ys fault h =
    first_stays (refusal_of_uses layers defined xs) (refusal_of_uses layers defined ys) fault h ∙ ap (option_map fault_of) (sym (uses-append layers defined xs ys))

-- without one, it is the first against those on the right
pub on_right : (layers : List Layer) (defined : Name) (xs ys : List Name) (found : Option LayerFault) → None ≡ option_map fault_of (refusal_of_uses layers defined xs) → found ≡ option_map fault_of (refusal_of_uses layers defined ys) → found ≡ option_map fault_of (refusal_of_uses layers defined (xs ++ ys))
on_right layers defined xs ys found h e =
    next_counts (refusal_of_uses layers defined xs) (refusal_of_uses layers defined ys) found h e ∙ ap (option_map fault_of) (sym (uses-append layers defined xs ys))
