-- What the calls of the map make of its layers.
use Rattle.std.proofs.Common.{◌≡◌, ℕ, zero, suc, ◌+◌, ◌<◌, Bool, true, false, not, cond, ◌||◌, nat_lt, List, [], ◌∷◌, ◌++◌, length, map, Option, Some, None, is_some, IfSome, IfOk, slice_get, refl, ap, sym, ◌∙◌, subst, arith, position, bytes_eq, Bor}
use Rattle.std.specs.List.{position_or_len, AllZip}
use Rattle.std.specs.Prelude.{Result, Ok, Err}
use Rattle.std.specs.Result.{MatchResult}
use Rattle.std.specs.Map.{keys_of, lookup, remove_entry}
use Rattle.std.specs.Option.{option_map, option_copied}
use Rattle.std.proofs.lemmas.Bool.{or_parts}
use Rattle.std.proofs.lemmas.Bool.Decides.{nat_tests}
use Rattle.indexmap.specs.IndexMap.{insert_entry}
use Rattle.overlay_terms.specs.Layers.{Name, Content}
use Rattle.overlay_terms.specs.Layers as terms
use Rattle.overlay_terms.specs.Commands.{index_of, stands, with_content}
use Rattle.overlay_terms.specs.Orderly.{is_orderly_after}
use Rattle.layer_book.specs.declared.layer.Layer.{Layer}
use Rattle.layer_book.specs.Layer.{content, named_layer, layers_of, content_named, others}
use Rattle.layer_book.proofs.Names.{same_name, turned, stands_is}
use Rattle.layer_book.proofs.Order.{head_of, apart, replaced_absent, others_absent}
use Rattle.layer_book.proofs.Wanted.{index_at}

same_length : (es : List (List ℕ × Layer)) → length (keys_of es) ≡ length (layers_of es)
same_length [] = refl
same_length (e ∷ es) = ap suc (same_length es)

pub index_is : (es : List (List ℕ × Layer)) (name : List ℕ) → position_or_len (bytes_eq name) (keys_of es) ≡ index_of (layers_of es) name
index_is [] name = refl
index_is (e ∷ es) name = rw (turned e.0 name) (split (bytes_eq name e.0) (index_is es name)) where
  split : (b : Bool) → position_or_len (bytes_eq name) (keys_of es) ≡ index_of (layers_of es) name
      → cond (not b) (1 + position_or_len (bytes_eq name) (keys_of es)) 0 ≡ cond b 0 (index_of (layers_of es) name + 1)
  split true h = refl
  split false h = omega (arith, h)

pick : (p n : ℕ) (b : Bool) → nat_lt p n ≡ b → (is_some (cond b (Some p) None) ≡ b) × IfSome (cond b (Some p) None) (λ i. (i ≡ p) × (i < n))
pick p n true h = (refl, (refl, grind (arith, nat_tests)))
pick p n false h = (refl, tt)

-- what a search among the keys says of the layers
pub found : (es : List (List ℕ × Layer)) (name : List ℕ) (r : Option ℕ) → r ≡ position (bytes_eq name) (keys_of es)
    → (is_some r ≡ stands (layers_of es) name) × IfSome r (λ i. (i ≡ index_of (layers_of es) name) × (i < length (layers_of es)))
found es name r e =
    let at : r ≡ cond (nat_lt (index_of (layers_of es) name) (length (layers_of es))) (Some (index_of (layers_of es) name)) None = e ∙ ap
    (λ k. cond (nat_lt k (length (keys_of es))) (Some k) None) (index_is es name) ∙ ap
    (λ n. cond (nat_lt (index_of (layers_of es) name) n) (Some (index_of (layers_of es) name)) None) (same_length es) in
    rw (at, stands_is (layers_of es) name) (pick _ _ (nat_lt (index_of (layers_of es) name) (length (layers_of es))) refl)

-- what a look-up finds is what is under the name
lookup_is : (es : List (List ℕ × Layer)) (name : List ℕ) → option_map content (lookup (bytes_eq name) es) ≡ content_named (layers_of es) name
lookup_is [] name = refl
lookup_is (e ∷ es) name = rw (turned e.0 name) (split (bytes_eq name e.0) (lookup_is es name)) where
  split : (b : Bool) → option_map content (lookup (bytes_eq name) es) ≡ content_named (layers_of es) name
      → option_map content (cond b (Some e.1) (lookup (bytes_eq name) es)) ≡ cond b (Some (content e.1)) (content_named (layers_of es) name)
  split true h = refl
  split false h = h

contents_of : (r : Option (Bor Layer)) → option_map (λ layer. content layer.now) r ≡ option_map content (option_copied r)
contents_of None = refl
contents_of (Some layer) = refl

pub got : (es : List (List ℕ × Layer)) (name : List ℕ) (r : Option (Bor Layer)) → option_copied r ≡ lookup (bytes_eq name) es
    → option_map (λ layer. content layer.now) r ≡ content_named (layers_of es) name
got es name r e = contents_of r ∙ ap (option_map content) e ∙ lookup_is es name

-- an entry with a new name goes last
pub insert_new : (es : List (List ℕ × Layer)) (name : List ℕ) (layer : Layer) → stands (layers_of es) name ≡ false
    → layers_of (insert_entry bytes_eq es name layer) ≡ layers_of es ++ named_layer (name, layer) ∷ []
insert_new [] name layer h = refl
insert_new (e ∷ es) name layer h =
    let parts = or_parts (bytes_eq e.0 name) (stands (layers_of es) name) h in
    rw (turned name e.0, parts.0) (ap (λ ls. named_layer e ∷ ls) (insert_new es name layer parts.1))

abbrev replaced : List ℕ → Content → terms.Layer → terms.Layer
replaced name new layer = cond (bytes_eq layer.name name) (record { name = name; content = new }) layer

-- one with a name that is there takes its place
insert_there : (known : List Name) (es : List (List ℕ × Layer)) (name : List ℕ) (layer : Layer) → is_orderly_after known (layers_of es) ≡ true
    → stands (layers_of es) name ≡ true → layers_of (insert_entry bytes_eq es name layer) ≡ map (replaced name (content layer)) (layers_of es)
insert_there known [] name layer h s = cc
insert_there known (e ∷ es) name layer h s =
    rw (turned name e.0) (split (bytes_eq e.0 name) refl (insert_there (known ++ e.0 ∷ []) es name layer (head_of known (named_layer e) (layers_of es) h).behind))
  where
    split : (b : Bool) → bytes_eq e.0 name ≡ b → (stands (layers_of es) name ≡ true → layers_of (insert_entry bytes_eq es name layer) ≡ map
        (replaced name (content layer)) (layers_of es)) → layers_of (cond b ((e.0, layer) ∷ es) (e ∷ insert_entry bytes_eq es name layer)) ≡ cond b
        (record { name = name; content = content layer }) (named_layer e) ∷ map (replaced name (content layer)) (layers_of es)
    split true at next =
        let same : e.0 ≡ name = same_name e.0 name at in
        let gone : stands (layers_of es) name ≡ false = subst (λ n. stands (layers_of es) n ≡ false) same (apart known (named_layer e) (layers_of es) h) in
        ap (λ (n : List ℕ). named_layer (n, layer) ∷ layers_of es) same ∙ ap (λ ls. named_layer (name, layer) ∷ ls) (sym (replaced_absent name (content layer) (layers_of es) gone))
    split false at next = ap (λ ls. named_layer e ∷ ls) (next (sym (ap (λ b. b || stands (layers_of es) name) at) ∙ s))

-- `insert` puts a layer in the place of the one with its name, or last
pub insert_is : (es : List (List ℕ × Layer)) (name : List ℕ) (layer : Layer) → is_orderly_after [] (layers_of es) ≡ true
    → layers_of (insert_entry bytes_eq es name layer) ≡ with_content (layers_of es) name (content layer)
insert_is es name layer h = split (stands (layers_of es) name) refl where
  split : (b : Bool) → stands (layers_of es) name ≡ b → layers_of (insert_entry bytes_eq es name layer) ≡ cond b
      (map (replaced name (content layer)) (layers_of es)) (layers_of es ++ named_layer (name, layer) ∷ [])
  split true s = insert_there [] es name layer h s
  split false s = insert_new es name layer s

-- `shift_remove` leaves the layers with other names
remove_after : (known : List Name) (es : List (List ℕ × Layer)) (name : List ℕ) → is_orderly_after known (layers_of es) ≡ true
    → layers_of (remove_entry (bytes_eq name) es) ≡ others (layers_of es) name
remove_after known [] name h = refl
remove_after known (e ∷ es) name h =
    rw (turned name e.0) (split (bytes_eq e.0 name) refl (remove_after (known ++ e.0 ∷ []) es name (head_of known (named_layer e) (layers_of es) h).behind))
  where
    split : (b : Bool) → bytes_eq e.0 name ≡ b → layers_of (remove_entry (bytes_eq name) es) ≡ others (layers_of es) name
        → layers_of (cond b es (e ∷ remove_entry (bytes_eq name) es)) ≡ cond (not b) (named_layer e ∷ others (layers_of es) name)
        (others (layers_of es) name)
    split true at next =
        let same : e.0 ≡ name = same_name e.0 name at in
        let gone : stands (layers_of es) name ≡ false = subst (λ n. stands (layers_of es) n ≡ false) same (apart known (named_layer e) (layers_of es) h) in
        sym (others_absent name (layers_of es) gone)
    split false at next = ap (λ ls. named_layer e ∷ ls) next

pub remove_is : (es : List (List ℕ × Layer)) (name : List ℕ) → is_orderly_after [] (layers_of es) ≡ true → layers_of (remove_entry (bytes_eq name) es) ≡ others (layers_of es) name
remove_is es name h = remove_after [] es name h

-- the layers after `insert` into a copy
pub with_is : (entries : List (List ℕ × Layer)) (all : List terms.Layer) (copy name : List ℕ) (layer : Layer) (made : List (List ℕ × Layer))
    → is_orderly_after [] all ≡ true → layers_of entries ≡ all → copy ≡ name → made ≡ insert_entry bytes_eq entries copy layer
    → layers_of made ≡ with_content all name (content layer)
with_is entries all copy name layer made h e same m =
    ap layers_of m ∙ insert_is entries copy layer (subst (λ ls. is_orderly_after [] ls ≡ true) (sym e) h)
    ∙ ap (λ ls. with_content ls copy (content layer)) e ∙ ap (λ n. with_content all n (content layer)) same

-- the layers after `shift_remove` from a copy
pub without_is : (entries : List (List ℕ × Layer)) (all : List terms.Layer) (name : List ℕ) (made : List (List ℕ × Layer))
    → is_orderly_after [] all ≡ true → layers_of entries ≡ all → made ≡ remove_entry (bytes_eq name) entries → layers_of made ≡ others all name
without_is entries all name made h e m =
    ap layers_of m ∙ remove_is entries name (subst (λ ls. is_orderly_after [] ls ≡ true) (sym e) h) ∙ ap (λ ls. others ls name) e

-- where each entry is copied, the layers stay
pub copies_are : (es copies : List (List ℕ × Layer)) → AllZip (λ e copy. (copy.0 ≡ e.0) × (content copy.1 ≡ content e.1)) es copies → layers_of copies ≡ layers_of es
copies_are [] [] h = refl
copies_are [] (copy ∷ copies) h = absurd h
copies_are (e ∷ es) [] h = absurd h
copies_are (e ∷ es) (copy ∷ copies) h =
    let later = copies_are es copies h.1 in
    λ i. record { name = h.0.0 i; content = h.0.1 i } ∷ later i

pub copies_ok : {X E : Type 0} (entries : X → List (List ℕ × Layer)) (es : List (List ℕ × Layer)) (r : Result X E) (Q : E → Type 0)
    → MatchResult r (λ n. AllZip (λ e copy. (copy.0 ≡ e.0) × (content copy.1 ≡ content e.1)) es (entries n)) Q → IfOk r (λ n. layers_of (entries n) ≡ layers_of es)
copies_ok entries es (Ok n) Q h = copies_are es (entries n) h
copies_ok entries es (Err e) Q h = tt

entry_layer_at : (es : List (List ℕ × Layer)) (i : ℕ) (e : List ℕ × Layer) → Some e ≡ slice_get es i → slice_get (layers_of es) i ≡ Some (named_layer e)
entry_layer_at [] i e there = cc
entry_layer_at (x ∷ es) zero e there =
    let same : x ≡ e = cc in
    ap (λ x. Some (named_layer x)) same
entry_layer_at (x ∷ es) (suc i) e there = entry_layer_at es i e there

-- where the entry at an index has the name, the index is the name's
pub near_is : (es : List (List ℕ × Layer)) (all : List terms.Layer) (i : ℕ) (own name : List ℕ) (layer : Layer) → is_orderly_after [] all ≡ true → layers_of es ≡ all
    → Some (own, layer) ≡ slice_get es i → bytes_eq own name ≡ true → i ≡ index_of all name
near_is es all i own name layer orderly are there same =
    sym (subst (λ n. index_of all n ≡ i) (same_name own name same)
    (index_at [] all i (named_layer (own, layer)) orderly (ap (λ ls. slice_get ls i) (sym are) ∙ entry_layer_at es i (own, layer) there)))
