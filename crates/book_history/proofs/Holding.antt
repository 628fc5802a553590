-- What holds of one after another.
use Rattle.std.proofs.Common.{◌≡◌, ℕ, ◌+◌, Bool, true, false, ◌&&◌, ◌||◌, List, [], ◌∷◌, ◌++◌, ◌<◌, length, take, get_or, slice_get, Option, Some, None, refl, ap, sym, ◌∙◌, subst, add-one}
use Rattle.std.specs.Str.{bytes_eq}
use Rattle.std.specs.List.{All}
use Rattle.std.specs.Option.{option_map, is_some}
use Rattle.std.proofs.lemmas.List.{take_more}
use Rattle.std.proofs.lemmas.List.Elements.{All-append, All-cons, All-nil, All-head, All-tail}
use Rattle.overlay_terms.specs.Layers.{Name, Layer}
use Rattle.overlay_terms.specs.Commands.{is_derived, stands_as_derived}
use Rattle.layer_book.proofs.Answering.{take_there}
use Rattle.layer_book.proofs.Names.{same_name}

-- a fact of those before a place, and of the one there
pub one_at : {X : Type 0} (P : X → Type 0) (xs : List X) (i : ℕ) (x : X) → i < length xs → x ≡ get_or xs i x → All P (take i xs) → P x → All P (take (i + 1) xs)
one_at P xs i x inside is before here =
    subst (All P) (sym (take_more xs i x inside ∙ ap (λ y. take i xs ++ y ∷ []) (sym is))) (All-append P (take i xs) (x ∷ []) before (All-cons P x [] here (All-nil P)))

-- the same of layers
pub one_more : (P : Layer → Type 0) (layers : List Layer) (i : ℕ) (layer : Layer) → slice_get layers i ≡ Some layer → All P (take i layers) → P layer
    → All P (take (i + 1) layers)
one_more P layers i layer at before here =
    subst (All P) (sym (ap (λ k. take k layers) (add-one i) ∙ take_there layers i layer at)) (All-append P (take i layers) (layer ∷ []) before (All-cons P layer [] here (All-nil P)))

-- a fact of the names of all layers is one of the name of a derived layer
pub of_named : (P : Name → Type 0) (layers : List Layer) (name : Name) → All (λ (layer : Layer). P layer.name) layers → stands_as_derived layers name ≡ true → P name
of_named P [] name all stands = absurd (cc (stands))
of_named P (layer ∷ layers) name all stands =
    split (bytes_eq layer.name name) refl (is_derived layer.content) (of_named P layers name (All-tail (λ (l : Layer). P l.name) layer layers all)) stands
  where
    split : (b : Bool) → bytes_eq layer.name name ≡ b → (d : Bool) → (stands_as_derived layers name ≡ true → P name) → ((b && d) || stands_as_derived layers name) ≡ true → P name
    split true same d rest h = subst P (same_name layer.name name same) (All-head (λ (l : Layer). P l.name) layer layers all)
    split false same d rest h = rest h

-- a value that is a function of another is none where that is none, and only there
pub none_kept : {A B : Type 0} (f : A → B) (o : Option A) (t : Option B) → option_map f o ≡ t → is_some o ≡ false → t ≡ None
none_kept f None t is none = sym is
none_kept f (Some x) t is none = absurd (cc (none))

pub some_kept : {A B : Type 0} (f : A → B) (o : Option A) (t : Option B) → option_map f o ≡ t → is_some o ≡ true → t ≡ None → ⊥
some_kept f None t is some none = cc (some)
some_kept f (Some x) t is some none = cc (is, none)
