-- Where no base layer is, no definition is.
use Rattle.std.proofs.Common.{◌≡◌, ℕ, zero, suc, Bool, false, List, [], ◌∷◌, ◌++◌, fold, refl, ap, ◌∙◌, unwrap_or, slice_get}
use Rattle.overlay_terms.specs.Trees.{Operation, intersection, union, difference, sym_difference, combined, Tree, leaf, combine, truth, Source, base_bit, definition, source_value, definition_values, last_or}
use Rattle.overlay_terms.specs.Laws.{NothingFromNothing}

-- an operation on nothing gives nothing
none_of_none : (o : Operation) → combined o false false ≡ false
none_of_none intersection = refl
none_of_none union = refl
none_of_none difference = refl
none_of_none sym_difference = refl

-- an expression is false where all leaves are
truth_of_none : {A : Type 0} (at : A → Bool) → ((a : A) → at a ≡ false) → (t : Tree A) → truth at t ≡ false
truth_of_none at h (leaf a) = h a
truth_of_none at h (combine o l r) =
    ap (λ x. combined o x (truth at r)) (truth_of_none at h l) ∙ ap (combined o false) (truth_of_none at h r) ∙ none_of_none o

-- every one of the list is false
abbrev AllFalse : List Bool → Type 0
AllFalse [] = Unit {0}
AllFalse (b ∷ bs) = (b ≡ false) × AllFalse bs

-- one more false
AllFalse-push : (bs : List Bool) (b : Bool) → AllFalse bs → b ≡ false → AllFalse (bs ++ b ∷ [])
AllFalse-push [] b h e = (e, tt)
AllFalse-push (c ∷ bs) b h e = (h.0, AllFalse-push bs b h.1 e)

-- in a list of falses any place reads false
at_false : (bs : List Bool) (k : ℕ) → AllFalse bs → unwrap_or (slice_get bs k) false ≡ false
at_false [] k h = refl
at_false (b ∷ bs) zero h = h.0
at_false (b ∷ bs) (suc k) h = at_false bs k h.1

-- over no base layer, and definitions that are false, a leaf is false
no_source : (known : List Bool) → AllFalse known → (s : Source) → source_value (λ _. false) known s ≡ false
no_source known h (base_bit k) = refl
no_source known h (definition k) = at_false known k h

-- the last of a list of falses is false
last_false : (bs : List Bool) → AllFalse bs → last_or false bs ≡ false
last_false [] h = refl
last_false (b ∷ bs) h = ap (λ c. last_or c bs) h.0 ∙ last_false bs h.1

-- over no base layer each definition is false
all_false : (ts : List (Tree Source)) (known : List Bool) → AllFalse known → AllFalse (fold (λ ks t. ks ++ truth (source_value (λ _. false) ks) t ∷ []) known ts)
all_false [] known h = h
all_false (t ∷ ts) known h = all_false ts _ (AllFalse-push known _ h (truth_of_none _ (no_source known h) t))

-- where no base layer is, no definition is
pub nothing_from_nothing : NothingFromNothing
nothing_from_nothing steps = last_false (definition_values (λ _. false) steps.definitions) (all_false steps.definitions [] tt)
