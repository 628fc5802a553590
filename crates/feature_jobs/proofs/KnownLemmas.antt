-- What is known of features, one after another.
use Rattle.std.proofs.Common.{◌≡◌, ◌⊎◌, inl, inr, ℕ, zero, suc, ◌+◌, ◌≤◌, List, [], ◌∷◌, ◌++◌, length, take, drop, refl, ap, sym, ◌∙◌, subst, arith}
use Rattle.std.specs.Prelude.{Option, Some, All, slice_get, unwrap_or}
use Rattle.std.proofs.lemmas.List.{length_push}
use Rattle.std.proofs.lemmas.List.Elements.{All-nil, All-cons}
use Rattle.std.proofs.lemmas.Option.{slice_get_within}
use Rattle.overlay_terms.specs.Plane.{WholePoint}
use Rattle.block_reading.specs.Block.{dealt}
use Rattle.feature_jobs.specs.Known.{AreKnown, IsKnownAs}
use Rattle.feature_jobs.specs.Pairs.{IsAreaOf, HasNoPoint}
use Rattle.feature_jobs.specs.declared.known.Known.{Known}
use Rattle.feature_jobs.specs.declared.known.Knowing.{Knowing}
use Rattle.feature_jobs.specs.declared.known.Knowing.TheVariants as knowing

pub some_same : {X : Type 0} (x y : X) → Some x ≡ Some y → x ≡ y
some_same x y e = ap (λ (o : Option _). unwrap_or o x) e

one_on : {X : Type 0} (zs : List X) (i : ℕ) (x y : X) → (slice_get zs i ≡ Some y) ⊎ ((i ≡ length zs) × (x ≡ y)) → (slice_get zs i ≡ Some y) ⊎ ((suc i ≡ suc (length zs)) × (x ≡ y))
one_on zs i x y (inl h) = inl h
one_on zs i x y (inr h) = inr (ap suc h.0, h.1)

-- what a list with one more element has at a place
pushed : {X : Type 0} (xs : List X) (x y : X) (i : ℕ) → slice_get (xs ++ x ∷ []) i ≡ Some y → (slice_get xs i ≡ Some y) ⊎ ((i ≡ length xs) × (x ≡ y))
pushed [] x y zero e = inr (refl, some_same x y e)
pushed [] x y (suc i) e = cc
pushed (z ∷ zs) x y zero e = inl e
pushed (z ∷ zs) x y (suc i) e = one_on zs i x y (pushed zs x y i e)

either : (features : List (List (List WholePoint))) (list : List Knowing) (one : Knowing) (feature : ℕ) (known : Known) → AreKnown features list → IsKnownAs features (length list) one
    → (slice_get list feature ≡ Some (knowing.Known known)) ⊎ ((feature ≡ length list) × (one ≡ knowing.Known known)) → IsAreaOf features feature known.found
either features list one feature known so_far more (inl h) = so_far feature known h
either features list one feature known so_far more (inr h) =
    subst (λ (f : ℕ). IsAreaOf features f known.found) (sym h.0) (subst (IsKnownAs features (length list)) h.1 more)

more_known : (features : List (List (List WholePoint))) (list new : List Knowing) (one : Knowing) → AreKnown features list → IsKnownAs features (length list) one
    → new ≡ list ++ one ∷ [] → AreKnown features new
more_known features list new one so_far more is feature known e =
    either features list one feature known so_far more (pushed list one (knowing.Known known) feature (subst (λ (l : List Knowing). slice_get l feature ≡ Some (knowing.Known known)) is e))

-- as many as there are so far, and what is known of each
abbrev pub AreFirst : List (List (List WholePoint)) → ℕ → List Knowing → Type 0
AreFirst features count list = (length list ≡ count) × AreKnown features list

pub one_more : (features : List (List (List WholePoint))) (count : ℕ) (list new : List Knowing) (one : Knowing) → AreFirst features count list → IsKnownAs features count one
    → new ≡ list ++ one ∷ [] → AreFirst features (count + 1) new
one_more features count list new one so_far more is = (
  ap length is ∙ length_push list one ∙ ap (λ (n : ℕ). n + 1) so_far.0,
  more_known features list new one so_far.1 (subst (λ (n : ℕ). IsKnownAs features n one) (sym so_far.0) more) is,
)

-- points that are dealt out where there are none
take_none : (n : ℕ) → ◌≡◌ {A = List WholePoint} (take n []) []
take_none zero = refl
take_none (suc n) = refl

drop_none : (n : ℕ) → ◌≡◌ {A = List WholePoint} (drop n []) []
drop_none zero = refl
drop_none (suc n) = refl

abbrev IsEmpty : List WholePoint → Type 0
IsEmpty ring = ring ≡ []

dealt_none : (counts : List ℕ) → All IsEmpty (dealt counts [])
dealt_none [] = All-nil IsEmpty
dealt_none (n ∷ ns) = All-cons IsEmpty (take n []) (dealt ns (drop n [])) (take_none n) (subst (λ (xs : List WholePoint). All IsEmpty (dealt ns xs)) (sym (drop_none n)) (dealt_none ns))

pub no_point : (features : List (List (List WholePoint))) (feature : ℕ) (rings : List (List WholePoint)) (counts : List ℕ) (points : List WholePoint)
    → slice_get features feature ≡ Some rings → dealt counts points ≡ rings → points ≡ [] → HasNoPoint features feature
no_point features feature rings counts points there is none others e =
    subst (All IsEmpty) (ap (λ (xs : List WholePoint). dealt counts xs) (sym none) ∙ is ∙ some_same rings others (sym there ∙ e)) (dealt_none counts)

pub not_there : (features : List (List (List WholePoint))) (feature : ℕ) → length features ≤ feature → HasNoPoint features feature
not_there features feature past rings e = absurd (omega (arith, past, slice_get_within features feature rings e))
