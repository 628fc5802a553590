-- The number that stands for a name among layers in reach.
use Rattle.std.proofs.Common.{◌≡◌, ℕ, suc, ◌+◌, ◌<◌, ◌≤◌, nat_lt, Bool, true, false, not, cond, List, [], ◌∷◌, ◌++◌, length, refl, ap, ◌∙◌, arith, if◌then◌else◌, bytes_eq, Option, Some, None, is_some, is_none, filter, map, Bor, position}
use Rattle.std.specs.List.{position_or_len, take_while}
use Rattle.std.proofs.lemmas.Bool.{or_parts, ltb-true, ltb-false}
use Rattle.std.proofs.lemmas.List.Folds.{length-prefix_len}
use Rattle.overlay_terms.specs.Trees.{Tree, Source, base_bit, definition}
use Rattle.overlay_terms.specs.Layers.{Name}
use Rattle.overlay_terms.specs.Orderly.{is_among}
use Rattle.layer_expr.specs.StepList.{Reached, reached, base_names, definitions_of, source_among}

-- `source_of`, its two searches by name
abbrev pub among : Name → List Name → ℕ → Source
among name [] k = definition k
among name (d ∷ ds) k = if bytes_eq d name then definition k else among name ds (k + 1)

abbrev pub first_of : Name → List Name → List Name → ℕ → Source
first_of name definitions [] k = among name definitions 0
first_of name definitions (b ∷ bs) k = if bytes_eq b name then base_bit k else first_of name definitions bs (k + 1)

-- names that miss are passed over
pub first_of-miss : (name : Name) (definitions missed others : List Name) (k : ℕ) → is_among missed name ≡ false → first_of name definitions (missed ++ others) k ≡ first_of name definitions others (k + length missed)
first_of-miss name definitions [] others k h = ap (first_of name definitions others) (omega arith)
first_of-miss name definitions (b ∷ bs) others k h =
    let apart = or_parts (bytes_eq b name) (is_among bs name) h in
    rw apart.0 (first_of-miss name definitions bs others (k + 1) apart.1 ∙ ap (first_of name definitions others) (omega arith))

pub first_of-absent : (name : Name) (definitions missed : List Name) (k : ℕ) → is_among missed name ≡ false → first_of name definitions missed k ≡ among name definitions 0
first_of-absent name definitions [] k h = refl
first_of-absent name definitions (b ∷ bs) k h =
    let apart = or_parts (bytes_eq b name) (is_among bs name) h in
    rw apart.0 (first_of-absent name definitions bs (k + 1) apart.1)

pub among-miss : (name : Name) (missed others : List Name) (k : ℕ) → is_among missed name ≡ false → among name (missed ++ others) k ≡ among name others (k + length missed)
among-miss name [] others k h = ap (among name others) (omega arith)
among-miss name (d ∷ ds) others k h =
    let apart = or_parts (bytes_eq d name) (is_among ds name) h in
    rw apart.0 (among-miss name ds others (k + 1) apart.1 ∙ ap (among name others) (omega arith))

-- the place of a name among some names, or how many they are
abbrev place : Name → List Name → ℕ
place name names = position_or_len (λ other. bytes_eq other name) names

among-place : (name : Name) (names : List Name) (k : ℕ) → among name names k ≡ definition (k + place name names)
among-place name [] k = ap definition (omega arith)
among-place name (d ∷ ds) k =
    elim (bytes_eq d name) as (λ b. cond b (definition k) (among name ds (k + 1)) ≡ definition (k + cond (not b) (1 + place name ds) 0)) [
      | true ↦ ap definition (omega arith)
      | false ↦ among-place name ds (k + 1) ∙ ap definition (omega arith)
    ]

first_of-found : (name : Name) (definitions bases : List Name) (k : ℕ) → place name bases < length bases → first_of name definitions bases k ≡ base_bit (k + place name bases)
first_of-found name definitions [] k = λ h. absurd (omega (arith, h))
first_of-found name definitions (b ∷ bs) k =
    elim (bytes_eq b name) as (λ v. (cond (not v) (1 + place name bs) 0 < suc (length bs)) → cond v (base_bit k) (first_of name definitions bs (k + 1)) ≡ base_bit (k + cond (not v) (1 + place name bs) 0)) [
      | true ↦ λ h. ap base_bit (omega arith)
      | false ↦ λ h. first_of-found name definitions bs (k + 1) (omega (arith, h)) ∙ ap base_bit (omega arith)
    ]

first_of-passed : (name : Name) (definitions bases : List Name) (k : ℕ) → length bases ≤ place name bases → first_of name definitions bases k ≡ among name definitions 0
first_of-passed name definitions [] k = λ h. refl
first_of-passed name definitions (b ∷ bs) k =
    elim (bytes_eq b name) as (λ v. (suc (length bs) ≤ cond (not v) (1 + place name bs) 0) → cond v (base_bit k) (first_of name definitions bs (k + 1)) ≡ among name definitions 0) [
      | true ↦ λ h. absurd (omega (arith, h))
      | false ↦ λ h. first_of-passed name definitions bs (k + 1) (omega (arith, h))
    ]

-- a position is the first place that passes
by_test : (b : Bool) (at count i : ℕ) → nat_lt at count ≡ b → cond b (Some at) None ≡ Some i → (at ≡ i) × (at < count)
by_test true at count i e h = (cc, ltb-true at count e)
by_test false at count i e h = cc

by_no_test : (b : Bool) (at count : ℕ) → nat_lt at count ≡ b → cond b (Some at) None ≡ None → count ≤ at
by_no_test true at count e h = cc
by_no_test false at count e h = ltb-false at count e

module _ {A : Type 0} where
  pub position-found : (p : A → Bool) (xs : List A) (i : ℕ) → position p xs ≡ Some i → (position_or_len p xs ≡ i) × (position_or_len p xs < length xs)
  position-found p xs i h = by_test (nat_lt (position_or_len p xs) (length xs)) _ _ i refl h

  pub position-none : (p : A → Bool) (xs : List A) → position p xs ≡ None → length xs ≤ position_or_len p xs
  position-none p xs h = by_no_test (nat_lt (position_or_len p xs) (length xs)) _ _ refl h

-- what lends a list of layers in reach
abbrev pub Lent : Type 0
Lent = Bor Name × Option (Bor (Tree Name))

abbrev pub has_name : Name → Lent → Bool
has_name name layer = bytes_eq layer.0.now name

lent_bases : (name : Name) (layers : List Lent) → (position_or_len (has_name name) (filter (λ layer. is_none layer.1) layers) ≡ place name (base_names (reached layers))) × (length (filter (λ layer. is_none layer.1) layers) ≡ length (base_names (reached layers)))
lent_bases name [] = (refl, refl)
lent_bases name ((other, None) ∷ layers) =
    (ap (λ k. cond (not (bytes_eq other.now name)) (1 + k) 0) (lent_bases name layers).0, ap suc (lent_bases name layers).1)
lent_bases name ((other, Some e) ∷ layers) = lent_bases name layers

abbrev pub definition_names : List Reached → List Name
definition_names layers = map (λ d. d.0) (definitions_of layers)

lent_definitions : (name : Name) (layers : List Lent) → position_or_len (has_name name) (filter (λ layer. is_some layer.1) layers) ≡ place name (definition_names (reached layers))
lent_definitions name [] = refl
lent_definitions name ((other, None) ∷ layers) = lent_definitions name layers
lent_definitions name ((other, Some e) ∷ layers) =
    ap (λ k. cond (not (bytes_eq other.now name)) (1 + k) 0) (lent_definitions name layers)

-- a name found among the base layers stands for that base layer
pub source_among-found : (name : Name) (layers : List Lent) (k : ℕ) → position (has_name name) (filter (λ layer. is_none layer.1) layers) ≡ Some k → source_among (reached layers) name ≡ base_bit k
source_among-found name layers k h =
    let found = position-found (has_name name) (filter (λ layer. is_none layer.1) layers) k h in
    let same = lent_bases name layers in
    let within : place name (base_names (reached layers)) < length (base_names (reached layers)) = omega (arith, found.1, same.0, same.1) in
    first_of-found name (definition_names (reached layers)) (base_names (reached layers)) 0 within ∙ ap base_bit (omega (arith, found.0, same.0))

-- any other name stands for the first definition of that name
pub source_among-passed : (name : Name) (layers : List Lent) → position (has_name name) (filter (λ layer. is_none layer.1) layers) ≡ None → source_among (reached layers) name ≡ definition (length (take_while (λ layer. not (has_name name layer)) (filter (λ layer. is_some layer.1) layers)))
source_among-passed name layers h =
    let same = lent_bases name layers in
    let none = position-none (has_name name) (filter (λ layer. is_none layer.1) layers) h in
    first_of-passed name (definition_names (reached layers)) (base_names (reached layers)) 0 (omega (arith, none, same.0, same.1))
    ∙ among-place name (definition_names (reached layers)) 0
    ∙ ap definition (omega (arith, lent_definitions name layers, length-prefix_len (λ layer. not (has_name name layer)) (filter (λ layer. is_some layer.1) layers)))
