-- The number that stands for a name among base layers and definitions, and what it reads.
use Rattle.std.specs.Prelude.{◌≡◌, ℕ, ◌+◌, Bool, true, false, ◌||◌, List, [], ◌∷◌, ◌++◌, map, length, slice_get, unwrap_or, bytes_eq, if◌then◌else◌}
use Rattle.std.proofs.Common.{refl, ap, ◌∙◌, subst, append_assoc}
use Rattle.std.proofs.lemmas.Bool.{or_parts}
use Rattle.std.proofs.lemmas.List.{length_push}
use Rattle.overlay_terms.specs.Trees.{Source, base_bit, definition, source_value}
use Rattle.overlay_terms.specs.Layers.{Name, source_of}
use Rattle.overlay_terms.specs.Orderly.{is_among}
use Rattle.overlay_terms.proofs.NameLemmas.{same_name}
use Rattle.overlay_terms.proofs.TableLemmas.{or_second}

-- the number of a name among definitions, counted on from a number
abbrev definition_from : Name → List Name → ℕ → Source
definition_from name [] k = definition k
definition_from name (d ∷ ds) k = if bytes_eq d name then definition k else definition_from name ds (k + 1)

-- the number of a name among base layers, counted on from a number, or else among definitions
abbrev source_from : List Name → Name → List Name → ℕ → Source
source_from definitions name [] k = definition_from name definitions 0
source_from definitions name (b ∷ bs) k = if bytes_eq b name then base_bit k else source_from definitions name bs (k + 1)

-- each number from k on has the value of the name at its place
abbrev pub Matches : (Name → Bool) → (ℕ → Bool) → List Name → ℕ → Type 0
Matches value at [] k = Unit {0}
Matches value at (n ∷ ns) k = (at k ≡ value n) × Matches value at ns (k + 1)

module _ (value : Name → Bool) (bits : ℕ → Bool) (known : List Bool) (u : Name) where
  -- one name of a base layer, by whether it is the one looked for
  base_by : (n : Name) (k : ℕ) (next : Source) (b : Bool) → bytes_eq n u ≡ b → bits k ≡ value n → (b ≡ false → source_value bits known next ≡ value u) → source_value bits known (if b then base_bit k else next) ≡ value u
  base_by n k next true e here later = here ∙ ap value (same_name n u e)
  base_by n k next false e here later = later refl

  -- the number of a base layer reads its value
  source_base : (definitions ns : List Name) (k : ℕ) → Matches value bits ns k → is_among ns u ≡ true → source_value bits known (source_from definitions u ns k) ≡ value u
  source_base definitions [] k matches h = absurd (cc)
  source_base definitions (n ∷ ns) k matches h =
      base_by n k (source_from definitions u ns (k + 1)) (bytes_eq n u) refl matches.0 (λ e. source_base definitions ns (k + 1) matches.1 (or_second (bytes_eq n u) _ h e))

  -- a name that no base layer has is looked for among definitions
  source_past : (definitions ns : List Name) (k : ℕ) → is_among ns u ≡ false → source_from definitions u ns k ≡ definition_from u definitions 0
  source_past definitions [] k h = refl
  source_past definitions (n ∷ ns) k h =
      let parts = or_parts (bytes_eq n u) (is_among ns u) h in
      ap (λ b. if b then base_bit k else source_from definitions u ns (k + 1)) parts.0 ∙ source_past definitions ns (k + 1) parts.1

  -- one name of a definition, by whether it is the one looked for
  definition_by : (n : Name) (k : ℕ) (next : Source) (b : Bool) → bytes_eq n u ≡ b → unwrap_or (slice_get known k) false ≡ value n → (b ≡ false → source_value bits known next ≡ value u) → source_value bits known (if b then definition k else next) ≡ value u
  definition_by n k next true e here later = here ∙ ap value (same_name n u e)
  definition_by n k next false e here later = later refl

  -- the number of a definition so far reads its value
  source_definition : (ns more : List Name) (k : ℕ) → Matches value (λ j. unwrap_or (slice_get known j) false) ns k → is_among ns u ≡ true → source_value bits known (definition_from u (ns ++ more) k) ≡ value u
  source_definition [] more k matches h = absurd (cc)
  source_definition (n ∷ ns) more k matches h =
      definition_by n k (definition_from u (ns ++ more) (k + 1)) (bytes_eq n u) refl matches.0 (λ e. source_definition ns more (k + 1) matches.1 (or_second (bytes_eq n u) _ h e))

-- what comes after a list is found by its length
found_behind : (done : List Bool) (x : Bool) (xs : List Bool) → unwrap_or (slice_get (done ++ x ∷ xs) (length done)) false ≡ x
found_behind [] x xs = refl
found_behind (d ∷ done) x xs = found_behind done x xs

-- the values of names, after others, match the names
values_match : (value : Name → Bool) (ns : List Name) (done : List Bool) → Matches value (λ j. unwrap_or (slice_get (done ++ map value ns) j) false) ns (length done)
values_match value [] done = tt
values_match value (n ∷ ns) done = (
  found_behind done (value n) (map value ns),
  subst (λ k. Matches value (λ j. unwrap_or (slice_get (done ++ value n ∷ map value ns) j) false) ns k) (length_push done (value n))
      (subst (λ bs. Matches value (λ j. unwrap_or (slice_get bs j) false) ns (length (done ++ value n ∷ []))) (append_assoc done (value n ∷ []) (map value ns)) (values_match value ns (done ++ value n ∷ []))),
)

-- a name among the base layers, or among the definitions so far, reads its value
pub source_reads : (value : Name → Bool) (bits : ℕ → Bool) (bases definitions before behind : List Name) (u : Name) → Matches value bits bases 0 → definitions ≡ before ++ behind → (is_among bases u || is_among before u) ≡ true → source_value bits (map value before) (source_of bases definitions u) ≡ value u
source_reads value bits bases definitions before behind u matches split h = by_base (is_among bases u) refl where
  -- by whether a base layer has the name
  by_base : (b : Bool) → is_among bases u ≡ b → source_value bits (map value before) (source_of bases definitions u) ≡ value u
  by_base true e = source_base value bits (map value before) u definitions bases 0 matches e
  by_base false e =
      ap (source_value bits (map value before)) (source_past value bits (map value before) u definitions bases 0 e ∙ ap (λ ds. definition_from u ds 0) split)
      ∙ source_definition value bits (map value before) u before behind 0 (values_match value before []) (or_second (is_among bases u) _ h e)
