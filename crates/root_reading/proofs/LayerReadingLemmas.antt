-- Tiles and layers that are read, one after another: a layer with its tiles, and the loops over them.
use Rattle.std.proofs.Common.{◌≡◌, inl, inr, ℕ, ◌+◌, ◌<◌, List, [], ◌∷◌, ◌++◌, append_assoc, append-nil, length, drop, get_or, Option, Result, Ok, Err, refl, sym, ◌∙◌, ap, subst}
use Rattle.std.proofs.lemmas.List.{at_drop_more}
use Rattle.overlay_terms.specs.Plane.{WholePoint}
use Rattle.overlay_terms.specs.Layers.{Name, base, derived, Layer}
use Rattle.overlay_terms.specs.Histories.{Finished}
use Rattle.store_terms.specs.declared.damage.Damage.{Damage}
use Rattle.store_terms.specs.declared.damage.Damage.TheVariants.{RecordPlace, LayerForm}
use Rattle.store_terms.specs.BaseRecord.{base_of_record}
use Rattle.store_terms.specs.DefinitionRecord.{definition_of_record}
use Rattle.store_terms.specs.declared.root.RecordExtent.{RecordExtent}
use Rattle.store_terms.specs.Catalog.{Listed}
use Rattle.store_terms.specs.Image.{◌>>=◌, or_fault, placed_bytes, with_layer, tiles_from_column, layer_of, layers_of}
use Rattle.root_reading.specs.declared.load_fault.LoadFault.{LoadFault}
use Rattle.root_reading.specs.declared.load_fault.LoadFault.TheVariants.{Device, Damaged, OutOfMemory}
use Rattle.root_reading.specs.Looking.{Refuses}
use Rattle.root_reading.specs.LayerReading.{rings_at, layers_with_derived, then_tiles, then_layers}

-- ---- one layer

-- what goes on from a value that is there
goes_on : {A B C : Type 0} (o : Result A Damage) (f : A → Result B Damage) (more : B → Result C Damage) (y : B)
    → (o >>= f) ≡ Ok y → (o >>= λ x. f x >>= more) ≡ more y
goes_on (Ok x) f more y is = ap (λ r. r >>= more) is
goes_on (Err damage) f more y is = absurd (cc is)

goes_on_twice : {A B C X : Type 0} (o : Result A Damage) (f : A → Result B Damage) (g : B → Result C Damage)
    (more : C → Result X Damage) (y : C)
    → ((o >>= f) >>= g) ≡ Ok y → (o >>= λ x. f x >>= λ b. g b >>= more) ≡ more y
goes_on_twice (Ok x) f g more y is = goes_on (f x) g more y is
goes_on_twice (Err damage) f g more y is = absurd (cc is)

-- tiles before those of a layer, which come before those after it
joined : (front own after : List Finished) (behind : Result (List Layer × List Finished) Damage) → front ++ own ≡ after
    → then_layers front (behind >>= λ x. Ok (x.0, own ++ x.1)) ≡ then_layers after behind
joined front own after (Ok x) is =
    ap (λ (fs : List Finished). Ok (x.0, fs)) (sym (append_assoc front own x.1) ∙ ap (λ (fs : List Finished). fs ++ x.1) is)
joined front own after (Err damage) is = refl

-- the layers and tiles of a layer that is read, and of those after it
abbrev behind : List ℕ → List Listed → Result (List Layer × List Finished) Damage → Result (List Layer × List Finished) Damage
behind file rest first = first >>= λ one. layers_of file one.0 rest >>= λ x. Ok (x.0, one.1 ++ x.1)

module _ (file : List ℕ) (known layers next : List Layer) (front : List Finished) (name : Name) (e : RecordExtent) (same : next ≡ layers) where
  -- a base layer
  pub base_added : (rings : List (List WholePoint)) (after : List Finished) → rings_at file e ≡ Ok rings
      → with_layer known name (base rings) ≡ Ok layers → after ≡ front → (rest : List Listed)
      → then_layers front (layers_of file known (record { name = name; records = inl e } ∷ rest))
      ≡ then_layers after (layers_of file next rest)
  base_added rings after read kept is rest =
      let first : layer_of file known name (inl e) ≡ Ok (layers, []) =
      goes_on (placed_bytes RecordPlace file e) (λ bytes. or_fault LayerForm (base_of_record bytes))
      (λ rings. with_layer known name (base rings) >>= λ ls. Ok (ls, [])) rings read
      ∙ ap (λ (r : Result (List Layer) Damage). r >>= λ ls. Ok (ls, [])) kept in
      ap (λ (r : Result (List Layer × List Finished) Damage). then_layers front (behind file rest r)) first
      ∙ joined front [] after (layers_of file layers rest) (append-nil front ∙ sym is)
      ∙ ap (λ (ls : List Layer). then_layers after (layers_of file ls rest)) (sym same)

  -- a derived layer, whose tiles are read or are not
  module _ (entries : List (Option RecordExtent)) (there : layers_with_derived file known name e ≡ Ok layers) where
    its_tiles : layer_of file known name (inr (e, entries)) ≡ (tiles_from_column file name 0 entries >>= λ own. Ok (layers, own))
    its_tiles =
        goes_on_twice (placed_bytes RecordPlace file e) (λ bytes. or_fault LayerForm (definition_of_record bytes))
        (λ expression. with_layer known name (derived expression))
        (λ ls. tiles_from_column file name 0 entries >>= λ own. Ok (ls, own)) layers there

    pub derived_added : (after : List Finished) → then_tiles front (tiles_from_column file name 0 entries) ≡ Ok after → (rest : List Listed)
        → then_layers front (layers_of file known (record { name = name; records = inr (e, entries) } ∷ rest))
        ≡ then_layers after (layers_of file next rest)
    derived_added after read rest =
        ap (λ (r : Result (List Layer × List Finished) Damage). then_layers front (behind file rest r)) its_tiles
        ∙ by_tiles (tiles_from_column file name 0 entries) read
        ∙ ap (λ (ls : List Layer). then_layers after (layers_of file ls rest)) (sym same)
      where
        by_tiles : (own : Result (List Finished) Damage) → then_tiles front own ≡ Ok after
            → then_layers front (behind file rest (own >>= λ tiles. Ok (layers, tiles))) ≡ then_layers after (layers_of file layers rest)
        by_tiles (Ok tiles) is = joined front tiles after (layers_of file layers rest) (cc is)
        by_tiles (Err damage) is = absurd (cc is)

    pub derived_refused : (fault : LoadFault) → Refuses fault (then_tiles front (tiles_from_column file name 0 entries)) → (rest : List Listed)
        → Refuses fault (then_layers front (layers_of file known (record { name = name; records = inr (e, entries) } ∷ rest)))
    derived_refused fault refuses rest =
        subst (Refuses fault)
        (sym (ap (λ (r : Result (List Layer × List Finished) Damage). then_layers front (behind file rest r)) its_tiles))
        (by_tiles (tiles_from_column file name 0 entries) fault refuses)
      where
        by_tiles : (own : Result (List Finished) Damage) (reported : LoadFault) → Refuses reported (then_tiles front own)
            → Refuses reported (then_layers front (behind file rest (own >>= λ tiles. Ok (layers, tiles))))
        by_tiles own Device is = tt
        by_tiles own OutOfMemory is = tt
        by_tiles (Ok tiles) (Damaged damage) is = absurd (cc is)
        by_tiles (Err other) (Damaged damage) is = cc is

-- ---- the loop over the columns

pub tiles_go_on : (file mid : List ℕ) (name : Name) (k : ℕ) (entry : Option RecordExtent) (entries : List (Option RecordExtent))
    (front next : List Finished) (total : Result (List Finished) Damage)
    → mid ≡ file → k < length entries → entry ≡ get_or entries k entry
    → ((rest : List (Option RecordExtent))
    → then_tiles front (tiles_from_column mid name k (entry ∷ rest)) ≡ then_tiles next (tiles_from_column mid name (k + 1) rest))
    → then_tiles front (tiles_from_column file name k (drop k entries)) ≡ total
    → then_tiles next (tiles_from_column file name (k + 1) (drop (k + 1) entries)) ≡ total
tiles_go_on file mid name k entry entries front next total same lt is adds so_far =
    let rest = drop (k + 1) entries in
    let here : drop k entries ≡ entry ∷ rest =
    at_drop_more (λ (es : List (Option RecordExtent)). es) entries k entry lt
    ∙ ap (λ (e : Option RecordExtent). e ∷ rest) (sym is) in
    sym (subst (λ (f : List ℕ). then_tiles front (tiles_from_column f name k (entry ∷ rest))
    ≡ then_tiles next (tiles_from_column f name (k + 1) rest)) same (adds rest))
    ∙ ap (λ (es : List (Option RecordExtent)). then_tiles front (tiles_from_column file name k es)) (sym here) ∙ so_far

pub tiles_end : (file mid : List ℕ) (name : Name) (k : ℕ) (entry : Option RecordExtent) (entries : List (Option RecordExtent))
    (front : List Finished) (total : Result (List Finished) Damage) (fault : LoadFault)
    → mid ≡ file → k < length entries → entry ≡ get_or entries k entry
    → ((rest : List (Option RecordExtent)) → Refuses fault (then_tiles front (tiles_from_column mid name k (entry ∷ rest))))
    → then_tiles front (tiles_from_column file name k (drop k entries)) ≡ total → Refuses fault total
tiles_end file mid name k entry entries front total fault same lt is refuses so_far =
    let rest = drop (k + 1) entries in
    let here : drop k entries ≡ entry ∷ rest =
    at_drop_more (λ (es : List (Option RecordExtent)). es) entries k entry lt
    ∙ ap (λ (e : Option RecordExtent). e ∷ rest) (sym is) in
    subst (Refuses fault)
    (ap (λ (es : List (Option RecordExtent)). then_tiles front (tiles_from_column file name k es)) (sym here) ∙ so_far)
    (subst (λ (f : List ℕ). Refuses fault (then_tiles front (tiles_from_column f name k (entry ∷ rest)))) same (refuses rest))

-- ---- the loop over the catalog

module _ (file mid : List ℕ) (same : mid ≡ file) (k : ℕ) (l : Listed) (listing : List Listed) (lt : k < length listing)
    (is : l ≡ get_or listing k l) (known : List Layer) (front : List Finished)
    (total : Result (List Layer × List Finished) Damage) where
  here : drop k listing ≡ l ∷ drop (k + 1) listing
  here = at_drop_more (λ (ls : List Listed). ls) listing k l lt ∙ ap (λ (x : Listed). x ∷ drop (k + 1) listing) (sym is)

  pub layers_go_on : (next : List Layer) (after : List Finished)
      → ((rest : List Listed)
      → then_layers front (layers_of mid known (l ∷ rest)) ≡ then_layers after (layers_of mid next rest))
      → then_layers front (layers_of file known (drop k listing)) ≡ total
      → then_layers after (layers_of file next (drop (k + 1) listing)) ≡ total
  layers_go_on next after adds so_far =
      let rest = drop (k + 1) listing in
      sym (subst (λ (f : List ℕ). then_layers front (layers_of f known (l ∷ rest))
      ≡ then_layers after (layers_of f next rest)) same (adds rest))
      ∙ ap (λ (ls : List Listed). then_layers front (layers_of file known ls)) (sym here) ∙ so_far

  pub layers_end : (fault : LoadFault)
      → ((rest : List Listed) → Refuses fault (then_layers front (layers_of mid known (l ∷ rest))))
      → then_layers front (layers_of file known (drop k listing)) ≡ total → Refuses fault total
  layers_end fault refuses so_far =
      let rest = drop (k + 1) listing in
      subst (Refuses fault) (ap (λ (ls : List Listed). then_layers front (layers_of file known ls)) (sym here) ∙ so_far)
      (subst (λ (f : List ℕ). Refuses fault (then_layers front (layers_of f known (l ∷ rest)))) same (refuses rest))

pub no_front : (read : Result (List Layer × List Finished) Damage) → then_layers [] read ≡ read
no_front (Ok x) = refl
no_front (Err damage) = refl
