-- How many bytes a catalog has.
use Rattle.std.proofs.Common.{◌≡◌, ◌⊎◌, inl, inr, ℕ, ◌+◌, ◌*◌, List, [], ◌∷◌, ◌++◌, length, map, Option, Some, None, refl, sym, ◌∙◌, ap, arith}
use Rattle.std.specs.List.{AllByRecursion, All, flat_map, sum_by}
use Rattle.std.specs.Option.{option_map}
use Rattle.std.proofs.lemmas.List.{length-append, length-map}
use Rattle.std.proofs.lemmas.List.Sums.{sum_by-cons}
use Rattle.std.proofs.lemmas.List.Elements.{All-head, All-tail}
use Rattle.byteorder.specs.Endian.{big_bytes}
use Rattle.byteorder.specs.Numbers.{length-bytes_high_first}
use Rattle.overlay_terms.specs.Column.{column_count}
use Rattle.overlay_terms.specs.Layers.{Name, Layer}
use Rattle.overlay_terms.specs.Histories.{Finished}
use Rattle.store_terms.specs.declared.root.RecordExtent.{RecordExtent}
use Rattle.store_terms.specs.Fields.{number, counted}
use Rattle.store_terms.specs.Choices.{optional}
use Rattle.store_terms.specs.Catalog.{Listed, extent, listed, catalog}
use Rattle.store_terms.specs.Listing as has_columns
use Rattle.store_terms.specs.Listing.{entry_of as listed_code, entries_of, records_of, IsListable}
use Rattle.store_terms.specs.declared.catalog.Listed as code
use Rattle.store_terms.specs.declared.catalog.Records.{Records}
use Rattle.store_terms.specs.declared.catalog.Records.TheVariants.{Base, Derived}
use Rattle.commit_plan.specs.Filed.{Record, extent_of, FiledLayer, a_base, a_definition, listed_of, SpellTiles, SpellLayer, SpellLayers}
use Rattle.commit_plan.specs.Staying.{LiveContent}
use Rattle.commit_plan.specs.Sizes.{entry_size, catalog_size}

pub extent_long : (e : RecordExtent) → length (extent.text e) ≡ 12
extent_long e =
    length-append (big_bytes 8 e.block) (big_bytes 4 e.size)
    ∙ (λ i. length-bytes_high_first 8 e.block i + length-bytes_high_first 4 e.size i)

name_bytes : (name : Name) → length (flat_map (number 1).text name) ≡ length name
name_bytes [] = refl
name_bytes (b ∷ name) =
    length-append ((number 1).text b) (flat_map (number 1).text name)
    ∙ (λ i. length-bytes_high_first 1 b i + name_bytes name i) ∙ omega arith

pub name_long : (name : Name) → length ((counted 1 (number 1)).text name) ≡ 1 + length name
name_long name =
    length-append (big_bytes 1 (length name)) (flat_map (number 1).text name)
    ∙ (λ i. length-bytes_high_first 1 (length name) i + name_bytes name i)

-- the records of the tiles that are finished
abbrev present : List (Option Record) → List Record
present [] = []
present (None ∷ ts) = present ts
present (Some r ∷ ts) = r ∷ present ts

-- the entries of a layer's tiles, and those of them that are finished
tiles_long : (ts : List (Option Record))
    → length (flat_map (optional extent).text (map (option_map extent_of) ts)) ≡ length ts + 12 * length (present ts)
tiles_long [] = refl
tiles_long (None ∷ ts) = omega (arith, tiles_long ts)
tiles_long (Some r ∷ ts) =
    let rest = flat_map (optional extent).text (map (option_map extent_of) ts) in
    let both : length (extent.text (extent_of r) ++ rest) ≡ length (extent.text (extent_of r)) + length rest =
    length-append (extent.text (extent_of r)) rest in
    omega (arith, both, extent_long (extent_of r), tiles_long ts)

tiles_count : (live : LiveContent) (name : Name) (k : ℕ) (os : List (Option Record)) (own : List Finished)
    → SpellTiles live name k os own → length (present os) ≡ length own
tiles_count live name k [] own spelled = ap length (sym spelled)
tiles_count live name k (None ∷ os) own spelled = tiles_count live name (k + 1) os own spelled
tiles_count live name k (Some r ∷ os) own spelled =
    omega (arith, tiles_count live name (k + 1) os spelled.1 spelled.4, ap length spelled.2)

-- an entry for each column
abbrev pub HasColumns : FiledLayer → Type 0
HasColumns (a_base name f) = Unit {0}
HasColumns (a_definition name f ts) = length ts ≡ column_count

layer_long : (live : LiveContent) (l : FiledLayer) (layer : Layer) (own : List Finished) → SpellLayer live l layer own → HasColumns l
    → length ((listed column_count).text (listed_of l)) ≡ entry_size layer + 12 * length own
layer_long live (a_base name f) layer own spelled columns =
    let is : entry_size layer ≡ 14 + length name + 0 = ap entry_size spelled.1 in
    let named = (counted 1 (number 1)).text name in
    let both : length (named ++ 0 ∷ extent.text (extent_of f)) ≡ length named + (1 + length (extent.text (extent_of f))) =
    length-append named (0 ∷ extent.text (extent_of f)) ∙ omega arith in
    omega (arith, is, both, name_long name, extent_long (extent_of f), ap length spelled.2)
layer_long live (a_definition name f ts) layer own spelled columns =
    let is : entry_size layer ≡ 14 + length name + column_count = ap entry_size spelled.1 in
    let named = (counted 1 (number 1)).text name in
    let entries = flat_map (optional extent).text (map (option_map extent_of) ts) in
    let both : length (named ++ 1 ∷ (extent.text (extent_of f) ++ entries))
    ≡ length named + (1 + length (extent.text (extent_of f) ++ entries)) =
    length-append named (1 ∷ (extent.text (extent_of f) ++ entries)) ∙ omega arith in
    omega (
      arith,
      is,
      both,
      name_long name,
      length-append
          (extent.text (extent_of f)) entries,
      extent_long (extent_of f),
      tiles_long ts,
      tiles_count live name 0 ts own spelled.3,
      columns,
    )

layers_long : (live : LiveContent) (ls : List FiledLayer) (layers : List Layer) (tiles : List Finished) → SpellLayers live ls layers tiles
    → AllByRecursion HasColumns ls
    → length (flat_map (listed column_count).text (map listed_of ls)) ≡ sum_by entry_size layers + 12 * length tiles
layers_long live [] layers tiles spelled columns = sym ((λ i. sum_by entry_size (spelled.0 i) + 12 * length (spelled.1 i)))
layers_long live (l ∷ ls) layers tiles spelled columns =
    let first = layer_long live l spelled.0 spelled.2 spelled.6 columns.0 in
    let rest = layers_long live ls spelled.1 spelled.3 spelled.7 columns.1 in
    let sizes : sum_by entry_size layers ≡ entry_size spelled.0 + sum_by entry_size spelled.1 =
    ap (sum_by entry_size) spelled.4 ∙ sum_by-cons entry_size spelled.0 spelled.1 in
    let count = ap length spelled.5 ∙ length-append spelled.2 spelled.3 in
    length-append ((listed column_count).text (listed_of l)) (flat_map (listed column_count).text (map listed_of ls))
    ∙ omega (arith, first, rest, sizes, count)

pub catalog_long : (live : LiveContent) (ls : List FiledLayer) (layers : List Layer) (tiles : List Finished) → SpellLayers live ls layers tiles
    → AllByRecursion HasColumns ls
    → length ((catalog column_count).text (map listed_of ls)) ≡ catalog_size layers (length tiles)
catalog_long live ls layers tiles spelled columns =
    let front = big_bytes 2 (length (map listed_of ls)) in
    let entries = flat_map (listed column_count).text (map listed_of ls) in
    length-append front entries
    ∙ omega (
      arith,
      length-bytes_high_first 2
          (length (map listed_of ls)),
      layers_long live ls layers tiles spelled columns,
    )

-- ---- entries of the code

abbrev entries_in : RecordExtent ⊎ RecordExtent × List (Option RecordExtent) → List (Option RecordExtent)
entries_in (inl e) = []
entries_in (inr records) = records.1

code_columns : (l : code.Listed) → IsListable l → (f : FiledLayer) → listed_of f ≡ listed_code l → HasColumns f
code_columns l is (a_base name f) same = tt
code_columns l is (a_definition name f ts) same =
    by_records l.records (ap (λ (x : Listed). x.records) same) is.columns where
      by_records : (r : Records) → inr (extent_of f, map (option_map extent_of) ts) ≡ records_of r
          → has_columns.HasColumns r → length ts ≡ column_count
      by_records (Base e) same has = absurd cc
      by_records (Derived e entries) same has =
          sym (length-map ts (option_map extent_of)) ∙ ap length (ap entries_in same) ∙ has

pub have_columns : (listing : List code.Listed) (ls : List FiledLayer) → All IsListable listing
    → map listed_of ls ≡ entries_of listing → AllByRecursion HasColumns ls
have_columns [] [] all same = tt
have_columns [] (l ∷ ls) all same = absurd cc
have_columns (c ∷ listing) [] all same = tt
have_columns (c ∷ listing) (l ∷ ls) all same = (
  code_columns c (All-head IsListable c listing all) l (let e : listed_of l ≡ listed_code c = cc in e),
  have_columns listing ls (All-tail IsListable c listing all) (let e : map listed_of ls ≡ entries_of listing = cc in e),
)
