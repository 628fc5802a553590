-- Records that are put are read.
use Rattle.std.proofs.Common.{◌≡◌, ℕ, ◌+◌, ◌*◌, ◌/◌, ◌≤◌, nat_le, true, List, [], ◌∷◌, ◌++◌, length, take, drop, map, Option, Some, None, Ok, sym, ap, subst, ◌∙◌, arith}
use Rattle.std.specs.Option.{option_map}
use Rattle.std.specs.List.{flat_map, AllByRecursion}
use Rattle.std.proofs.lemmas.Bool.{and_from, le-leb}
use Rattle.std.proofs.lemmas.List.{take-take}
use Rattle.overlay_terms.specs.Layers.{Name, Content, base, derived, Layer}
use Rattle.overlay_terms.specs.Histories.{Finished}
use Rattle.disk_model.specs.Disk.{part}
use Rattle.store_terms.specs.BaseRecord.{base_of_record}
use Rattle.store_terms.specs.DefinitionRecord.{definition_of_record}
use Rattle.store_terms.specs.TileRecord.{tile_of_record}
use Rattle.store_terms.specs.declared.root.RecordExtent.{RecordExtent}
use Rattle.store_terms.specs.Catalog.{Listed, catalog_of_record}
use Rattle.store_terms.specs.Places.{blocks, bytes_at, is_placed}
use Rattle.store_terms.specs.Image.{listing_of, held_of}
use Rattle.commit_plan.proofs.Drafts.{bytes_fit}
use Rattle.commit_plan.proofs.Kept.{extents_are}
use Rattle.store_terms.specs.Spelled.{Spells, TilesAre, LayerIs, LayersAre}
use Rattle.store_terms.proofs.SpelledLemmas.{spelled_is_held, listing_spelled}
use Rattle.store_terms.proofs.RecordLemmas.{held_is_placed}
use Rattle.commit_plan.specs.declared.write.Write.{Write}
use Rattle.commit_plan.specs.Planning.{IsWritten}
use Rattle.commit_plan.specs.Staying.{LiveContent, kept_content, layer_named}
use Rattle.commit_plan.proofs.Stays.{OwnSpells, StayReads, stay_reads}
use Rattle.commit_plan.specs.Filed.{Filed, Record, fresh, stays, extent_of, fresh_of, FiledLayer, a_base, a_definition, listed_of, filed_tiles, filed_of, SpellsContent, SaysLayer, SaysTile, SpellTiles, SpellLayer, SpellLayers, IsWriteOf, AreWritesOf, FilingMakes}

-- the bytes of a record are at its place
pub record IsFiled (file : List ℕ) (f : Filed) : Type 0 where
  pub placed : is_placed file f.extent ≡ true
  pub bytes : bytes_at file f.extent ≡ f.bytes

blocks_fit : (a n len : ℕ) → 4096 * a + 4096 * n ≤ len → a + n ≤ len / 4096
blocks_fit a n len le = omega arith

front_of_part : (file : List ℕ) (at n m : ℕ) → n ≤ m → take n (part file at m) ≡ part file at n
unfolding part
front_of_part file at n m le = take-take n m (drop at file) le

put_is_filed : (file : List ℕ) (f : Filed) (w : Write) → IsWriteOf f w → IsWritten file w → IsFiled file f
put_is_filed file f w write put =
    let e = f.extent in
    let end : w.at + length w.bytes.items ≤ length file = put.within in
    let fits : e.block + blocks e.size ≤ length file / 4096 =
    blocks_fit e.block (blocks e.size) (length file) (omega (arith, end, write.there, write.blocks)) in
    let short : e.size ≤ length w.bytes.items = omega (arith, bytes_fit e.size, write.blocks) in
    record {
      placed = and_from (nat_le 2 e.block) (nat_le (e.block + blocks e.size) (length file / 4096))
          (le-leb 2 e.block write.behind) (le-leb _ _ fits);
      bytes = ap (λ (n : ℕ). part file n e.size) (sym write.there)
          ∙ sym (front_of_part file w.at e.size (length w.bytes.items) short) ∙ ap (take e.size) put.bytes
          ∙ write.front;
    }

all_filed : (file : List ℕ) (fs : List Filed) (ws : List Write) → AreWritesOf fs ws → AllByRecursion (IsWritten file) ws
    → AllByRecursion (IsFiled file) fs
all_filed file [] [] writes puts = tt
all_filed file [] (w ∷ ws) writes puts = absurd writes
all_filed file (f ∷ fs) [] writes puts = absurd writes
all_filed file (f ∷ fs) (w ∷ ws) writes puts =
    (put_is_filed file f w writes.0 puts.0, all_filed file fs ws writes.1 puts.1)

front_filed : (P : Filed → Type 0) (xs ys : List Filed) → AllByRecursion P (xs ++ ys) → AllByRecursion P xs
front_filed P [] ys all = tt
front_filed P (x ∷ xs) ys all = (all.0, front_filed P xs ys all.1)

back_filed : (P : Filed → Type 0) (xs ys : List Filed) → AllByRecursion P (xs ++ ys) → AllByRecursion P ys
back_filed P [] ys all = all
back_filed P (x ∷ xs) ys all = back_filed P xs ys all.1

filed_spells : {A : Type 0} (file : List ℕ) (f : Filed) (read : List ℕ → Option A) (value : A) → IsFiled file f
    → read f.bytes ≡ Some value → Spells file f.extent read value
filed_spells file f read value filed is = record { placed = filed.placed; is = ap read filed.bytes ∙ is }

module _ (live : LiveContent) (file : List ℕ) (reads : StayReads live file) where
  own_filed : (f : Filed) (content : Content) → IsFiled file f → SpellsContent content f.bytes
      → OwnSpells file f.extent content
  own_filed f (base rings) filed says = filed_spells file f base_of_record rings filed says
  own_filed f (derived tree) filed says = filed_spells file f definition_of_record tree filed says

  own_reads : (layer : Layer) (r : Record) → AllByRecursion (IsFiled file) (fresh_of r) → SaysLayer live layer r
      → OwnSpells file (extent_of r) layer.content
  own_reads layer (fresh f) filed says = own_filed f layer.content filed.0 says.0
  own_reads layer (stays e) filed says = reads.own layer e says

  tile_reads : (t : Finished) (r : Record) → AllByRecursion (IsFiled file) (fresh_of r) → SaysTile live t r
      → Spells file (extent_of r) (tile_of_record t.column) t.tile
  tile_reads t (fresh f) filed says = filed_spells file f (tile_of_record t.column) t.tile filed.0 says.0
  tile_reads t (stays e) filed says = reads.tile t e says

  tiles_filed : (name : Name) (k : ℕ) (ts : List (Option Record)) (tiles : List Finished)
      → AllByRecursion (IsFiled file) (filed_tiles ts) → SpellTiles live name k ts tiles
      → TilesAre file name k (map (option_map extent_of) ts) tiles
  tiles_filed name k [] tiles filed spell = spell
  tiles_filed name k (None ∷ ts) tiles filed spell = tiles_filed name (k + 1) ts tiles filed spell
  tiles_filed name k (Some r ∷ ts) tiles filed spell = (
    spell.0,
    spell.1,
    spell.2,
    tile_reads (record { name = name; column = k; tile = spell.0 }) r
        (front_filed (IsFiled file) (fresh_of r) (filed_tiles ts) filed) spell.3,
    tiles_filed name (k + 1) ts spell.1 (back_filed (IsFiled file) (fresh_of r) (filed_tiles ts) filed) spell.4,
  )

  layer_filed : (l : FiledLayer) (layer : Layer) (tiles : List Finished)
      → AllByRecursion (IsFiled file) (filed_of l) → SpellLayer live l layer tiles
      → LayerIs file (listed_of l).name (listed_of l).records layer tiles
  layer_filed (a_base name r) layer tiles filed spell =
      (spell.0, spell.1, spell.2, own_reads (layer_named name (base spell.0)) r filed spell.3)
  layer_filed (a_definition name r ts) layer tiles filed spell = (
    spell.0,
    spell.1,
    own_reads (layer_named name (derived spell.0)) r
        (front_filed (IsFiled file) (fresh_of r) (filed_tiles ts) filed) spell.2,
    tiles_filed name 0 ts tiles (back_filed (IsFiled file) (fresh_of r) (filed_tiles ts) filed) spell.3,
  )

  layers_filed : (ls : List FiledLayer) (layers : List Layer) (tiles : List Finished)
      → AllByRecursion (IsFiled file) (flat_map filed_of ls) → SpellLayers live ls layers tiles
      → LayersAre file (map listed_of ls) layers tiles
  layers_filed [] layers tiles filed spell = spell
  layers_filed (l ∷ ls) layers tiles filed spell = (
    spell.0,
    spell.1,
    spell.2,
    spell.3,
    spell.4,
    spell.5,
    layer_filed l spell.0 spell.2 (front_filed (IsFiled file) (filed_of l) (flat_map filed_of ls) filed) spell.6,
    layers_filed ls spell.1 spell.3 (back_filed (IsFiled file) (filed_of l) (flat_map filed_of ls) filed) spell.7,
  )

pub filing_makes : FilingMakes
filing_makes x y layers listing ws file shut files writes puts =
    let filed = all_filed file (flat_map filed_of layers ++ listing ∷ []) ws writes puts in
    let records = front_filed (IsFiled file) (flat_map filed_of layers) (listing ∷ []) filed in
    let last = back_filed (IsFiled file) (flat_map filed_of layers) (listing ∷ []) filed in
    let catalog_spells : Spells file y.root.catalog (catalog_of_record y.root.is_old) (map listed_of layers) =
    subst (λ (e : RecordExtent). Spells file e (catalog_of_record y.root.is_old) (map listed_of layers)) (sym files.there)
    (filed_spells file listing (catalog_of_record y.root.is_old) (map listed_of layers) last.0 files.catalog) in
    let holds : held_of file y.root ≡ Ok y.held = spelled_is_held file y.root y.held files.stored (record {
      listing = map listed_of layers;
      catalog = catalog_spells;
      layers = layers_filed (kept_content x) file (stay_reads x file shut) layers y.held.layers y.held.tiles records files.spelled;
      apart = files.apart;
      number = files.number;
    }) in
    let read : listing_of file y.root ≡ Ok (map listed_of layers) =
    listing_spelled file y.root (map listed_of layers) catalog_spells in
    let listing_is : listing_of file y.root ≡ Ok y.listing = read ∙ ap (λ (l : List Listed). Ok l) (sym files.lists) in
    record {
      listing = listing_is;
      placed = subst (λ (es : List RecordExtent). AllByRecursion (λ e. is_placed file e ≡ true) es) (extents_are y file listing_is)
          (held_is_placed file y.root y.held holds);
      holds = holds;
    }
