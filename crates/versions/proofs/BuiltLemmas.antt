-- A row says whether each tile of a layer is there.
use Rattle.std.specs.Prelude.{◌≡◌, ℕ, ◌<◌, ◌≤◌, Bool, true, false, IsTrue, List, map, slice_get, Option, Some, None, is_some, not, ◌&&◌, ◌==◌, ◌↔◌, if◌then◌else◌}
use Rattle.std.specs.List.{list_all, range_with_len}
use Rattle.std.specs.Option.{option_map}
use Rattle.std.proofs.Common.{zero, suc, get_or, refl, ap, sym, ◌∙◌, arith, ◌+◌}
use Rattle.std.proofs.lemmas.Bool.{both_ways, and_parts, and_from, eqb-true, false≢true, not-true}
use Rattle.std.proofs.lemmas.Bool.Decides.{nat_tests}
use Rattle.std.proofs.lemmas.Option.{same_Some, slice_get-map}
use Rattle.overlay_terms.specs.Column.{column_count}
use Rattle.overlay_terms.specs.Layers.{Name, Layer}
use Rattle.overlay_terms.specs.Commands.{index_of, is_derived, stands, stands_as_derived}
use Rattle.overlay_terms.specs.Histories.{Tile, Version, tile_at}
use Rattle.overlay_terms.proofs.KeptDerived.{derived_stands}
use Rattle.layer_book.specs.Layer.{content_named}
use Rattle.layer_book.proofs.Lookups.{as_derived}
use Rattle.layer_book.proofs.Wanted.{content_there}
use Rattle.layer_tiles.specs.Table.{row_by}
use Rattle.versions.specs.Building.{IsBuilt}
use Rattle.versions.specs.Finish.{IsPending}
use Rattle.versions.specs.Version.{IsVersion}
use Rattle.layer_tiles.proofs.Tables.{at_index_of, slot_by}

all_there : (f : ℕ → Option Tile) (n a : ℕ) → list_all is_some (map f (range_with_len a n)) ≡ true → (k : ℕ) → a ≤ k → k < a + n → is_some (f k) ≡ true
all_there f zero a all k low high = absurd (omega arith)
all_there f (suc n) a all k low high = split (a == k) refl (λ more. all_there f n (a + 1) (and_parts (is_some (f a)) (list_all is_some (map f (range_with_len (a + 1) n))) all).1 k more (omega (arith, high))) where
  split : (b : Bool) → (a == k) ≡ b → (a + 1 ≤ k → is_some (f k) ≡ true) → is_some (f k) ≡ true
  split true same next = ap (λ j. is_some (f j)) (sym (eqb-true a k same)) ∙ (and_parts (is_some (f a)) (list_all is_some (map f (range_with_len (a + 1) n))) all).0
  split false other next =
      let more : a + 1 ≤ k = grind (arith, nat_tests) in
      next more

all_from : (f : ℕ → Option Tile) (n a : ℕ) → ((k : ℕ) → a ≤ k → k < a + n → is_some (f k) ≡ true) → list_all is_some (map f (range_with_len a n)) ≡ true
all_from f zero a each = refl
all_from f (suc n) a each =
    and_from (is_some (f a)) (list_all is_some (map f (range_with_len (a + 1) n))) (each a (omega arith) (omega arith))
    (all_from f n (a + 1) (λ k low high. each k (omega arith) (omega (arith, high))))

-- the name of the layer at the index of a name
pub name_there : (layers : List Layer) (name : Name) (layer : Layer) → slice_get layers (index_of layers name) ≡ Some layer → layer.name ≡ name
name_there layers name layer e =
    split (stands layers name)
    (sym (ap (option_map (λ (l : Layer). l.name)) e) ∙ sym (slice_get-map (λ (l : Layer). l.name) layers (index_of layers name)) ∙ at_index_of (λ (n : Name). n) layers name)
  where
    split : (b : Bool) → Some layer.name ≡ (if b then Some name else None) → layer.name ≡ name
    split true here = same_Some layer.name name here
    split false here = absurd (cc)

unknown_there : (layers : List Layer) (name : Name) → slice_get layers (index_of layers name) ≡ None → stands layers name ≡ false
unknown_there layers name e =
    split (stands layers name)
    (sym (ap (option_map (λ (l : Layer). l.name)) e) ∙ sym (slice_get-map (λ (l : Layer). l.name) layers (index_of layers name)) ∙ at_index_of (λ (n : Name). n) layers name)
  where
    split : (b : Bool) → ◌≡◌ {A = Option Name} None (if b then Some name else None) → b ≡ false
    split true here = absurd (cc)
    split false here = refl

-- a full row is one of a layer whose tiles are all there
pub built_by_row : (version : Version) (name : Name) (i : ℕ) (layer : Layer) (row : List (Option Tile)) (full : Bool) → i ≡ index_of version.layers name → Some layer ≡ slice_get version.layers i → row ≡ row_by (tile_at version.tiles layer.name) → full ≡ list_all is_some row → IsTrue full ↔ IsBuilt version name
built_by_row version name i layer row full index there is told =
    let same : layer.name ≡ name = name_there version.layers name layer (ap (slice_get version.layers) (sym index) ∙ sym there) in
    let all : full ≡ list_all is_some (row_by (tile_at version.tiles name)) = told ∙ ap (list_all is_some) (is ∙ ap (λ n. row_by (tile_at version.tiles n)) same) in (
      λ yes k high. all_there (tile_at version.tiles name) column_count 0 (sym all ∙ yes) k (omega arith) (omega (arith, high)),
      λ each. all ∙ all_from (tile_at version.tiles name) column_count 0 (λ k low high. each k (omega (arith, high))),
    )

-- where no layer has the name, no tile is there
pub built_nowhere : (version : Version) (name : Name) (i : ℕ) → IsVersion version → i ≡ index_of version.layers name → None ≡ slice_get version.layers i → IsTrue false ↔ IsBuilt version name
built_nowhere version name i valid index there = (
  λ no. absurd (false≢true no),
  λ each.
      let strange : stands version.layers name ≡ false = unknown_there version.layers name (ap (slice_get version.layers) (sym index) ∙ sym there) in
      absurd (none_of (tile_at version.tiles name 0) refl (each 0 (omega arith)) strange),
) where
  none_of : (o : Option Tile) → tile_at version.tiles name 0 ≡ o → is_some (tile_at version.tiles name 0) ≡ true → stands version.layers name ≡ false → ⊥
  none_of None e some strange = absurd (false≢true (sym (ap is_some e) ∙ some))
  none_of (Some tile) e some strange = both_ways (stands version.layers name) strange (derived_stands version.layers name (valid.fit name 0 tile e).0)

gone : (o : Option Tile) → is_some o ≡ false → o ≡ None
gone None e = refl
gone (Some tile) e = absurd (cc (e))

-- whether a tile is pending follows from its layer and the layer's row
pub pending_by_row : (version : Version) (name : Name) (i k : ℕ) (layer : Layer) (row : List (Option Tile)) (kind has : Bool) → IsVersion version → k < column_count → i ≡ index_of version.layers name → Some layer ≡ slice_get version.layers i
    → row ≡ row_by (tile_at version.tiles layer.name) → kind ≡ is_derived layer.content → has ≡ is_some (get_or row k None) → IsTrue (kind && not has) ↔ IsPending version name k
pending_by_row version name i k layer row kind has valid near index there is derived told =
    let same : layer.name ≡ name = name_there version.layers name layer (ap (slice_get version.layers) (sym index) ∙ sym there) in
    let slot : get_or row k None ≡ tile_at version.tiles name k =
    ap (λ r. get_or r k None) (is ∙ ap (λ n. row_by (tile_at version.tiles n)) same) ∙ slot_by (tile_at version.tiles name) k near in
    let found : Some layer.content ≡ content_named version.layers name =
    ap (option_map (λ (l : Layer). l.content)) (there ∙ ap (slice_get version.layers) index) ∙ content_there version.layers name in
    let stands : stands_as_derived version.layers name ≡ kind = as_derived version.layers name (Some layer.content) valid.book.sound.orderly found ∙ sym derived in (
      λ yes.
          let both = and_parts kind (not has) yes in
          (stands ∙ both.0, gone (tile_at version.tiles name k) (ap is_some (sym slot) ∙ sym told ∙ not-true has both.1)),
      λ pending. and_from kind (not has) (sym stands ∙ pending.0) (ap not (told ∙ ap is_some (slot ∙ pending.1))),
    )

-- where no layer has the name, no tile is pending
pub pending_nowhere : (version : Version) (name : Name) (i k : ℕ) → i ≡ index_of version.layers name → None ≡ slice_get version.layers i → IsTrue false ↔ IsPending version name k
pending_nowhere version name i k index there = (
  λ no. absurd (false≢true no),
  λ pending.
      let strange : stands version.layers name ≡ false = unknown_there version.layers name (ap (slice_get version.layers) (sym index) ∙ sym there) in
      absurd (both_ways (stands version.layers name) strange (derived_stands version.layers name pending.0)),
)
