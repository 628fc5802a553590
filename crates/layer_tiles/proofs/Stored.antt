-- The tiles of layers that are laid out are as a file holds them.
use Rattle.std.specs.Prelude.{◌≡◌, false, IsTrue, List, [], ◌∷◌, Some, All}
use Rattle.std.specs.List.{AllPairs}
use Rattle.std.proofs.Common.{get_or, ap, ◌∙◌, cond}
use Rattle.std.proofs.lemmas.Bool.{both_ways, false_from_ne_true}
use Rattle.std.proofs.lemmas.List.Elements.{All-nil, All-cons}
use Rattle.overlay_terms.specs.Layers.{Layer}
use Rattle.overlay_terms.specs.Histories.{Finished, tile_at}
use Rattle.overlay_terms.specs.StoredTiles.{is_tile_before, AreStored}
use Rattle.layer_tiles.specs.Tiles.{is_of}
use Rattle.layer_tiles.specs.Table.{Laid, IsLaid}
use Rattle.layer_tiles.proofs.Restored.{behind_first, behind_rest, is_own, never_before}

-- of tiles in order each is found
found_each : (layers : List Layer) (tiles : List Finished) → AllPairs (λ a b. IsTrue (is_tile_before layers a b)) tiles → All (λ f. tile_at tiles f.name f.column ≡ Some f.tile) tiles
found_each layers [] ordered = All-nil (λ f. tile_at [] f.name f.column ≡ Some f.tile)
found_each layers (x ∷ xs) ordered =
    All-cons (λ f. tile_at (x ∷ xs) f.name f.column ≡ Some f.tile) x xs (ap (λ b. cond b (Some x.tile) (tile_at xs x.name x.column)) (is_own layers x))
    (λ k d h.
    let f = get_or xs k d in
    let before = behind_first layers x xs ordered k d h in
    let other : is_of f.name f.column x ≡ false = false_from_ne_true (is_of f.name f.column x) (λ same. both_ways (is_tile_before layers x f) (never_before layers x f same) before) in
    ap (λ b. cond b (Some x.tile) (tile_at xs f.name f.column)) other ∙ found_each layers xs (behind_rest layers x xs ordered) k d h)

pub laid_is_stored : (laid : Laid) → IsLaid laid → AreStored laid.layers laid.tiles
laid_is_stored laid valid = record {
  derived_layers = λ k d h. let f = get_or laid.tiles k d in (valid.fit f.name f.column f.tile (found_each laid.layers laid.tiles valid.ordered k d h)).0;
  known_columns = λ k d h. let f = get_or laid.tiles k d in (valid.fit f.name f.column f.tile (found_each laid.layers laid.tiles valid.ordered k d h)).1;
  formed = λ k d h. let f = get_or laid.tiles k d in valid.formed f.name f.column f.tile (found_each laid.layers laid.tiles valid.ordered k d h);
  ordered = valid.ordered;
}
