-- What a look into a layer's row says of its tiles.
use Rattle.std.proofs.Common.{◌≡◌, ℕ, ◌<◌, true, false, List, [], Option, Some, None, refl, sym, ◌∙◌, ap, get_or, slice_get}
use Rattle.std.specs.Prelude.{is_some}
use Rattle.std.proofs.lemmas.Bool.{false≢true}
use Rattle.overlay_terms.specs.Column.{column_count}
use Rattle.std.specs.Option.{option_map}
use Rattle.overlay_terms.specs.Layers.{Layer}
use Rattle.overlay_terms.specs.Commands.{index_of, is_derived, stands_as_derived}
use Rattle.overlay_terms.specs.Histories.{Tile}
use Rattle.layer_book.specs.Layer.{IsBook, content_named}
use Rattle.layer_book.proofs.Lookups.{as_derived}
use Rattle.layer_book.proofs.Wanted.{content_there, index_at}
use Rattle.layer_tiles.specs.Table.{places_in, row_by}
use Rattle.layer_tiles.specs.TileCode.{Named}
use Rattle.layer_tiles.proofs.Placed.{placed_there}
use Rattle.layer_tiles.proofs.Tables.{slot_by}

empty_or_not : (o : Option Tile) → is_some o ≡ false → o ≡ None
empty_or_not None e = refl
empty_or_not (Some tile) e = absurd (cc (e))

slot_there : (found : ℕ → Option Tile) (k : ℕ) (row : List (Option Named)) → places_in row ≡ row_by found → k < column_count → get_or (places_in row) k None ≡ found k
slot_there found k row is near = ap (λ r. get_or r k None) is ∙ slot_by found k near

-- a column whose slot is empty has no tile
pub no_tile_there : (found : ℕ → Option Tile) (k : ℕ) (row : List (Option Named)) → places_in row ≡ row_by found → k < column_count → is_some (get_or row k None) ≡ false → found k ≡ None
no_tile_there found k row is near e = sym (slot_there found k row is near) ∙ empty_or_not (get_or (places_in row) k None) (placed_there row k ∙ e)

-- one whose slot is not has one
pub tile_there : (found : ℕ → Option Tile) (k : ℕ) (row : List (Option Named)) → places_in row ≡ row_by found → k < column_count → is_some (get_or row k None) ≡ true → found k ≡ None → ⊥
tile_there found k row is near e none =
    let gone : is_some (get_or (places_in row) k None) ≡ false = ap (λ (o : Option Tile). is_some o) (slot_there found k row is near ∙ none) in
    false≢true (sym gone ∙ placed_there row k ∙ e)

-- whether the layer at a place is derived
pub derived_here : (layers : List Layer) (place : ℕ) (layer : Layer) → IsBook layers → Some layer ≡ slice_get layers place → stands_as_derived layers layer.name ≡ is_derived layer.content
derived_here layers place layer book here =
    let there : index_of layers layer.name ≡ place = index_at [] layers place layer book.sound.orderly (sym here) in
    let found : Some layer.content ≡ content_named layers layer.name =
    ap (option_map (λ (l : Layer). l.content)) (here ∙ ap (λ k. slice_get layers k) (sym there)) ∙ content_there layers layer.name in
    as_derived layers layer.name (Some layer.content) book.sound.orderly found
