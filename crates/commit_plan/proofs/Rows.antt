-- What the rows of a table are: whole, formed, and bare where a layer is not derived.
use Rattle.std.proofs.Common.{◌≡◌, ⊎_elim, ℕ, ◌<◌, zero, suc, false, List, [], ◌∷◌, length, replicate, slice_get, get_or, Option, Some, None, refl, sym, ◌∙◌, ap, arith}
use Rattle.std.specs.Option.{option_map}
use Rattle.std.proofs.Math.ListN.{get_or-eq_default}
use Rattle.std.proofs.lemmas.Bool.{cases_lt, false≢true}
use Rattle.std.proofs.lemmas.List.{length-map}
use Rattle.std.proofs.lemmas.List.FromFn.{length-map-range_with_len}
use Rattle.overlay_terms.specs.Column.{column_count}
use Rattle.overlay_terms.specs.Layers.{Name, Layer}
use Rattle.overlay_terms.specs.Commands.{is_derived, stands_as_derived}
use Rattle.overlay_terms.specs.Histories.{tile_at}
use Rattle.layer_book.specs.Layer.{content_named}
use Rattle.layer_book.proofs.Lookups.{as_derived}
use Rattle.layer_book.proofs.Wanted.{content_there, index_at}
use Rattle.layer_tiles.specs.TileCode.{by_places, Named}
use Rattle.layer_tiles.specs.Table.{row_by, places_in, Laid, IsLaid}
use Rattle.layer_tiles.proofs.Placed.{places_at}
use Rattle.layer_tiles.proofs.Tables.{slot_by}
use Rattle.commit_plan.specs.RecordPlaces.{AreFormedIn, AreKnown, AreKnownIn}
use Rattle.commit_plan.specs.Staying.{LiveContent}

module _ (laid : Laid) (valid : IsLaid laid) (name : Name) (row : List (Option Named)) (is : places_in row ≡ row_by (tile_at laid.tiles name)) where
  pub row_whole : length row ≡ column_count
  row_whole = sym (length-map row (option_map by_places)) ∙ ap length is ∙ length-map-range_with_len (tile_at laid.tiles name) 0 column_count

  known : (k : ℕ) (tile : Named) → get_or row k None ≡ Some tile → k < column_count
  known k tile there =
      ⊎_elim (λ less. less) (λ far. let none : get_or row k None ≡ None = get_or-eq_default row None (omega (arith, far, row_whole)) in absurd (cc)) (cases_lt k column_count)

  -- the tile of a column is found
  is_found : (k : ℕ) (tile : Named) → get_or row k None ≡ Some tile → tile_at laid.tiles name k ≡ Some (by_places tile)
  is_found k tile there =
      sym (slot_by (tile_at laid.tiles name) k (known k tile there)) ∙ sym (ap (λ r. get_or r k None) is) ∙ places_at row k ∙ ap (option_map by_places) there

  pub row_formed : AreFormedIn row
  row_formed k tile there = valid.formed name k (by_places tile) (is_found k tile there)

  -- the live root has the tiles of the row where it has all
  pub row_known : (live : LiveContent) → AreKnown live laid.tiles → AreKnownIn live name row
  row_known live all k tile there = all name k (by_places tile) (is_found k tile there)

  none_there : (slots : List (Option Named)) (n : ℕ) → length slots ≡ n → ((k : ℕ) → get_or slots k None ≡ None) → slots ≡ replicate n None
  none_there [] zero long none = refl
  none_there [] (suc n) long none = absurd (omega (arith, long))
  none_there (slot ∷ slots) zero long none = absurd (omega (arith, long))
  none_there (slot ∷ slots) (suc n) long none = λ i. none 0 i ∷ none_there slots n (omega (arith, long)) (λ k. none (suc k)) i

  -- a layer that is not derived has no tile
  pub row_bare : (layer : Layer) (i : ℕ) → slice_get laid.layers i ≡ Some layer → layer.name ≡ name → is_derived layer.content ≡ false → row ≡ replicate column_count None
  row_bare layer i there named plain = none_there row column_count row_whole (λ k. by_slot k (get_or row k None) refl) where
    content : Some layer.content ≡ content_named laid.layers name
    content =
        sym (ap (option_map (λ (l : Layer). l.content)) (ap (slice_get laid.layers) (index_at [] laid.layers i layer valid.book.sound.orderly there) ∙ there))
        ∙ content_there laid.layers layer.name ∙ ap (content_named laid.layers) named

    not_derived : stands_as_derived laid.layers name ≡ false
    not_derived = as_derived laid.layers name (Some layer.content) valid.book.sound.orderly content ∙ plain

    by_slot : (k : ℕ) (slot : Option Named) → get_or row k None ≡ slot → slot ≡ None
    by_slot k None e = refl
    by_slot k (Some tile) e = absurd (false≢true (sym not_derived ∙ (valid.fit name k (by_places tile) (is_found k tile e)).0))
