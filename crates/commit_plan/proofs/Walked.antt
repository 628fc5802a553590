-- Records of layers and of their rows of tiles, one after another.
use Rattle.std.proofs.Common.{◌≡◌, inl, inr, ℕ, ◌+◌, ◌<◌, zero, suc, false, true, List, [], ◌∷◌, ◌++◌, length, take, replicate, slice_get, get_or, Option, Some, None, refl, sym, ◌∙◌, ap, subst, add-one, add-zero, append_assoc, arith}
use Rattle.std.specs.List.{flat_map}
use Rattle.std.specs.Option.{option_map}
use Rattle.std.proofs.lemmas.List.{append-nil, length-map, map-append, take_all}
use Rattle.std.proofs.lemmas.List.Concat.{flat_map-append}
use Rattle.overlay_terms.specs.Column.{column_count}
use Rattle.overlay_terms.specs.Layers.{Name, Content, base, derived, Layer}
use Rattle.overlay_terms.specs.Commands.{is_derived}
use Rattle.overlay_terms.specs.Histories.{Tile, Finished}
use Rattle.layer_book.proofs.Answering.{take_there}
use Rattle.tile_build.specs.Tile.{named_pieces, tile_of}
use Rattle.tile_build.specs.declared.tile.Tile as code
use Rattle.layer_tiles.specs.Filling.{finished_as}
use Rattle.layer_tiles.specs.TileCode.{by_places, Named}
use Rattle.layer_tiles.specs.Table.{row_tiles, tiles_of, places_in, placed_rows}
use Rattle.layer_tiles.proofs.FillingLemmas.{column_more, layer_more, tiles_whole}
use Rattle.layer_tiles.proofs.Placed.{by_its_names, places_at}
use Rattle.store_terms.specs.declared.root.RecordExtent.{RecordExtent}
use Rattle.store_terms.specs.Catalog.{Listed}
use Rattle.commit_plan.specs.declared.write.Write.{Write}
use Rattle.commit_plan.specs.Staying.{LiveContent, layer_named}
use Rattle.commit_plan.specs.Filed.{Filed, Record, extent_of, fresh_of, FiledLayer, a_base, a_definition, listed_of, filed_tiles, filed_of, AreWritesOf, SaysLayer, SaysTile, SpellTiles, SpellLayer, SpellLayers}
use Rattle.commit_plan.specs.Drafted.{Drafted, with_filed}
use Rattle.commit_plan.specs.RecordPlaces.{IsFiled, IsSlotFiled, AreTilesFiled, IsLayerFiled, AreLayersFiled}
use Rattle.commit_plan.proofs.Drafts.{filed_twice, nothing_more}

pub writes_count : (fs : List Filed) (ws : List Write) → AreWritesOf fs ws → length ws ≡ length fs
writes_count [] [] writes = refl
writes_count [] (w ∷ ws) writes = absurd writes
writes_count (f ∷ fs) [] writes = absurd writes
writes_count (f ∷ fs) (w ∷ ws) writes = omega (arith, writes_count fs ws writes.1)

-- ---- rows

filed_both : (os ps : List (Option Record)) → filed_tiles (os ++ ps) ≡ filed_tiles os ++ filed_tiles ps
filed_both [] ps = refl
filed_both (None ∷ os) ps = filed_both os ps
filed_both (Some r ∷ os) ps = ap (λ (l : List Filed). fresh_of r ++ l) (filed_both os ps) ∙ sym (append_assoc (fresh_of r) (filed_tiles os) (filed_tiles ps))

-- a row without a tile has none
bare_tiles : (name : Name) (n k : ℕ) → row_tiles name k (places_in (replicate n None)) ≡ []
bare_tiles name zero k = refl
bare_tiles name (suc n) k = bare_tiles name n (k + 1)

module _ (live : LiveContent) where
  spell_both : (name : Name) (k : ℕ) (os ps : List (Option Record)) (ts us : List Finished) → SpellTiles live name k os ts → SpellTiles live name (k + length os) ps us
      → SpellTiles live name k (os ++ ps) (ts ++ us)
  spell_both name k [] ps ts us first second =
      subst (λ (l : List Finished). SpellTiles live name k ps (l ++ us)) (sym first) (subst (λ n. SpellTiles live name n ps us) (add-zero k) second)
  spell_both name k (None ∷ os) ps ts us first second =
      let next : k + suc (length os) ≡ k + 1 + length os = omega arith in
      spell_both name (k + 1) os ps ts us first (subst (λ n. SpellTiles live name n ps us) next second)
  spell_both name k (Some r ∷ os) ps ts us first second =
      let next : k + suc (length os) ≡ k + 1 + length os = omega arith in (
        first.0,
        first.1 ++ us,
        ap (λ (l : List Finished). l ++ us) first.2,
        first.3,
        spell_both name (k + 1) os ps first.1 us first.4 (subst (λ n. SpellTiles live name n ps us) next second),
      )

  spell_more : (ls : List FiledLayer) (l : FiledLayer) (layers : List Layer) (layer : Layer) (tiles own : List Finished) → SpellLayers live ls layers tiles → SpellLayer live l layer own
      → SpellLayers live (ls ++ l ∷ []) (layers ++ layer ∷ []) (tiles ++ own)
  spell_more [] l layers layer tiles own so_far last = (
    layer,
    [],
    own,
    [],
    ap (λ (x : List Layer). x ++ layer ∷ []) so_far.0,
    ap (λ (x : List Finished). x ++ own) so_far.1 ∙ sym (append-nil own),
    last,
    (refl, refl),
  )
  spell_more (m ∷ ls) l layers layer tiles own so_far last = (
    so_far.0,
    so_far.1 ++ layer ∷ [],
    so_far.2,
    so_far.3 ++ own,
    ap (λ (x : List Layer). x ++ layer ∷ []) so_far.4,
    ap (λ (x : List Finished). x ++ own) so_far.5 ∙ append_assoc so_far.2 so_far.3 own,
    so_far.6,
    spell_more ls l so_far.1 layer so_far.3 own so_far.7 last,
  )

  -- no column has its record yet
  pub no_tiles : (name : Name) (d : Drafted) → AreTilesFiled live d name [] [] d
  no_tiles name d = record { filed = []; extents = refl; draft = nothing_more d; spelled = refl }

  -- the tile of a column has its record
  pub slot_filed : (name : Name) (k : ℕ) (tile : code.Tile) (slot : Option Named) (e : RecordExtent) (old new : Drafted) → slot ≡ Some (named_pieces tile)
      → IsFiled old (SaysTile live (finished_as name k (tile_of tile))) e new → IsSlotFiled live old name k slot (Some e) new
  slot_filed name k tile slot e old new is own = record {
    filed = Some own.filed;
    extent = ap (λ (x : RecordExtent). Some x) own.extent;
    draft = own.draft ∙ ap (with_filed old) (sym (append-nil (fresh_of own.filed)));
    spelled = (
      tile_of tile,
      [],
      ap (λ (o : Option Named). row_tiles name k (places_in (o ∷ []))) is ∙ ap (λ (t : Tile). finished_as name k t ∷ []) (by_its_names tile),
      own.says,
      refl,
    );
  }

  -- one column more has its record, or no tile
  pub tiles_more : (name : Name) (row : List (Option Named)) (i : ℕ) (es all : List (Option RecordExtent)) (e : Option RecordExtent) (old mid new : Drafted) → i < length row → length es ≡ i
      → AreTilesFiled live old name (row_tiles name 0 (take i (places_in row))) es mid → IsSlotFiled live mid name i (get_or row i None) e new → all ≡ es ++ e ∷ []
      → AreTilesFiled live old name (row_tiles name 0 (take (i + 1) (places_in row))) all new
  tiles_more name row i es all e old mid new less count so_far here are =
      let os = so_far.filed in
      let ps : List (Option Record) = here.filed ∷ [] in
      let column : i ≡ 0 + length os = omega (arith, count, ap length so_far.extents, length-map os (option_map extent_of)) in
      let ts = row_tiles name 0 (take i (places_in row)) in
      let us = row_tiles name i (places_in (get_or row i None ∷ [])) in
      let both : ts ++ us ≡ row_tiles name 0 (take (i + 1) (places_in row)) =
      column_more name [] ts (ts ++ us) (places_in row) i (omega (arith, less, length-map row (option_map by_places))) refl
      (ap (λ (o : Option Tile). ts ++ row_tiles name i (o ∷ [])) (sym (places_at row i))) in
      record {
        filed = os ++ ps;
        extents = are ∙ (λ j. so_far.extents j ++ here.extent j ∷ []) ∙ sym (map-append (option_map extent_of) os ps);
        draft = filed_twice old mid new (filed_tiles os) (filed_tiles ps) so_far.draft here.draft ∙ ap (with_filed old) (sym (filed_both os ps));
        spelled = subst (SpellTiles live name 0 (os ++ ps)) both (spell_both name 0 os ps ts us so_far.spelled (subst (λ n. SpellTiles live name n ps us) column here.spelled));
      }

  -- a base layer has its record; it has no tile
  pub plain_filed : (name : Name) (content : Content) (row : List (Option Named)) (e : RecordExtent) (old new : Drafted) → is_derived content ≡ false → row ≡ replicate column_count None
      → IsFiled old (SaysLayer live (layer_named name content)) e new
      → IsLayerFiled live old (layer_named name content) (row_tiles name 0 (places_in row)) (record { name = name; records = inl e }) new
  plain_filed name (base rings) row e old new plain bare own = record {
    filed = a_base name own.filed;
    listed = λ i. record { name = name; records = inl (sym own.extent i) };
    draft = own.draft;
    spelled = (rings, refl, ap (λ r. row_tiles name 0 (places_in r)) bare ∙ bare_tiles name column_count 0, own.says);
  }
  plain_filed name (derived tree) row e old new plain bare own = absurd (cc)

  -- a derived layer has its record, and those of its tiles
  pub derived_filed : (name : Name) (content : Content) (tiles : List Finished) (e : RecordExtent) (es : List (Option RecordExtent)) (old mid new : Drafted) → is_derived content ≡ true
      → IsFiled old (SaysLayer live (layer_named name content)) e mid → AreTilesFiled live mid name tiles es new
      → IsLayerFiled live old (layer_named name content) tiles (record { name = name; records = inr (e, es) }) new
  derived_filed name (base rings) tiles e es old mid new derived_so own are = absurd (cc)
  derived_filed name (derived tree) tiles e es old mid new derived_so own are = record {
    filed = a_definition name own.filed are.filed;
    listed = λ i. record { name = name; records = inr (sym own.extent i, sym are.extents i) };
    draft = filed_twice old mid new (fresh_of own.filed) (filed_tiles are.filed) own.draft are.draft;
    spelled = (tree, refl, own.says, are.spelled);
  }

  -- no layer has its records yet
  pub no_layers : (d : Drafted) → AreLayersFiled live d [] [] [] d
  no_layers d = record { filed = []; listed = refl; draft = nothing_more d; spelled = (refl, refl) }

  -- one layer more has its records
  pub layers_more : (layers : List Layer) (rows : List (List (Option Named))) (i : ℕ) (layer : Layer) (row : List (Option Named)) (ls more : List Listed) (l : Listed) (old mid new : Drafted)
      → slice_get layers i ≡ Some layer → slice_get rows i ≡ Some row → AreLayersFiled live old (take i layers) (tiles_of (take i layers) (take i (placed_rows rows))) ls mid
      → IsLayerFiled live mid layer (row_tiles layer.name 0 (places_in row)) l new → more ≡ ls ++ l ∷ []
      → AreLayersFiled live old (take (i + 1) layers) (tiles_of (take (i + 1) layers) (take (i + 1) (placed_rows rows))) more new
  layers_more layers rows i layer row ls more l old mid new is has so_far here are =
      let fs = so_far.filed in
      let front = tiles_of (take i layers) (take i (placed_rows rows)) in
      let own = row_tiles layer.name 0 (places_in row) in
      let longer : take i layers ++ layer ∷ [] ≡ take (i + 1) layers = sym (ap (λ n. take n layers) (add-one i) ∙ take_there layers i layer is) in
      let further : front ++ own ≡ tiles_of (take (i + 1) layers) (take (i + 1) (placed_rows rows)) = layer_more layers rows i layer row front (front ++ own) is has refl refl in
      record {
        filed = fs ++ here.filed ∷ [];
        listed = map-append listed_of fs (here.filed ∷ []) ∙ (λ j. so_far.listed j ++ here.listed j ∷ []) ∙ sym are;
        draft = filed_twice old mid new (flat_map filed_of fs) (filed_of here.filed) so_far.draft here.draft
            ∙ ap (with_filed old) (sym (flat_map-append filed_of fs (here.filed ∷ []) ∙ ap (λ (x : List Filed). flat_map filed_of fs ++ x) (append-nil (filed_of here.filed))));
        spelled = subst (λ (x : List Layer). SpellLayers live (fs ++ here.filed ∷ []) x (tiles_of (take (i + 1) layers) (take (i + 1) (placed_rows rows)))) longer
            (subst (SpellLayers live (fs ++ here.filed ∷ []) (take i layers ++ layer ∷ [])) further (spell_more fs here.filed (take i layers) layer front own so_far.spelled here.spelled));
      }

  -- all layers have theirs
  pub all_layers : (layers : List Layer) (rows : List (List (Option Named))) (n : ℕ) (ls : List Listed) (old new : Drafted) → n ≡ length layers
      → AreLayersFiled live old (take n layers) (tiles_of (take n layers) (take n (placed_rows rows))) ls new → AreLayersFiled live old layers (tiles_of layers (placed_rows rows)) ls new
  all_layers layers rows n ls old new all are =
      let whole : take (length layers) layers ≡ layers = take_all (length layers) layers (omega arith) in
      subst (λ (l : List Layer). AreLayersFiled live old l (tiles_of layers (placed_rows rows)) ls new) whole
      (subst (λ (ts : List Finished). AreLayersFiled live old (take (length layers) layers) ts ls new) (tiles_whole layers (placed_rows rows))
      (subst (λ k. AreLayersFiled live old (take k layers) (tiles_of (take k layers) (take k (placed_rows rows))) ls new) all are))
