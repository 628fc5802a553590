-- How many records are new.
use Rattle.std.proofs.Common.{◌≡◌, ℕ, ◌+◌, List, [], ◌∷◌, length, Option, Some, None, sym, ◌∙◌, ap, arith}
use Rattle.std.specs.List.{flat_map, sum_by}
use Rattle.std.proofs.lemmas.List.{length-append}
use Rattle.std.proofs.lemmas.List.Sums.{sum_by-cons, sum_by-append}
use Rattle.overlay_terms.specs.Layers.{Name, Layer}
use Rattle.overlay_terms.specs.Histories.{Finished}
use Rattle.commit_plan.specs.Staying.{LiveContent, layer_stays, tile_record_stays}
use Rattle.commit_plan.specs.Filed.{Record, fresh, stays, fresh_of, FiledLayer, a_base, a_definition, filed_tiles, filed_of, SaysLayer, SaysTile, SpellTiles, SpellLayer, SpellLayers}
use Rattle.commit_plan.specs.Sizes.{new_count}

module _ (live : LiveContent) where
  abbrev layer_count : Layer → ℕ
  layer_count layer = new_count (layer_stays live layer)

  abbrev tile_count : Finished → ℕ
  tile_count t = new_count (tile_record_stays live t)

  own_count : (layer : Layer) (r : Record) → SaysLayer live layer r → length (fresh_of r) ≡ layer_count layer
  own_count layer (fresh f) says = sym (ap new_count says.1)
  own_count layer (stays e) says = sym (ap new_count says)

  one_count : (t : Finished) (r : Record) → SaysTile live t r → length (fresh_of r) ≡ tile_count t
  one_count t (fresh f) says = sym (ap new_count says.1)
  one_count t (stays e) says = sym (ap new_count says)

  tiles_count : (name : Name) (k : ℕ) (os : List (Option Record)) (own : List Finished) → SpellTiles live name k os own
      → length (filed_tiles os) ≡ sum_by tile_count own
  tiles_count name k [] own spelled = sym (ap (sum_by tile_count) spelled)
  tiles_count name k (None ∷ os) own spelled = tiles_count name (k + 1) os own spelled
  tiles_count name k (Some r ∷ os) own spelled =
      let t : Finished = record { name = name; column = k; tile = spelled.0 } in
      let first = one_count t r spelled.3 in
      let rest = tiles_count name (k + 1) os spelled.1 spelled.4 in
      let all : sum_by tile_count own ≡ tile_count t + sum_by tile_count spelled.1 =
      ap (sum_by tile_count) spelled.2 ∙ sum_by-cons tile_count t spelled.1 in
      length-append (fresh_of r) (filed_tiles os) ∙ omega (arith, first, rest, all)

  layer_records : (l : FiledLayer) (layer : Layer) (own : List Finished) → SpellLayer live l layer own
      → length (filed_of l) ≡ layer_count layer + sum_by tile_count own
  layer_records (a_base name r) layer own spelled =
      let first = own_count _ r spelled.3 ∙ ap layer_count (sym spelled.1) in
      let none : sum_by tile_count own ≡ 0 = ap (sum_by tile_count) spelled.2 in
      omega (arith, first, none)
  layer_records (a_definition name r os) layer own spelled =
      let first = own_count _ r spelled.2 ∙ ap layer_count (sym spelled.1) in
      let rest = tiles_count name 0 os own spelled.3 in
      length-append (fresh_of r) (filed_tiles os) ∙ omega (arith, first, rest)

  pub records_count : (ls : List FiledLayer) (layers : List Layer) (tiles : List Finished) → SpellLayers live ls layers tiles
      → length (flat_map filed_of ls) ≡ sum_by layer_count layers + sum_by tile_count tiles
  records_count [] layers tiles spelled =
      sym ((λ i. sum_by layer_count (spelled.0 i) + sum_by tile_count (spelled.1 i)))
  records_count (l ∷ ls) layers tiles spelled =
      let first = layer_records l spelled.0 spelled.2 spelled.6 in
      let rest = records_count ls spelled.1 spelled.3 spelled.7 in
      let one : sum_by layer_count layers ≡ layer_count spelled.0 + sum_by layer_count spelled.1 =
      ap (sum_by layer_count) spelled.4 ∙ sum_by-cons layer_count spelled.0 spelled.1 in
      let two : sum_by tile_count tiles ≡ sum_by tile_count spelled.2 + sum_by tile_count spelled.3 =
      ap (sum_by tile_count) spelled.5 ∙ sum_by-append tile_count spelled.2 spelled.3 in
      length-append (filed_of l) (flat_map filed_of ls) ∙ omega (arith, first, rest, one, two)
