-- What commands leave of the rings of base layers.
use Rattle.std.proofs.Common.{Bool, true, false, not, cond, List, [], ◌∷◌, ◌++◌, map, filter_map, bytes_eq}
use Rattle.std.specs.Prelude.{All}
use Rattle.std.proofs.lemmas.List.Elements.{All-cons, All-head, All-tail}
use Rattle.overlay_terms.specs.Layers.{Name, Content, base, derived, Layer, base_of}
use Rattle.overlay_terms.specs.Commands.{stands, with_content}
use Rattle.overlay_terms.specs.InputLaws.{IsRing}
use Rattle.layer_book.specs.Layer.{HasRings, others}

-- the rings of each base layer are closed and in range
abbrev pub AreRings : List Layer → Type 0
AreRings layers = All (λ b. All IsRing b.1) (filter_map base_of layers)

rings_cons : (layer : Layer) (layers : List Layer) → HasRings layer.content → AreRings layers → AreRings (layer ∷ layers)
rings_cons layer layers own rest = split layer.content own where
  split : (c : Content) → HasRings c → AreRings (record { name = layer.name; content = c } ∷ layers)
  split (base rings) own = All-cons (λ b. All IsRing b.1) (layer.name, rings) (filter_map base_of layers) own rest
  split (derived expression) own = rest

rings_parts : (layer : Layer) (layers : List Layer) → AreRings (layer ∷ layers) → HasRings layer.content × AreRings layers
rings_parts layer layers all = split layer.content all where
  split : (c : Content) → AreRings (record { name = layer.name; content = c } ∷ layers) → HasRings c × AreRings layers
  split (base rings) all =
      (All-head (λ b. All IsRing b.1) (layer.name, rings) (filter_map base_of layers) all, All-tail (λ b. All IsRing b.1) (layer.name, rings) (filter_map base_of layers) all)
  split (derived expression) all = (tt, all)

replaced_rings : (layers : List Layer) (name : Name) (new : Content) → HasRings new → AreRings layers → AreRings (map (λ (layer : Layer). cond (bytes_eq layer.name name) (record { name = name; content = new }) layer) layers)
replaced_rings [] name new own all = all
replaced_rings (layer ∷ layers) name new own all =
    let parts = rings_parts layer layers all in
    split (bytes_eq layer.name name) parts.0 (replaced_rings layers name new own parts.1)
  where
    behind : List Layer
    behind = map (λ (layer : Layer). cond (bytes_eq layer.name name) (record { name = name; content = new }) layer) layers

    split : (b : Bool) → HasRings layer.content → AreRings behind → AreRings (cond b (record { name = name; content = new }) layer ∷ behind)
    split true old rest = rings_cons (record { name = name; content = new }) behind own rest
    split false old rest = rings_cons layer behind old rest

appended_rings : (layers : List Layer) (layer : Layer) → HasRings layer.content → AreRings layers → AreRings (layers ++ layer ∷ [])
appended_rings [] layer own all = rings_cons layer [] own all
appended_rings (first ∷ layers) layer own all =
    let parts = rings_parts first layers all in
    rings_cons first (layers ++ layer ∷ []) parts.0 (appended_rings layers layer own parts.1)

-- with a layer in the place of another, or after the last
pub with_content_rings : (layers : List Layer) (name : Name) (new : Content) → HasRings new → AreRings layers → AreRings (with_content layers name new)
with_content_rings layers name new own all = split (stands layers name) where
  split : (b : Bool) → AreRings (cond b (map (λ (layer : Layer). cond (bytes_eq layer.name name) (record { name = name; content = new }) layer) layers) (layers ++ record { name = name; content = new } ∷ []))
  split true = replaced_rings layers name new own all
  split false = appended_rings layers (record { name = name; content = new }) own all

-- without a layer
pub others_rings : (layers : List Layer) (name : Name) → AreRings layers → AreRings (others layers name)
others_rings [] name all = all
others_rings (layer ∷ layers) name all =
    let parts = rings_parts layer layers all in
    split (bytes_eq layer.name name) parts.0 (others_rings layers name parts.1)
  where
    split : (b : Bool) → HasRings layer.content → AreRings (others layers name) → AreRings (cond (not b) (layer ∷ others layers name) (others layers name))
    split true own rest = rest
    split false own rest = rings_cons layer (others layers name) own rest
