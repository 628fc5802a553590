-- What is published leaves each tile that of its input.
use Rattle.std.specs.Prelude.{◌≡◌, ℕ, ◌==◌, ◌≤◌, Bool, true, false, ◌&&◌, List, [], ◌∷◌, length, bytes_eq, Option, Some, if◌then◌else◌}
use Rattle.std.proofs.Common.{refl, sym, ◌∙◌, subst}
use Rattle.std.proofs.lemmas.Bool.{and_parts, eqb-true}
use Rattle.overlay_terms.specs.Layers.{layers_max, Name, Layer}
use Rattle.overlay_terms.specs.Orderly.{IsOrderly}
use Rattle.overlay_terms.specs.Histories.{Tile, tile_at, Version, Event, accepted, kept, durable_to, Follows, Entry, AllFollow, last_version}
use Rattle.overlay_terms.specs.KeptLaws.{ExactnessStays, LayersStayOrderly, IsExact, HistoryIsExact, HistoryHasRoom}
use Rattle.overlay_terms.proofs.NameLemmas.{same_name}
use Rattle.overlay_terms.proofs.RightTiles.{IsRight, AreRight, are_right}
use Rattle.overlay_terms.proofs.BatchLemmas.{right_after_batch, orderly_after_batch, room_after_batch}

-- a tile after one is kept is that one, or was there before
right_after_tile : (layers : List Layer) (name : Name) (column : ℕ) (kept_tile : Tile) (other : Name) (k : ℕ) (tile : Tile) (b : Bool) (before : Option Tile) → (bytes_eq name other && (column == k)) ≡ b → IsRight layers name column kept_tile → (before ≡ Some tile → IsRight layers other k tile) → (if b then Some kept_tile else before) ≡ Some tile → IsRight layers other k tile
right_after_tile layers name column kept_tile other k tile true before here new right there =
    let parts = and_parts (bytes_eq name other) (column == k) here in
    let level : column ≡ k = eqb-true column k parts.1 in
    let same : kept_tile ≡ tile = cc in
    subst (IsRight layers other k) same (subst (λ j. IsRight layers other j kept_tile) level (subst (λ n. IsRight layers n column kept_tile) (same_name name other parts.0) new))
right_after_tile layers name column kept_tile other k tile false before away new right there = right there

-- each tile is as it must be after what is published
right_after : (old new : Version) (event : Event) → Follows old event new → AreRight old.layers old.tiles → AreRight new.layers new.tiles
right_after old new (accepted session batch) follows right name k tile e = right_after_batch old new batch follows right name k tile e
right_after old new (kept name column tile) follows right other k found e =
    subst (λ layers. IsRight layers other k found) (sym follows.layers)
    (right_after_tile old.layers name column tile other k found (bytes_eq name other && (column == k)) (tile_at old.tiles other k) refl
    (record { derived_layer = follows.derived_layer; known_column = follows.known_column; exact = follows.right }) (right other k found) (sym (follows.tiles other k) ∙ e))
right_after old new (durable_to number) follows right name k tile e =
    subst (λ layers. IsRight layers name k tile) (sym follows.layers) (right name k tile (sym (follows.tiles name k) ∙ e))

-- what is published leaves exact tiles exact
pub exactness_stays : ExactnessStays
exactness_stays old new event follows orderly fit exact =
    let right = right_after old new event follows (are_right old fit exact) in
    (λ name k tile e. ((right name k tile e).derived_layer, (right name k tile e).known_column), λ name k tile e. (right name k tile e).exact)

-- what is published leaves orderly layers so, and leaves room
pub layers_stay_orderly : LayersStayOrderly
layers_stay_orderly old new (accepted session batch) follows =
    (λ orderly. orderly_after_batch old new batch follows orderly, λ room. room_after_batch old new batch follows room)
layers_stay_orderly old new (kept name column tile) follows =
    (λ orderly. subst IsOrderly (sym follows.layers) orderly, λ room. subst (λ layers. length layers ≤ layers_max) (sym follows.layers) room)
layers_stay_orderly old new (durable_to number) follows =
    (λ orderly. subst IsOrderly (sym follows.layers) orderly, λ room. subst (λ layers. length layers ≤ layers_max) (sym follows.layers) room)

-- the version after an exact one is exact
exact_after : (old new : Version) (event : Event) → Follows old event new → IsExact old → IsExact new
exact_after old new event follows h =
    let stays = exactness_stays old new event follows h.orderly h.fit h.exact in
    record { orderly = (layers_stay_orderly old new event follows).0 h.orderly; fit = stays.0; exact = stays.1 }

-- the last of versions that follow an exact one is exact
all_exact : (entries : List Entry) (version : Version) → AllFollow version entries → IsExact version → IsExact (last_version version entries)
all_exact [] version follow h = h
all_exact (entry ∷ entries) version follow h =
    all_exact entries entry.version follow.1 (exact_after version entry.version entry.event follow.0 h)

-- the newest version of a history is exact where its first one is
pub history_is_exact : HistoryIsExact
history_is_exact history follow h = all_exact history.entries history.start follow h

-- the last of versions that follow one with at most 32 layers has at most so many
all_have_room : (entries : List Entry) (version : Version) → AllFollow version entries → length version.layers ≤ layers_max → length (last_version version entries).layers ≤ layers_max
all_have_room [] version follow room = room
all_have_room (entry ∷ entries) version follow room =
    all_have_room entries entry.version follow.1 ((layers_stay_orderly version entry.version entry.event follow.0).1 room)

-- the newest version of a history has at most 32 layers where its first one has
pub history_has_room : HistoryHasRoom
history_has_room history follow room = all_have_room history.entries history.start follow room
