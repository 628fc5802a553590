-- What an accepted command leaves is a book: sound, and each layer under a name.
use Rattle.std.specs.Prelude.{◌≡◌, Bool, true, false, not, List, [], ◌∷◌, ◌++◌, map, None, IsTrue, bytes_eq}
use Rattle.std.proofs.Common.{cond}
use Rattle.std.specs.List.{AllByRecursion}
use Rattle.overlay_terms.specs.Layers.{Name, Content, base, derived, Layer}
use Rattle.overlay_terms.specs.Commands.{Command, put, define, remove, refusal_of, applied, stands, with_content}
use Rattle.overlay_terms.specs.LayerParity.{AreSound}
use Rattle.overlay_terms.proofs.AcceptedLemmas.{step_orderly, step_room}
use Rattle.layer_expr.specs.Name.{is_name}
use Rattle.layer_book.specs.Layer.{others, keeping, HasRings, IsBook}
use Rattle.layer_book.proofs.Rings.{AreRings, with_content_rings, others_rings}

abbrev replaced : Name → Content → Layer → Layer
replaced name new layer = cond (bytes_eq layer.name name) (record { name = name; content = new }) layer

-- each layer is under a name
abbrev AreNamed : List Layer → Type 0
AreNamed layers = AllByRecursion (λ layer. IsTrue (is_name layer.name)) layers

replaced_named : (layers : List Layer) (name : Name) (new : Content) → IsTrue (is_name name) → AreNamed layers → AreNamed (map (replaced name new) layers)
replaced_named [] name new own all = tt
replaced_named (layer ∷ layers) name new own all =
    (split (bytes_eq layer.name name), replaced_named layers name new own all.1)
  where
    split : (b : Bool) → IsTrue (is_name (cond b (record { name = name; content = new }) layer).name)
    split true = own
    split false = all.0

appended_named : (layers : List Layer) (name : Name) (new : Content) → IsTrue (is_name name) → AreNamed layers → AreNamed (layers ++ record { name = name; content = new } ∷ [])
appended_named [] name new own all = (own, tt)
appended_named (layer ∷ layers) name new own all = (all.0, appended_named layers name new own all.1)

with_content_named : (layers : List Layer) (name : Name) (new : Content) → IsTrue (is_name name) → AreNamed layers → AreNamed (with_content layers name new)
with_content_named layers name new own all = split (stands layers name) where
  split : (b : Bool) → AreNamed (cond b (map (replaced name new) layers) (layers ++ record { name = name; content = new } ∷ []))
  split true = replaced_named layers name new own all
  split false = appended_named layers name new own all

others_named : (layers : List Layer) (name : Name) → AreNamed layers → AreNamed (others layers name)
others_named [] name all = tt
others_named (layer ∷ layers) name all = split (bytes_eq layer.name name) (others_named layers name all.1) where
  split : (b : Bool) → AreNamed (others layers name) → AreNamed (cond (not b) (layer ∷ others layers name) (others layers name))
  split true rest = rest
  split false rest = (all.0, rest)

-- what an accepted command leaves is sound, where its base layers are rings
still_sound : (layers : List Layer) (command : Command) → AreSound layers → refusal_of layers command ≡ None → AreRings (applied layers command) → AreSound (applied layers command)
still_sound layers command sound h rings =
    record { orderly = step_orderly layers command h sound.orderly; few = step_room layers command h sound.few; rings = rings }

pub remove_book : (layers : List Layer) (name : Name) → IsBook layers → refusal_of layers (remove name) ≡ None → IsBook (others layers name)
remove_book layers name book h =
    record { sound = still_sound layers (remove name) book.sound h (others_rings layers name book.sound.rings); named = others_named layers name book.named }

pub kept_book : (layers : List Layer) (name : Name) (new : Content) → IsTrue (is_name name) → HasRings new → IsBook layers → refusal_of layers (keeping name new) ≡ None → IsBook (with_content layers name new)
kept_book layers name (base rings) is own book h =
    record { sound = still_sound layers (put name rings) book.sound h (with_content_rings layers name (base rings) own book.sound.rings); named = with_content_named layers name (base rings) is book.named }
kept_book layers name (derived expression) is own book h =
    record { sound = still_sound layers (define name expression) book.sound h (with_content_rings layers name (derived expression) tt book.sound.rings); named = with_content_named layers name (derived expression) is book.named }
