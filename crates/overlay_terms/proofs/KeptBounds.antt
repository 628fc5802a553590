-- What a layer does not reach: a name that no layer has, and a name that no definition names.
use Rattle.std.specs.Prelude.{◌≡◌, true, false, List, [], ◌∷◌, ◌++◌, bytes_eq}
use Rattle.std.specs.List.{list_any, list_all}
use Rattle.std.proofs.Common.{refl, ap, sym, ◌∙◌}
use Rattle.std.proofs.lemmas.Bool.{and_parts, or_parts, or_from, both_ways, false_from_ne_true, false≢true}
use Rattle.overlay_terms.specs.Trees.{leaves}
use Rattle.overlay_terms.specs.Layers.{Name, Content, base, derived, Layer, named, content_reach, reaches}
use Rattle.overlay_terms.specs.Orderly.{used_names, is_among, is_orderly_after, IsOrderly}
use Rattle.overlay_terms.specs.Commands.{stands, uses}
use Rattle.overlay_terms.proofs.NameLemmas.{same_name, name_itself, or_false}
use Rattle.overlay_terms.proofs.OrderlyLemmas.{orderly_splits, is_known, is_known-cons}
use Rattle.overlay_terms.proofs.TableLemmas.{rows_fixed}
use Rattle.overlay_terms.proofs.ReachLemmas.{has_name, any-flat_map, known_push, is_reached, IsReachRow, AreReachRows, itself_all, IsBounded, bounded_push, content_reach_of_uses}

-- what each layer reaches is a row of the whole table
pub reach_rows : (layers : List Layer) → IsOrderly layers → AreReachRows (reaches layers) layers
reach_rows layers orderly =
    rows_fixed [] (λ known layer. content_reach layer.name known layer.content) (λ known more layer h. content_reach_of_uses known more layer.name layer.content h) layers [] orderly

-- a layer that is there reaches itself
pub reaches_itself : (layers : List Layer) (name : Name) → IsOrderly layers → stands layers name ≡ true → is_reached (reaches layers) name name ≡ true
reaches_itself layers name orderly standing =
    itself_all (reaches layers) layers [] (reach_rows layers orderly) (λ n e. absurd (false≢true e)) name standing

-- a name is not the other, where the other is not it
pub differs_back : (a b : Name) → bytes_eq a b ≡ false → bytes_eq b a ≡ false
differs_back a b h =
    false_from_ne_true (bytes_eq b a) (λ e. both_ways (bytes_eq a b) h (ap (bytes_eq a) (same_name b a e) ∙ name_itself a))

module _ (T : List (Name × List Name)) where
  -- layers reach known names and their own alone
  bounded_all : (layers : List Layer) (known : List Name) → is_orderly_after known layers ≡ true → AreReachRows T layers → ((n : Name) → is_among known n ≡ true → IsBounded T known n) → (n m : Name) → is_known known layers n ≡ true → is_reached T n m ≡ true → is_known known layers m ≡ true
  bounded_all [] known orderly rows bounded n m e h = or_false (is_among known m) ∙ bounded n (sym (or_false (is_among known n)) ∙ e) m h
  bounded_all (layer ∷ layers) known orderly rows bounded n m e h =
      let parts = orderly_splits known layer layers orderly in
      is_known-cons known layer layers m
      ∙ bounded_all layers (known ++ layer.name ∷ []) parts.rest rows.1 (bounded_push T known layer rows.0 parts.first.uses_known bounded) n m (sym (is_known-cons known layer layers n) ∙ e) h

  module _ (name : Name) where
    -- another name than the one does not reach it
    abbrev Avoids : Name → Type 0
    Avoids u = bytes_eq u name ≡ false → is_reached T u name ≡ false

    -- known names other than the one do not reach it
    leaves_avoid : (known us : List Name) → ((u : Name) → is_among known u ≡ true → Avoids u) → list_all (is_among known) us ≡ true → list_any (λ u. bytes_eq u name) us ≡ false → list_any (λ u. is_reached T u name) us ≡ false
    leaves_avoid known [] avoid all unused = refl
    leaves_avoid known (u ∷ us) avoid all unused =
        let first = and_parts (is_among known u) (list_all (is_among known) us) all in
        let others = or_parts (bytes_eq u name) (list_any (λ v. bytes_eq v name) us) unused in
        or_from _ _ (avoid u first.0 others.0) (leaves_avoid known us avoid first.1 others.1)

    -- a layer whose definition does not name the name does not reach it
    row_avoids : (known : List Name) (m : Name) (content : Content) → ((u : Name) → is_among known u ≡ true → Avoids u) → IsReachRow T m content → list_all (is_among known) (used_names content) ≡ true → uses name content ≡ false → Avoids m
    row_avoids known m (base rings) avoid row all unused differs =
        ap (λ ns. has_name ns name) row ∙ or_from _ _ (differs_back m name differs) refl
    row_avoids known m (derived expression) avoid row all unused differs =
        ap (λ ns. has_name ns name) row
        ∙ or_from _ _ (differs_back m name differs) (any-flat_map (bytes_eq name) (named [] T) (leaves expression) ∙ leaves_avoid known (leaves expression) avoid all unused)

    -- no layer but its own reaches a name that no definition names
    avoid_all : (layers : List Layer) (known : List Name) → is_orderly_after known layers ≡ true → AreReachRows T layers → list_any (λ layer. uses name layer.content) layers ≡ false → ((u : Name) → is_among known u ≡ true → Avoids u) → (n : Name) → is_known known layers n ≡ true → Avoids n
    avoid_all [] known orderly rows unused avoid n e = avoid n (sym (or_false (is_among known n)) ∙ e)
    avoid_all (layer ∷ layers) known orderly rows unused avoid n e =
        let parts = orderly_splits known layer layers orderly in
        let others = or_parts (uses name layer.content) (list_any (λ l. uses name l.content) layers) unused in
        avoid_all layers (known ++ layer.name ∷ []) parts.rest rows.1 others.1
        (known_push Avoids known layer.name avoid (row_avoids known layer.name layer.content avoid rows.0 parts.first.uses_known others.0)) n
        (sym (is_known-cons known layer layers n) ∙ e)

-- a layer reaches no name that no layer has
pub reaches_standing : (layers : List Layer) (name new : Name) → IsOrderly layers → stands layers name ≡ true → stands layers new ≡ false → is_reached (reaches layers) name new ≡ false
reaches_standing layers name new orderly standing none =
    false_from_ne_true (is_reached (reaches layers) name new)
    (λ e. both_ways (stands layers new) none (bounded_all (reaches layers) layers [] orderly (reach_rows layers orderly) (λ n h. absurd (false≢true h)) name new standing e))

-- a layer reaches no other name that no definition names
pub reaches_used : (layers : List Layer) (name unused : Name) → IsOrderly layers → stands layers name ≡ true → list_any (λ layer. uses unused layer.content) layers ≡ false → bytes_eq name unused ≡ false → is_reached (reaches layers) name unused ≡ false
reaches_used layers name unused orderly standing none differs =
    avoid_all (reaches layers) unused layers [] orderly (reach_rows layers orderly) none (λ n h. absurd (false≢true h)) name standing differs
