-- What a command leaves: derived layers that do not reach its name, and the inputs of untouched tiles.
use Rattle.std.specs.Prelude.{◌≡◌, ℕ, Bool, true, false, not, ◌&&◌, List, [], ◌∷◌, ◌++◌, map, filter, filter_map, length, None, bytes_eq, if◌then◌else◌}
use Rattle.std.specs.List.{list_any}
use Rattle.std.proofs.Common.{refl, ap, sym, ◌∙◌, append-nil}
use Rattle.std.proofs.lemmas.Bool.{and_parts, and_from, or_left, both_ways, false_from_ne_true, false≢true}
use Rattle.std.proofs.lemmas.List.Elements.{filter-append}
use Rattle.std.proofs.lemmas.List.Folds.{list_any-append}
use Rattle.std.proofs.lemmas.List.Sums.{fold-append}
use Rattle.overlay_terms.specs.Column.{touches}
use Rattle.overlay_terms.specs.Trees.{relabel}
use Rattle.overlay_terms.specs.Layers.{Name, Content, base, derived, Layer, base_of, derived_of, named, content_reach, reaches, layers_in_reach, marked_segments, source_of}
use Rattle.overlay_terms.specs.Tiles.{Input, input_of}
use Rattle.overlay_terms.specs.SameInput.{same_input, same_input-Decides}
use Rattle.overlay_terms.specs.Orderly.{IsOrderly}
use Rattle.overlay_terms.specs.Commands.{Command, put, define, remove, refusal_of, applied, is_derived, stands, stands_as_derived, uses, when, unknown_layer, not_base, in_use, too_many_layers, is_crowded}
use Rattle.overlay_terms.specs.Touched.{tile_stays, is_touched, derived_over, reaches_name, name_of}
use Rattle.overlay_terms.specs.KeptLaws.{IsUntouched, UntouchedInputStays, OnlyReachIsTouched}
use Rattle.overlay_terms.proofs.NameLemmas.{same_name}
use Rattle.overlay_terms.proofs.OrderlyLemmas.{replaced_by}
use Rattle.overlay_terms.proofs.AcceptedLemmas.{without, not_when}
use Rattle.overlay_terms.proofs.Options.{both_absent}
use Rattle.overlay_terms.proofs.ReachLemmas.{has_name, is_reached}
use Rattle.overlay_terms.proofs.DefinitionLemmas.{passing, passing_no}
use Rattle.overlay_terms.proofs.KeptReach.{named-push_other, same_in_reach}
use Rattle.overlay_terms.proofs.KeptDerived.{differ_replaced, differ_removed, derived_stands, still_replaced, still_without, derived_fails, stands_fails}
use Rattle.overlay_terms.proofs.KeptBounds.{differs_back, reaches_itself, reaches_standing, reaches_used}

-- the input of the tile of a column, from the layers in reach
abbrev input_over : ℕ → List Layer → Input
input_over k reachable =
    let bases = filter_map base_of reachable in
    let definitions = filter_map derived_of reachable in
    record {
      column = k;
      marked = filter (λ m. touches k m.segment) (marked_segments (map (λ b. b.1) bases));
      steps = record { bases = length bases; definitions = map (λ d. relabel (source_of (map (λ b. b.0) bases) (map (λ e. e.0) definitions)) d.1) definitions };
    }

-- a layer is untouched where it reaches the same layers and is still derived
untouched_by : (before after : List Layer) (own : Name) (k : ℕ) → layers_in_reach after own ≡ layers_in_reach before own → stands_as_derived after own ≡ true → IsUntouched before after own k
untouched_by before after own k same still = record { same_input = ap (input_over k) same; still_derived = still }

-- the content of a name is replaced, and the layer does not reach it
untouched_replaced : (layers : List Layer) (name : Name) (content : Content) (own : Name) (k : ℕ) → IsOrderly layers → stands layers name ≡ true → stands_as_derived layers own ≡ true → (bytes_eq name own ≡ true → is_derived content ≡ true) → list_any (bytes_eq own) (derived_over layers name) ≡ false → IsUntouched layers (map (replaced_by name content) layers) own k
untouched_replaced layers name content own k orderly standing as_derived kind out =
    let apart : reaches_name layers own name ≡ false = derived_fails (λ n. reaches_name layers n name) layers own out as_derived in
    untouched_by layers (map (replaced_by name content) layers) own k
    (same_in_reach layers (map (replaced_by name content) layers) name own orderly (differ_replaced layers name content) (stands_fails (is_reached (reaches layers) own) layers name apart standing))
    (still_replaced layers name content own kind as_derived)

-- a name that is there is not one that is not
differs : (layers : List Layer) (new own : Name) → stands layers new ≡ false → stands layers own ≡ true → bytes_eq new own ≡ false
differs layers new own none standing =
    false_from_ne_true (bytes_eq new own) (λ e. both_ways (stands layers new) none (ap (stands layers) (same_name new own e) ∙ standing))

-- a new layer comes last
untouched_pushed : (layers : List Layer) (layer : Layer) (own : Name) (k : ℕ) → IsOrderly layers → stands layers layer.name ≡ false → stands_as_derived layers own ≡ true → IsUntouched layers (layers ++ layer ∷ []) own k
untouched_pushed layers layer own k orderly new as_derived =
    let standing = derived_stands layers own as_derived in
    let out = reaches_standing layers own layer.name orderly standing new in
    let row : named [] (reaches (layers ++ layer ∷ [])) own ≡ named [] (reaches layers) own =
    ap (λ t. named [] t own) (fold-append (λ known l. known ++ (l.name, content_reach l.name known l.content) ∷ []) [] layers (layer ∷ []))
    ∙ named-push_other (reaches layers) layer.name (content_reach layer.name (reaches layers) layer.content) own (differs layers layer.name own new standing) in
    untouched_by layers (layers ++ layer ∷ []) own k
    (ap (λ ns. passing (has_name ns) (layers ++ layer ∷ [])) row
    ∙ filter-append (λ l. is_reached (reaches layers) own l.name) layers (layer ∷ [])
    ∙ ap (λ ls. passing (is_reached (reaches layers) own) layers ++ ls) (passing_no (is_reached (reaches layers) own) layer [] out)
    ∙ append-nil (passing (is_reached (reaches layers) own) layers))
    (list_any-append (λ l. bytes_eq l.name own && is_derived l.content) layers (layer ∷ []) ∙ or_left _ _ as_derived)

-- a layer that no definition names is taken out
untouched_removed : (layers : List Layer) (name own : Name) (k : ℕ) → IsOrderly layers → list_any (λ layer. uses name layer.content) layers ≡ false → stands_as_derived layers own ≡ true → bytes_eq name own ≡ false → bytes_eq own name ≡ false → IsUntouched layers (without layers name) own k
untouched_removed layers name own k orderly unused as_derived differ back =
    untouched_by layers (without layers name) own k
    (same_in_reach layers (without layers name) name own orderly (differ_removed layers name) (reaches_used layers own name orderly (derived_stands layers own as_derived) unused back))
    (still_without layers name own differ as_derived)

-- content put under a name, by whether the name is there
untouched_content : (layers : List Layer) (name : Name) (content : Content) (own : Name) (k : ℕ) (b : Bool) → stands layers name ≡ b → IsOrderly layers → stands_as_derived layers own ≡ true → (bytes_eq name own ≡ true → is_derived content ≡ true) → (stands layers name ≡ true → list_any (bytes_eq own) (derived_over layers name) ≡ false) →
    IsUntouched layers (if b then map (replaced_by name content) layers else layers ++ record { name = name; content = content } ∷ []) own k
untouched_content layers name content own k true standing orderly as_derived kind out =
    untouched_replaced layers name content own k orderly standing as_derived kind (out standing)
untouched_content layers name content own k false new orderly as_derived kind out =
    untouched_pushed layers (record { name = name; content = content }) own k orderly new as_derived

-- the name of a derived layer is not one that no derived layer has
not_derived_name : (layers : List Layer) (name own : Name) → stands_as_derived layers name ≡ false → stands_as_derived layers own ≡ true → bytes_eq name own ≡ false
not_derived_name layers name own none as_derived =
    false_from_ne_true (bytes_eq name own) (λ e. both_ways (stands_as_derived layers name) none (ap (stands_as_derived layers) (same_name name own e) ∙ as_derived))

-- the name of a derived layer that does not reach the one that is taken out is not that one
not_removed_name : (layers : List Layer) (name own : Name) → IsOrderly layers → stands_as_derived layers own ≡ true → list_any (bytes_eq own) (derived_over layers name) ≡ false → bytes_eq own name ≡ false
not_removed_name layers name own orderly as_derived out =
    let standing = derived_stands layers own as_derived in
    let apart : reaches_name layers own name ≡ false = derived_fails (λ n. reaches_name layers n name) layers own out as_derived in
    false_from_ne_true (bytes_eq own name)
    (λ e.
    let same = same_name own name e in
    both_ways (is_reached (reaches layers) own name)
    (stands_fails (is_reached (reaches layers) own) layers name apart (ap (stands layers) (sym same) ∙ standing))
    (ap (is_reached (reaches layers) own) (sym same) ∙ reaches_itself layers own orderly standing))

-- an accepted command leaves a derived layer that does not reach its name as it is
pub outside_stays : (layers : List Layer) (command : Command) (own : Name) (k : ℕ) → IsOrderly layers → refusal_of layers command ≡ None → stands_as_derived layers own ≡ true → list_any (bytes_eq own) (derived_over layers (name_of command)) ≡ false → IsUntouched layers (applied layers command) own k
outside_stays layers (put name rings) own k orderly accepted as_derived out =
    let reasons = both_absent (when (stands_as_derived layers name) not_base) (when (is_crowded layers name) too_many_layers) accepted in
    let differ = not_derived_name layers name own (not_when _ _ reasons.first) as_derived in
    untouched_content layers name (base rings) own k (stands layers name) refl orderly as_derived (λ e. absurd (both_ways (bytes_eq name own) differ e)) (λ standing. out)
outside_stays layers (define name expression) own k orderly accepted as_derived out =
    untouched_content layers name (derived expression) own k (stands layers name) refl orderly as_derived (λ e. refl) (λ standing. out)
outside_stays layers (remove name) own k orderly accepted as_derived out =
    let reasons = both_absent (when (not (stands layers name)) unknown_layer) (when (list_any (λ layer. uses name layer.content) layers) in_use) accepted in
    let back = not_removed_name layers name own orderly as_derived out in
    untouched_removed layers name own k orderly (not_when _ _ reasons.second) as_derived (differs_back own name back) back

-- of two tests, the second denied: the second holds where the first does
kept_by : (d s : Bool) → d ≡ true → (d && not s) ≡ false → s ≡ true
kept_by true true derived_layer out = refl
kept_by true false derived_layer out = absurd (false≢true (sym out))
kept_by false s derived_layer out = absurd (false≢true derived_layer)

not_kept : (d s : Bool) → s ≡ true → (d && not s) ≡ false
not_kept true true e = refl
not_kept false true e = refl
not_kept d false e = absurd (false≢true e)

-- untouched is what keeps its input and stays derived
pub untouched_input_stays : UntouchedInputStays
untouched_input_stays layers command own k as_derived =
    let after = applied layers command in
    let decides = same_input-Decides (input_of after own k) (input_of layers own k) in (
      λ out.
          let parts = and_parts (stands_as_derived after own) (same_input (input_of after own k) (input_of layers own k)) (kept_by (stands_as_derived layers own) (tile_stays layers after own k) as_derived out) in
          record { same_input = decides.0 parts.1; still_derived = parts.0 },
      λ stays. not_kept (stands_as_derived layers own) (tile_stays layers after own k) (and_from _ _ stays.still_derived (decides.1 stays.same_input)),
    )

true_from_ne_false : (b : Bool) → (b ≡ false → ⊥) → b ≡ true
true_from_ne_false true h = refl
true_from_ne_false false h = absurd (h refl)

-- what is touched reaches the command's name
pub only_reach_is_touched : OnlyReachIsTouched
only_reach_is_touched layers command own k orderly accepted touched =
    let as_derived = (and_parts (stands_as_derived layers own) (not (tile_stays layers (applied layers command) own k)) touched).0 in
    true_from_ne_false (list_any (bytes_eq own) (derived_over layers (name_of command)))
    (λ out. both_ways (is_touched layers command own k) ((untouched_input_stays layers command own k as_derived).1 (outside_stays layers command own k orderly accepted as_derived out)) touched)
