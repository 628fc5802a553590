-- Layers of which one name alone has changed: what does not reach that name reaches what it did.
use Rattle.std.specs.Prelude.{◌≡◌, Bool, true, false, ◌||◌, List, [], ◌∷◌, ◌++◌, fold, flat_map, bytes_eq, if◌then◌else◌}
use Rattle.std.proofs.Common.{refl, ap, sym, ◌∙◌, subst}
use Rattle.std.proofs.lemmas.Bool.{or_parts, or_from, or_left, both_ways, false_from_ne_true}
use Rattle.std.proofs.lemmas.List.{map-append}
use Rattle.std.proofs.lemmas.List.Folds.{list_any-append}
use Rattle.overlay_terms.specs.Trees.{leaves}
use Rattle.overlay_terms.specs.Layers.{Name, Content, base, derived, Layer, named, content_reach, reaches, layers_in_reach}
use Rattle.overlay_terms.specs.Orderly.{is_among, is_orderly_after, IsOrderly}
use Rattle.overlay_terms.proofs.NameLemmas.{same_name, name_itself, is_among-push}
use Rattle.overlay_terms.proofs.OrderlyLemmas.{orderly_splits}
use Rattle.overlay_terms.proofs.TableLemmas.{names_of, named-push}
use Rattle.overlay_terms.proofs.ReachLemmas.{has_name, is_reached}
use Rattle.overlay_terms.proofs.DefinitionLemmas.{passing, passing_no}

-- layers that differ at one name alone: its content is replaced, or taken out
pub data DifferAt (name : Name) : List Layer → List Layer → Type 0 where
  none : DifferAt name [] []
  other : (layer : Layer) (layers changed : List Layer) → bytes_eq layer.name name ≡ false → DifferAt name layers changed → DifferAt name (layer ∷ layers) (layer ∷ changed)
  replaced : (layer : Layer) (content : Content) (layers changed : List Layer) → bytes_eq layer.name name ≡ true → DifferAt name layers changed
      → DifferAt name (layer ∷ layers) (record { name = layer.name; content = content } ∷ changed)
  removed : (layer : Layer) (layers changed : List Layer) → bytes_eq layer.name name ≡ true → DifferAt name layers changed → DifferAt name (layer ∷ layers) changed

-- the names that each of some layers reaches
abbrev pub Table : Type 0
Table = List (Name × List Name)

-- the table with one more layer
abbrev pub with_reach : Table → Layer → Table
with_reach known layer = known ++ (layer.name, content_reach layer.name known layer.content) ∷ []

-- what stands beside another name stays
pub named-push_other : (known : Table) (m : Name) (v : List Name) (u : Name) → bytes_eq m u ≡ false → named [] (known ++ (m, v) ∷ []) u ≡ named [] known u
named-push_other [] m v u h = ap (λ b. if b then v else []) h
named-push_other (e ∷ es) m v u h = ap (λ r. if bytes_eq e.0 u then e.1 else r) (named-push_other es m v u h)

-- a name is among those of a table with one more entry
among_entry : (known : Table) (m : Name) (v : List Name) (u : Name) → is_among (names_of (known ++ (m, v) ∷ [])) u ≡ (is_among (names_of known) u || bytes_eq m u)
among_entry known m v u =
    ap (λ ns. is_among ns u) (map-append (λ (e : Name × List Name). e.0) known ((m, v) ∷ [])) ∙ is_among-push (names_of known) m u

-- lists without a name, made of lists that are the same where they are without it
flat_map_avoiding : (f g : Name → List Name) (name : Name) → ((u : Name) → has_name (f u) name ≡ false → g u ≡ f u) → (us : List Name)
    → has_name (flat_map f us) name ≡ false → flat_map g us ≡ flat_map f us
flat_map_avoiding f g name h [] avoids = refl
flat_map_avoiding f g name h (u ∷ us) avoids =
    let parts = or_parts (has_name (f u) name) (has_name (flat_map f us) name) (sym (list_any-append (bytes_eq name) (f u) (flat_map f us)) ∙ avoids) in
    ap (λ ns. ns ++ flat_map g us) (h u parts.0) ∙ ap (λ ns. f u ++ ns) (flat_map_avoiding f g name h us parts.1)

-- what the layers of one table reach, those of another reach too, where it is without a name
record StillReaches (name : Name) (known left : Table) : Type 0 where
  pub fewer : (u : Name) → is_among (names_of known) u ≡ false → is_among (names_of left) u ≡ false
  pub same : (u : Name) → has_name (named [] known u) name ≡ false → named [] left u ≡ named [] known u

-- a layer that does not reach the name reaches the same
reach_avoiding : (name : Name) (known left : Table) (m : Name) (content : Content) → StillReaches name known left
    → has_name (content_reach m known content) name ≡ false → content_reach m left content ≡ content_reach m known content
reach_avoiding name known left m (base rings) s avoids = refl
reach_avoiding name known left m (derived expression) s avoids =
    let parts = or_parts (bytes_eq name m) (has_name (flat_map (named [] known) (leaves expression)) name) avoids in
    ap (λ ns. m ∷ ns) (flat_map_avoiding (named [] known) (named [] left) name s.same (leaves expression) parts.1)

-- a layer reaches itself
reach_itself : (known : Table) (m : Name) (content : Content) → has_name (content_reach m known content) m ≡ true
reach_itself known m (base rings) = or_left _ _ (name_itself m)
reach_itself known m (derived expression) = or_left _ _ (name_itself m)

-- what does not reach the name is not the layer that has it
not_here : (name : Name) (known : Table) (layer : Layer) (u : Name) → bytes_eq layer.name name ≡ true → is_among (names_of known) layer.name ≡ false
    → has_name (named [] (with_reach known layer) u) name ≡ false → bytes_eq layer.name u ≡ false
not_here name known layer u has new avoids =
    let row = content_reach layer.name known layer.content in
    let own : has_name row name ≡ true = ap (has_name row) (sym (same_name layer.name name has)) ∙ reach_itself known layer.name layer.content in
    false_from_ne_true (bytes_eq layer.name u)
    (λ e. both_ways (has_name (named [] (with_reach known layer) u) name) avoids
    (ap (λ n. has_name (named [] (with_reach known layer) n) name) (sym (same_name layer.name u e)) ∙ ap (λ ns. has_name ns name) (named-push [] known layer.name row new) ∙ own))

-- what stands beside other names than the last
same_before : (name : Name) (known left : Table) (m : Name) (v w : List Name) (u : Name) → StillReaches name known left → bytes_eq m u ≡ false
    → has_name (named [] (known ++ (m, v) ∷ []) u) name ≡ false → named [] (left ++ (m, w) ∷ []) u ≡ named [] (known ++ (m, v) ∷ []) u
same_before name known left m v w u s e avoids =
    let past = named-push_other known m v u e in
    named-push_other left m w u e ∙ s.same u (ap (λ ns. has_name ns name) (sym past) ∙ avoids) ∙ sym past

-- the same table of one more layer, by whether it has the name looked for
same_with : (name : Name) (known left : Table) (layer : Layer) (u : Name) (b : Bool) → bytes_eq layer.name u ≡ b → StillReaches name known left
    → is_among (names_of known) layer.name ≡ false → has_name (named [] (with_reach known layer) u) name ≡ false
    → named [] (with_reach left layer) u ≡ named [] (with_reach known layer) u
same_with name known left layer u false e s new avoids =
    same_before name known left layer.name (content_reach layer.name known layer.content) (content_reach layer.name left layer.content) u s e avoids
same_with name known left layer u true e s new avoids =
    subst (λ n. has_name (named [] (with_reach known layer) n) name ≡ false → named [] (with_reach left layer) n ≡ named [] (with_reach known layer) n) (same_name layer.name u e) at_own avoids where
      -- at the name of the layer
      at_own : has_name (named [] (with_reach known layer) layer.name) name ≡ false → named [] (with_reach left layer) layer.name ≡ named [] (with_reach known layer) layer.name
      at_own out =
          let here = named-push [] known layer.name (content_reach layer.name known layer.content) new in
          let there = named-push [] left layer.name (content_reach layer.name left layer.content) (s.fewer layer.name new) in
          there ∙ reach_avoiding name known left layer.name layer.content s (ap (λ ns. has_name ns name) (sym here) ∙ out) ∙ sym here

-- names of one more entry in both tables
fewer_with : (name : Name) (known left : Table) (m : Name) (v w : List Name) → StillReaches name known left → (u : Name)
    → is_among (names_of (known ++ (m, v) ∷ [])) u ≡ false → is_among (names_of (left ++ (m, w) ∷ [])) u ≡ false
fewer_with name known left m v w s u h =
    let parts = or_parts (is_among (names_of known) u) (bytes_eq m u) (sym (among_entry known m v u) ∙ h) in
    among_entry left m w u ∙ or_from _ _ (s.fewer u parts.0) parts.1

-- one more layer in both
still_with : (name : Name) (known left : Table) (layer : Layer) → is_among (names_of known) layer.name ≡ false → StillReaches name known left
    → StillReaches name (with_reach known layer) (with_reach left layer)
still_with name known left layer new s = record {
  fewer = fewer_with name known left layer.name _ _ s;
  same = λ u avoids. same_with name known left layer u (bytes_eq layer.name u) refl s new avoids;
}

-- the layer that has the name, in both with contents of their own
still_replaced : (name : Name) (known left : Table) (layer : Layer) (content : Content) → bytes_eq layer.name name ≡ true → is_among
    (names_of known) layer.name ≡ false → StillReaches name known left → StillReaches name (with_reach known layer)
    (with_reach left (record { name = layer.name; content = content }))
still_replaced name known left layer content has new s = record {
  fewer = fewer_with name known left layer.name _ _ s;
  same = λ u avoids.
      same_before name known left layer.name (content_reach layer.name known layer.content) (content_reach layer.name left content) u s
      (not_here name known layer u has new avoids) avoids;
}

-- the layer that has the name, in one alone
still_removed : (name : Name) (known left : Table) (layer : Layer) → bytes_eq layer.name name ≡ true → is_among (names_of known) layer.name ≡ false
    → StillReaches name known left → StillReaches name (with_reach known layer) left
still_removed name known left layer has new s = record {
  fewer = λ u h. s.fewer u (or_parts (is_among (names_of known) u) (bytes_eq layer.name u) (sym (among_entry known layer.name _ u) ∙ h)).0;
  same = λ u avoids.
      let past = named-push_other known layer.name (content_reach layer.name known layer.content) u (not_here name known layer u has new avoids) in
      s.same u (ap (λ ns. has_name ns name) (sym past) ∙ avoids) ∙ sym past;
}

-- layers after one more entry are orderly
orderly_behind : (known : Table) (layer : Layer) (layers : List Layer) → is_orderly_after (names_of known) (layer ∷ layers) ≡ true → is_orderly_after (names_of (with_reach known layer)) layers ≡ true
orderly_behind known layer layers h =
    subst (λ ns. is_orderly_after ns layers ≡ true) (sym (map-append (λ (e : Name × List Name). e.0) known
    ((layer.name, content_reach layer.name known layer.content) ∷ []))) (orderly_splits (names_of known) layer layers h).rest

-- a layer that does not reach the name reaches the same among the changed layers
reach_stays : {name : Name} {layers changed : List Layer} → DifferAt name layers changed → (known left : Table)
    → is_orderly_after (names_of known) layers ≡ true → StillReaches name known left
    → StillReaches name (fold with_reach known layers) (fold with_reach left changed)
reach_stays none known left orderly s = s
reach_stays {name} (other layer layers changed away rest) known left orderly s =
    let new = (orderly_splits (names_of known) layer layers orderly).first.new_name in
    reach_stays rest (with_reach known layer) (with_reach left layer) (orderly_behind known layer layers orderly) (still_with name known left layer new s)
reach_stays {name} (replaced layer content layers changed has rest) known left orderly s =
    let new = (orderly_splits (names_of known) layer layers orderly).first.new_name in
    reach_stays rest (with_reach known layer) (with_reach left (record { name = layer.name; content = content }))
    (orderly_behind known layer layers orderly) (still_replaced name known left layer content has new s)
reach_stays {name} (removed layer layers changed has rest) known left orderly s =
    let new = (orderly_splits (names_of known) layer layers orderly).first.new_name in
    reach_stays rest (with_reach known layer) left (orderly_behind known layer layers orderly) (still_removed name known left layer has new s)

-- the layer that has a name does not pass a test that the name does not pass
fails_too : (test : Name → Bool) (m name : Name) → bytes_eq m name ≡ true → test name ≡ false → test m ≡ false
fails_too test m name has out = ap test (same_name m name has) ∙ out

-- the layers that pass a test are the same, where the changed name does not pass it
passing_stays : (test : Name → Bool) {name : Name} {layers changed : List Layer} → DifferAt name layers changed → test name ≡ false → passing test changed ≡ passing test layers
passing_stays test none out = refl
passing_stays test (other layer layers changed away rest) out =
    ap (λ ls. if test layer.name then layer ∷ ls else ls) (passing_stays test rest out)
passing_stays test {name} (replaced layer content layers changed has rest) out =
    let fails = fails_too test layer.name name has out in
    passing_no test (record { name = layer.name; content = content }) changed fails ∙ passing_stays test rest out ∙ sym (passing_no test layer layers fails)
passing_stays test {name} (removed layer layers changed has rest) out =
    passing_stays test rest out ∙ sym (passing_no test layer layers (fails_too test layer.name name has out))

-- a layer that does not reach the changed name reaches the same layers
pub same_in_reach : (layers changed : List Layer) (changed_name name : Name) → IsOrderly layers → DifferAt changed_name layers changed
    → is_reached (reaches layers) name changed_name ≡ false → layers_in_reach changed name ≡ layers_in_reach layers name
same_in_reach layers changed changed_name name orderly differ out =
    let s = reach_stays differ [] [] orderly (record { fewer = λ u h. h; same = λ u h. refl }) in
    ap (λ ns. passing (has_name ns) changed) (s.same name out) ∙ passing_stays (is_reached (reaches layers) name) differ out
