-- The value of a layer is its steps at the parities of its segments in reach.
use Rattle.std.specs.Prelude.{◌≡◌, ◌-◌, Bool, true, false, List, [], ◌∷◌, map, filter_map, length, bytes_eq}
use Rattle.std.specs.List.{AllByRecursion}
use Rattle.std.proofs.Common.{refl, ap, sym, ◌∙◌, subst}
use Rattle.std.proofs.lemmas.Bool.{false≢true, or_left}
use Rattle.std.proofs.lemmas.List.Elements.{recursion_from_All}
use Rattle.overlay_terms.specs.Plane.{WholePoint, Point, segments_of, is_inside}
use Rattle.overlay_terms.specs.Trees.{relabel, last_or, steps_value}
use Rattle.overlay_terms.specs.Layers.{Name, Content, base, derived, Layer, named, content_value, values, value_of, content_reach, reaches, layers_in_reach, base_of, derived_of, marked_segments, source_of, steps_in_reach, segments_in_reach}
use Rattle.overlay_terms.specs.Tiles.{below_bits}
use Rattle.overlay_terms.specs.Orderly.{IsOrderly}
use Rattle.overlay_terms.specs.Commands.{stands, stands_as_base, stands_as_derived}
use Rattle.overlay_terms.specs.Laws.{ValueIsSteps, FalseWhereBasesAre}
use Rattle.overlay_terms.proofs.Functions.{fun_ext}
use Rattle.overlay_terms.proofs.StepLaws.{nothing_from_nothing}
use Rattle.overlay_terms.proofs.NameLemmas.{name_itself, or_false}
use Rattle.overlay_terms.proofs.TableLemmas.{rows_fixed, no_row}
use Rattle.overlay_terms.proofs.ReachLemmas.{has_name, is_reached, AreReachRows, ReachesOn, content_reach_of_uses, closed_all, itself_all, uses_all, none_behind}
use Rattle.overlay_terms.proofs.BitLemmas.{below_bits_match, below_bits_false}
use Rattle.overlay_terms.proofs.SourceLemmas.{Matches}
use Rattle.overlay_terms.proofs.DefinitionLemmas.{base_names, derived_names, passing, passing_yes, passing_no, content_value_of_uses, definitions_give}
use Rattle.overlay_terms.proofs.OwnLemmas.{alone, base_reach, last_is, derived_from_stands}

-- what the steps over some layers give at a point
abbrev answer_of : Point → List Layer → Bool
answer_of p reachable =
    steps_value
    (record { bases = length (filter_map base_of reachable); definitions = map (λ d. relabel (source_of (base_names reachable) (derived_names reachable)) d.1) (filter_map derived_of reachable) })
    (below_bits (marked_segments (map (λ b. b.1) (filter_map base_of reachable))) p)

module _ (p : Point) (known : List (Name × Bool)) (test : Name → Bool) where
  -- the value of each base layer is whether the point is inside it
  abbrev BasesInside : List Layer → Type 0
  BasesInside layers = AllByRecursion (λ b. named false known b.0 ≡ is_inside (segments_of b.1) p) (filter_map base_of layers)

  -- one more layer in front
  inside_first : (n : Name) (content : Content) (b : Bool) (layers : List Layer) → test n ≡ b → named false known n ≡ content_value p known content → BasesInside (passing test layers) → BasesInside (passing test (record { name = n; content = content } ∷ layers))
  inside_first n content false layers out row rest = subst BasesInside (sym (passing_no test (record { name = n; content = content }) layers out)) rest
  inside_first n (base rings) true layers e row rest = subst BasesInside (sym (passing_yes test (record { name = n; content = base rings }) layers e)) (row, rest)
  inside_first n (derived expression) true layers e row rest = subst BasesInside (sym (passing_yes test (record { name = n; content = derived expression }) layers e)) rest

  -- the value of a base layer is whether the point is inside it
  bases_inside : (layers : List Layer) → AllByRecursion (λ layer. named false known layer.name ≡ content_value p known layer.content) layers → BasesInside (passing test layers)
  bases_inside [] rows = tt
  bases_inside (layer ∷ layers) rows = inside_first layer.name layer.content (test layer.name) layers refl rows.0 (bases_inside layers rows.1)

module _ (layers : List Layer) (name : Name) (p : Point) (orderly : IsOrderly layers) where
  -- what each layer reaches is a row of the whole table
  reach_rows : AreReachRows (reaches layers) layers
  reach_rows =
      rows_fixed [] (λ known layer. content_reach layer.name known layer.content) (λ known more layer h. content_reach_of_uses known more layer.name layer.content h) layers [] orderly

  -- the value of each layer is a row of the whole table
  value_rows : AllByRecursion (λ layer. named false (values layers p) layer.name ≡ content_value p (values layers p) layer.content) layers
  value_rows =
      rows_fixed false (λ known layer. content_value p known layer.content) (λ known more layer h. content_value_of_uses p known more layer.content h) layers [] orderly

  -- whether the layer reaches a name
  abbrev reached : Name → Bool
  reached m = is_reached (reaches layers) name m

  -- the parities are the values of the base layers in reach
  bits_match : Matches (named false (values layers p)) (below_bits (segments_in_reach layers name) p) (base_names (layers_in_reach layers name)) 0
  bits_match =
      below_bits_match p (named false (values layers p)) (filter_map base_of (layers_in_reach layers name)) (bases_inside p (values layers p) reached layers value_rows)

  -- a name that no layer has is false, and reaches nothing
  where_none : stands layers name ≡ false → value_of layers name p ≡ answer_of p (layers_in_reach layers name)
  where_none none =
      let empty : named [] (reaches layers) name ≡ [] = no_row [] (λ known layer. content_reach layer.name known layer.content) layers [] name refl none in
      let unreached : layers_in_reach layers name ≡ [] = none_behind reached layers [] (λ m e. sym (ap (λ ns. has_name ns m) empty) ∙ e) orderly in
      no_row false (λ known layer. content_value p known layer.content) layers [] name refl none ∙ sym (ap (answer_of p) unreached)

  -- a base layer is the one bit of its steps
  where_base : stands_as_base layers name ≡ true → value_of layers name p ≡ answer_of p (layers_in_reach layers name)
  where_base standing =
      let own : named [] (reaches layers) name ≡ name ∷ [] = base_reach (reaches layers) name layers reach_rows standing in
      let itself : reached name ≡ true = ap (λ ns. has_name ns name) own ∙ or_left _ _ (name_itself name) in
      let only = alone reached name layers [] orderly (λ m e. sym (or_false (bytes_eq m name)) ∙ sym (ap (λ ns. has_name ns m) own) ∙ e) itself standing in
      let bit = subst (λ ls. Matches (named false (values layers p)) (below_bits (marked_segments (map (λ b. b.1) (filter_map base_of ls))) p) (base_names ls) 0) only.is bits_match in
      sym (ap (answer_of p) only.is ∙ bit.0)

  -- a derived layer is the last of its steps
  where_derived : stands layers name ≡ true → stands_as_derived layers name ≡ true → value_of layers name p ≡ answer_of p (layers_in_reach layers name)
  where_derived standing as_derived =
      let closed : ReachesOn (reaches layers) name = closed_all (reaches layers) layers [] orderly reach_rows (λ n e. absurd (false≢true e)) name standing in
      let itself : reached name ≡ true = itself_all (reaches layers) layers [] reach_rows (λ n e. absurd (false≢true e)) name standing in
      let uses = uses_all (reaches layers) name closed layers [] orderly reach_rows (λ n e. absurd (false≢true e)) in
      let reachable = layers_in_reach layers name in
      let bits = below_bits (segments_in_reach layers name) p in
      let given = definitions_give p (values layers p) reached bits (base_names reachable) (derived_names reachable) layers bits_match orderly value_rows uses refl refl in
      sym (ap (last_or (bits (length (filter_map base_of reachable) - 1))) given ∙ last_is (reaches layers) name (named false (values layers p)) layers [] orderly reach_rows (λ n e. absurd (false≢true e)) itself as_derived (bits (length (filter_map base_of reachable) - 1)))

  -- by whether a layer has the name, and whether it is a base layer
  by_kind : (s b : Bool) → stands layers name ≡ s → stands_as_base layers name ≡ b → value_of layers name p ≡ answer_of p (layers_in_reach layers name)
  by_kind false b none e = where_none none
  by_kind true true standing as_base = where_base as_base
  by_kind true false standing not_base = where_derived standing (derived_from_stands layers name standing not_base)

-- the value of a layer is its steps at the parities of its segments in reach
pub value_is_steps : ValueIsSteps
value_is_steps layers name p orderly = by_kind layers name p orderly (stands layers name) (stands_as_base layers name) refl refl

-- a layer is false where every base layer in reach is
pub false_where_bases_are : FalseWhereBasesAre
false_where_bases_are layers name p orderly outside =
    let bases = filter_map base_of (layers_in_reach layers name) in
    value_is_steps layers name p orderly
    ∙ ap (steps_value (steps_in_reach layers name)) (fun_ext (below_bits_false p bases (recursion_from_All (λ (b : Name × List (List WholePoint)). is_inside (segments_of b.1) p ≡ false) bases outside)))
    ∙ nothing_from_nothing (steps_in_reach layers name)
