-- What a root holds are layers in order.
use Rattle.std.proofs.Common.{◌≡◌, inl, inr, true, false, not, ◌&&◌, ℕ, List, [], ◌∷◌, ◌++◌, Option, Some, None, Ok, refl, ap, subst, ◌∙◌}
use Rattle.std.specs.Option.{is_none}
use Rattle.std.proofs.lemmas.Bool.{and_parts, not-true}
use Rattle.overlay_terms.specs.Layers.{Name, Content, base, derived, Layer}
use Rattle.overlay_terms.specs.Orderly.{IsOrderly}
use Rattle.overlay_terms.specs.Commands.{Refusal, put, define, stands, with_content}
use Rattle.overlay_terms.proofs.AcceptedLemmas.{step_orderly}
use Rattle.overlay_terms.specs.Histories.{Finished}
use Rattle.layer_expr.specs.Name.{is_name}
use Rattle.store_terms.specs.declared.damage.Damage.TheVariants.{RecordPlace, LayerForm, LayerRefused, Overlap}
use Rattle.store_terms.specs.BaseRecord.{base_of_record}
use Rattle.store_terms.specs.DefinitionRecord.{definition_of_record}
use Rattle.store_terms.specs.Catalog.{Records, Listed}
use Rattle.store_terms.specs.Places.{all_apart, extents_listed}
use Rattle.store_terms.specs.Image.{or_fault, placed_bytes, refusal_of_keeping, may_stand, with_layer, tiles_from_column, layer_of, layers_of, Held, listing_of, held_by}
use Rattle.store_terms.specs.RecordLaws.{HeldIsOrderly}
use Rattle.store_terms.proofs.HeldLemmas.{ok_bound, same_ok, tested_ok}

accepted_none : (o : Option Refusal) → is_none o ≡ true → o ≡ None
accepted_none None e = refl
accepted_none (Some reason) e = absurd cc

-- a layer that may follow orderly ones
kept_orderly : (known : List Layer) (name : Name) (content : Content) → IsOrderly known → refusal_of_keeping known name content ≡ None → IsOrderly (with_content known name content)
kept_orderly known name (base rings) orderly none = step_orderly known (put name rings) none orderly
kept_orderly known name (derived tree) orderly none = step_orderly known (define name tree) none orderly

last_orderly : (known : List Layer) (name : Name) (content : Content) (layers : List Layer) → IsOrderly known → with_layer known name content ≡ Ok layers → IsOrderly layers
last_orderly known name content layers orderly e =
    let last : List Layer = known ++ record { name = name; content = content } ∷ [] in
    let t = tested_ok (may_stand known name content) LayerRefused (known ++ record { name = name; content = content } ∷ []) layers e in
    let p = and_parts (is_name name && not (stands known name)) (is_none (refusal_of_keeping known name content)) t.0 in
    let q = and_parts (is_name name) (not (stands known name)) p.0 in
    let new : stands known name ≡ false = not-true (stands known name) q.1 in
    let kept = kept_orderly known name content orderly (accepted_none (refusal_of_keeping known name content) p.1) in
    let behind : with_content known name content ≡ known ++ record { name = name; content = content } ∷ [] = rw new refl in
    subst IsOrderly (behind ∙ t.1) kept

layer_orderly : (file : List ℕ) (known : List Layer) (name : Name) (records : Records) (x : List Layer × List Finished) → IsOrderly known → layer_of file known name records ≡ Ok x → IsOrderly x.0
layer_orderly file known name (inl e) x orderly h =
    let a = ok_bound (placed_bytes RecordPlace file e) _ x h in
    let b = ok_bound (or_fault LayerForm (base_of_record a.0)) _ x a.2 in
    let c = ok_bound (with_layer known name (base b.0)) _ x b.2 in
    subst IsOrderly (ap (λ (y : List Layer × List Finished). y.0) (same_ok (c.0, []) x c.2)) (last_orderly known name (base b.0) c.0 orderly c.1)
layer_orderly file known name (inr (e, es)) x orderly h =
    let a = ok_bound (placed_bytes RecordPlace file e) _ x h in
    let b = ok_bound (or_fault LayerForm (definition_of_record a.0)) _ x a.2 in
    let c = ok_bound (with_layer known name (derived b.0)) _ x b.2 in
    let d = ok_bound (tiles_from_column file name 0 es) _ x c.2 in
    subst IsOrderly (ap (λ (y : List Layer × List Finished). y.0) (same_ok (c.0, d.0) x d.2)) (last_orderly known name (derived b.0) c.0 orderly c.1)

layers_orderly : (file : List ℕ) (known : List Layer) (ls : List Listed) (x : List Layer × List Finished) → IsOrderly known → layers_of file known ls ≡ Ok x → IsOrderly x.0
layers_orderly file known [] x orderly h = subst IsOrderly (ap (λ (y : List Layer × List Finished). y.0) (same_ok (known, []) x h)) orderly
layers_orderly file known (l ∷ ls) x orderly h =
    let a = ok_bound (layer_of file known l.name l.records) _ x h in
    let b = ok_bound (layers_of file a.0.0 ls) _ x a.2 in
    let one = layer_orderly file known l.name l.records a.0 orderly a.1 in
    let all = layers_orderly file a.0.0 ls b.0 one b.1 in
    subst IsOrderly (ap (λ (y : List Layer × List Finished). y.0) (same_ok (b.0.0, a.0.1 ++ b.0.1) x b.2)) all

pub held_is_orderly : HeldIsOrderly
held_is_orderly file r x h =
    let b = ok_bound (listing_of file r) (held_by file r) x h in
    let all = ok_bound (layers_of file [] b.0) _ x b.2 in
    let t = tested_ok (all_apart (r.catalog ∷ extents_listed b.0)) Overlap (record { number = r.version; layers = all.0.0; tiles = all.0.1 }) x all.2 in
    subst (λ (y : Held). IsOrderly y.layers) t.1 (layers_orderly file [] b.0 all.0 refl all.1)
