-- One layer after another has its records.
use Rattle.std.proofs.Common.{◌≡◌, ◌+◌, ◌++◌, ◌∷◌, [], ℕ, List, length, take, refl, ap, sym, ◌∙◌, subst, arith, rules}
use Rattle.std.specs.List.{All, flat_map}
use Rattle.std.proofs.lemmas.List.{length-append, map-append}
use Rattle.std.proofs.lemmas.List.Elements.{All-push}
use Rattle.layer_book.specs.Layer.{content}
use Rattle.layer_tiles.specs.Table.{laid}
use Rattle.store_terms.specs.Listing.{entry_of, entries_of, IsListable}
use Rattle.store_terms.specs.declared.catalog.Listed as code
use Rattle.commit_plan.specs.declared.fault.StoreFault.TheVariants.{Full}
use Rattle.commit_plan.specs.Drafted.{sizes_in}
use Rattle.commit_plan.specs.Filed.{filed_of}
use Rattle.commit_plan.specs.Live.{live_content}
use Rattle.commit_plan.specs.RecordPlaces.{AreLayersFiled}
use Rattle.commit_plan.specs.Sizes.{layer_sizes, sizes_of_layers}
use Rattle.commit_plan.specs.Staying.{layer_named}
use Rattle.commit_plan.proofs.Drafts.{joined, no_run_behind, passed_error}
use Rattle.commit_plan.proofs.Rows.{row_formed, row_bare, row_known}
use Rattle.commit_plan.proofs.Sized.{none_behind, layers_full, layers_next, layers_whole}
use Rattle.commit_plan.proofs.Walked.{no_layers, layers_more, all_layers}
use Rattle.commit_plan.proofs.record_places.file_layers.Goals as goal

pub file_layer-requires-clause-formed : goal.file_layer-requires-clause-formed
file_layer-requires-clause-formed c = row_formed (laid c.args.table.now) c.layers.ensures.valid c.in-Some.name.now c.in-Some.row.now c.in-Some.ensures.places

pub file_layer-requires-clause-known : goal.file_layer-requires-clause-known
file_layer-requires-clause-known c known =
    row_known (laid c.args.table.now) c.layers.ensures.valid c.in-Some.name.now c.in-Some.row.now c.in-Some.ensures.places (live_content c.args.live.now) (c.requires known)

pub file_layer-requires-clause-bare : goal.file_layer-requires-clause-bare
file_layer-requires-clause-bare c plain =
    row_bare (laid c.args.table.now) c.layers.ensures.valid c.in-Some.name.now c.in-Some.row.now c.in-Some.ensures.places
    (layer_named c.in-Some.name.now (content c.in-Some.layer.now)) c.loop-place.place (sym c.in-Some.ensures.layer) refl plain

pub loop-place-init : goal.loop-place-init
loop-place-init c =
    let live = live_content c.args.live.now in
    let d = c.args.draft.now in
    record {
      ok = subst (λ (l : List code.Listed). AreLayersFiled live d [] [] (entries_of l) d) (sym c.new-listing.ensures.items) (no_layers live d);
      sizes = none_behind (sizes_in d) [] refl;
      listable = search rules;
      count = ap length c.new-listing.ensures.items;
    }

pub loop-place-preserved : goal.loop-place-preserved
loop-place-preserved c =
    let live = live_content c.args.live.now in
    let so_far = c.loop-place.invariant in
    let layers = c.args.table.now.layers in
    let rows = c.args.table.now.rows in
    let i = c.loop-place.place in
    let layer = layer_named c.in-Some.name.now (content c.in-Some.layer.now) in
    let row = c.in-Some.row.now in
    let is = sym c.in-Some.ensures.layer in
    let has = sym c.in-Some.ensures.row in
    let old = c.args.draft.now in
    let mid = c.loop-place.draft in
    let new = c.file_layer.new.draft in
    let items = c.loop-place.listing.items in
    let one = c.in_ok-listed.listed in
    let pushed : c.push.new.self.items ≡ items ++ one ∷ [] = c.in_ok-push.ensures.items in
    record {
      ok = layers_more live layers rows i layer row (entries_of items) (entries_of c.push.new.self.items) (entry_of one) old mid new is has so_far.ok c.in_ok-listed.ensures.ok
          (ap entries_of pushed ∙ map-append entry_of items (one ∷ []));
      sizes = joined (sizes_in old) (sizes_in mid) (sizes_in new) (sizes_of_layers live (take i layers) (take i rows)) (layer_sizes live layer row) so_far.sizes c.in_ok-listed.ensures.sizes
          ∙ ap (λ (l : List ℕ). sizes_in old ++ l) (layers_next live layers rows i layer row is has);
      listable = subst (λ (l : List code.Listed). All IsListable l) (sym pushed) (All-push IsListable items one so_far.listable c.in_ok-listed.ensures.listable);
      count = ap length pushed ∙ length-append items (one ∷ []) ∙ ap (λ (n : ℕ). n + 1) so_far.count;
    }

pub returns-clause-ok : goal.returns-clause-ok
returns-clause-ok c =
    let layers = c.args.table.now.layers in
    let end : c.loop-place.place ≡ length layers =
    omega (arith, c.loop-place-test.false, c.loop-place.auto.place-end, c.len-place-end.ensures.value, ap length c.layers.ensures.value) in
    all_layers (live_content c.args.live.now) layers c.args.table.now.rows c.loop-place.place (entries_of c.loop-place.listing.items) c.args.draft.now c.loop-place.draft end c.loop-place.invariant.ok

pub returns-clause-sizes : goal.returns-clause-sizes
returns-clause-sizes c =
    let layers = c.args.table.now.layers in
    let end : c.loop-place.place ≡ length layers =
    omega (arith, c.loop-place-test.false, c.loop-place.auto.place-end, c.len-place-end.ensures.value, ap length c.layers.ensures.value) in
    c.loop-place.invariant.sizes
    ∙ ap (λ (l : List ℕ). sizes_in c.args.draft.now ++ l) (layers_whole (live_content c.args.live.now) layers c.args.table.now.rows c.loop-place.place end)

pub returns-in_err-listed-clause-full : goal.returns-in_err-listed-clause-full
returns-in_err-listed-clause-full c u =
    let live = live_content c.args.live.now in
    let layers = c.args.table.now.layers in
    let rows = c.args.table.now.rows in
    let i = c.loop-place.place in
    let layer = layer_named c.in-Some.name.now (content c.in-Some.layer.now) in
    let row = c.in-Some.row.now in
    let so_far = c.loop-place.invariant in
    layers_full live c.args.draft.now layers rows i layer row (sym c.in-Some.ensures.layer) (sym c.in-Some.ensures.row)
    (no_run_behind c.args.draft.now c.loop-place.draft (flat_map filed_of so_far.ok.filed) (sizes_of_layers live (take i layers) (take i rows)) (layer_sizes live layer row) so_far.ok.draft so_far.sizes
    (c.in_err-listed.ensures.full (passed_error _ c.from_residual.result c.in_err-listed.field-0.0 Full c.from_residual.ensures.1 u)))
