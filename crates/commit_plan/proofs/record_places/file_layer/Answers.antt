-- A layer has its record, and those of its tiles.
use Rattle.std.proofs.Common.{◌≡◌, inl, inr, sym, ◌∙◌, subst}
use Rattle.overlay_terms.specs.Layers.{Name}
use Rattle.layer_book.specs.Layer.{content}
use Rattle.layer_tiles.specs.Table.{places_in, row_tiles}
use Rattle.commit_plan.specs.declared.fault.StoreFault.TheVariants.{Full}
use Rattle.commit_plan.specs.Staying.{layer_named}
use Rattle.commit_plan.specs.Live.{live_content}
use Rattle.commit_plan.specs.Filed.{fresh_of}
use Rattle.commit_plan.specs.Drafted.{sizes_in}
use Rattle.commit_plan.specs.RecordPlaces.{IsLayerFiled}
use Rattle.commit_plan.specs.Sizes.{own_sizes, row_sizes}
use Rattle.commit_plan.proofs.Drafts.{joined, no_run_behind, no_run_more, passed_error}
use Rattle.commit_plan.proofs.Walked.{plain_filed, derived_filed}
use Rattle.commit_plan.proofs.record_places.file_layer.Goals as goal

pub returns-in_err-extent-clause-full : goal.returns-in_err-extent-clause-full
returns-in_err-extent-clause-full c u =
    let live = live_content c.args.live.now in
    let name = c.args.name.now in
    no_run_more c.args.draft.now (own_sizes live (layer_named name (content c.args.layer.now))) (row_sizes live name 0 c.args.row.now)
    (c.in_err-extent.ensures.full (passed_error _ c.from_residual-in_err-extent.result c.in_err-extent.field-0.0 Full c.from_residual-in_err-extent.ensures.1 u))

pub returns-in_err-entries-clause-full : goal.returns-in_err-entries-clause-full
returns-in_err-entries-clause-full c u =
    let live = live_content c.args.live.now in
    let name = c.args.name.now in
    let own = c.in_ok-extent.ensures.ok in
    no_run_behind c.args.draft.now c.file_own.new.draft (fresh_of own.filed) (own_sizes live (layer_named name (content c.args.layer.now))) (row_sizes live name 0 c.args.row.now) own.draft
    c.in_ok-extent.ensures.sizes
    (c.in_err-entries.ensures.full (passed_error _ c.from_residual-in_err-entries.result c.in_err-entries.field-0.0 Full c.from_residual-in_err-entries.ensures.1 u))

pub returns-then-not-is_derived-clause-ok : goal.returns-then-not-is_derived-clause-ok
returns-then-not-is_derived-clause-ok c =
    let live = live_content c.args.live.now in
    let name = c.args.name.now in
    let content = content c.args.layer.now in
    let plain = sym c.is_derived.ensures ∙ c.if-not-is_derived.true in
    let named : name ≡ c.in_ok-bytes.bytes.items = sym (c.in_ok-bytes.ensures.items ∙ c.bytes.ensures.value) in
    let tiles = row_tiles name 0 (places_in c.args.row.now) in
    let old = c.args.draft.now in
    let new = c.file_own.new.draft in
    subst (λ (n : Name). IsLayerFiled live old (layer_named name content) tiles (record { name = n; records = inl c.in_ok-extent.extent }) new) named
    (plain_filed live name content c.args.row.now c.in_ok-extent.extent old new plain (c.requires.bare plain) c.in_ok-extent.ensures.ok)

pub returns-clause-ok : goal.returns-clause-ok
returns-clause-ok c =
    let live = live_content c.args.live.now in
    let name = c.args.name.now in
    let content = content c.args.layer.now in
    let tiles = row_tiles name 0 (places_in c.args.row.now) in
    let es = c.in_ok-entries.entries.items in
    let extent = c.in_ok-extent.extent in
    let named : name ≡ c.in_ok-bytes.bytes.items = sym (c.in_ok-bytes.ensures.items ∙ c.bytes.ensures.value) in
    let old = c.args.draft.now in
    let new = c.file_tiles.new.draft in
    subst (λ (n : Name). IsLayerFiled live old (layer_named name content) tiles (record { name = n; records = inr (extent, es) }) new) named
    (derived_filed live name content tiles extent es old c.file_own.new.draft new (sym c.is_derived.ensures ∙ c.if-not-is_derived.false) c.in_ok-extent.ensures.ok c.in_ok-entries.ensures.ok)

pub returns-clause-sizes : goal.returns-clause-sizes
returns-clause-sizes c =
    let live = live_content c.args.live.now in
    let name = c.args.name.now in
    joined (sizes_in c.args.draft.now) (sizes_in c.file_own.new.draft) (sizes_in c.file_tiles.new.draft) (own_sizes live (layer_named name (content c.args.layer.now)))
    (row_sizes live name 0 c.args.row.now) c.in_ok-extent.ensures.sizes c.in_ok-entries.ensures.sizes
