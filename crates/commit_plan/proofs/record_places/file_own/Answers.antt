-- The own record of a layer stays, or has its place.
use Rattle.std.proofs.Common.{◌≡◌, ◌++◌, ◌∷◌, [], List, ℕ, None, refl, sym, ◌∙◌, ap, subst, rules}
use Rattle.layer_book.specs.Layer.{content}
use Rattle.commit_plan.specs.Staying.{layer_named, layer_stays}
use Rattle.commit_plan.specs.Live.{live_content}
use Rattle.commit_plan.specs.Filed.{fresh, stays, SaysLayer}
use Rattle.commit_plan.specs.Drafted.{HasNoRunFor, sizes_in, with_filed}
use Rattle.commit_plan.specs.RecordPlaces.{IsFiled}
use Rattle.commit_plan.specs.Sizes.{own_sizes}
use Rattle.commit_plan.proofs.Drafts.{nothing_more, sizes_with}
use Rattle.commit_plan.proofs.Imaged.{if_ok}
use Rattle.commit_plan.proofs.Sized.{none_behind, new_own, kept_own}
use Rattle.commit_plan.proofs.record_places.file_own.Goals as goal

pub returns-in-Some-clause-ok : goal.returns-in-Some-clause-ok
returns-in-Some-clause-ok c = record { filed = stays c.in-Some.extent; extent = refl; draft = nothing_more c.args.draft.now; says = sym c.in-Some.ensures }

pub returns-in-Some-clause-sizes : goal.returns-in-Some-clause-sizes
returns-in-Some-clause-sizes c =
    let live = live_content c.args.live.now in
    let layer = layer_named c.args.name.now (content c.args.layer.now) in
    none_behind (sizes_in c.args.draft.now) (own_sizes live layer) (kept_own live layer c.in-Some.extent (sym c.in-Some.ensures))

pub returns-clause-ok : goal.returns-clause-ok
returns-clause-ok c =
    let live = live_content c.args.live.now in
    let layer = layer_named c.args.name.now (content c.args.layer.now) in
    let none : layer_stays live layer ≡ None = search rules in
    let bytes = c.in_ok-bytes.bytes.items in
    if_ok c.file.result (λ e. c.file.new.self ≡ with_filed c.args.draft.now (record { extent = e; bytes = bytes } ∷ []))
    (λ e. IsFiled c.args.draft.now (SaysLayer live layer) e c.file.new.self)
    (λ e is. record { filed = fresh (record { extent = e; bytes = bytes }); extent = refl; draft = is; says = (c.in_ok-bytes.ensures.says, none) }) c.file.ensures.ok

pub returns-clause-sizes : goal.returns-clause-sizes
returns-clause-sizes c =
    let live = live_content c.args.live.now in
    let layer = layer_named c.args.name.now (content c.args.layer.now) in
    let none : layer_stays live layer ≡ None = search rules in
    let bytes = c.in_ok-bytes.bytes.items in
    let d = c.args.draft.now in
    if_ok c.file.result (λ e. c.file.new.self ≡ with_filed d (record { extent = e; bytes = bytes } ∷ []))
    (λ _. sizes_in c.file.new.self ≡ sizes_in d ++ own_sizes live layer)
    (λ e is. sizes_with d c.file.new.self (record { extent = e; bytes = bytes } ∷ []) is ∙ ap (λ (l : List ℕ). sizes_in d ++ l) (new_own live layer bytes none c.in_ok-bytes.ensures.spelled))
    c.file.ensures.ok

pub returns-clause-full : goal.returns-clause-full
returns-clause-full c u =
    let live = live_content c.args.live.now in
    let layer = layer_named c.args.name.now (content c.args.layer.now) in
    let none : layer_stays live layer ≡ None = search rules in
    subst (HasNoRunFor c.args.draft.now) (new_own live layer c.in_ok-bytes.bytes.items none c.in_ok-bytes.ensures.spelled) (c.file.ensures.full u)
