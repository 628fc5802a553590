-- Where a column has a tile, its record stays, or has its place.
use Rattle.std.proofs.Common.{◌^◌, ◌<◌, ◌++◌, ◌∷◌, [], ℕ, List, length, Some, refl, sym, ◌∙◌, ap, subst}
use Rattle.std.specs.Prelude.{IsTrue}
use Rattle.overlay_terms.specs.Histories.{Tile, is_formed}
use Rattle.tile_build.specs.Tile.{named_pieces}
use Rattle.layer_tiles.proofs.Placed.{by_its_names}
use Rattle.commit_plan.specs.declared.fault.StoreFault.TheVariants.{Full}
use Rattle.commit_plan.specs.Live.{live_content}
use Rattle.commit_plan.specs.Filed.{fresh, stays}
use Rattle.commit_plan.specs.Drafted.{HasNoRunFor, sizes_in}
use Rattle.commit_plan.proofs.Drafts.{nothing_more, passed_error, sizes_with}
use Rattle.commit_plan.proofs.Short.{tile_short}
use Rattle.commit_plan.proofs.Sized.{none_behind, slot_of, new_slot, kept_slot}
use Rattle.commit_plan.proofs.Walked.{slot_filed}
use Rattle.commit_plan.proofs.record_places.file_tile.Goals as goal

pub tile_stays-requires-clause-known : goal.tile_stays-requires-clause-known
tile_stays-requires-clause-known c known =
    let v = c.deref-tile.result.now in
    let is = slot_of _ _ v c.in-Some.is (sym c.deref-tile.ensures) in
    c.requires.known known (named_pieces v) is ∙ ap Some (by_its_names v)

pub write_tile-requires : goal.write_tile-requires
write_tile-requires c =
    let v = c.deref-tile.result.now in
    let is = slot_of _ _ v c.in-Some.is (sym c.deref-tile.ensures) in
    subst (λ (t : Tile). IsTrue (is_formed t c.args.column)) (by_its_names v) (c.requires.formed (named_pieces v) is)

pub file-requires : goal.file-requires
file-requires c =
    let v = c.deref-tile.result.now in
    let is = slot_of _ _ v c.in-Some.is (sym c.deref-tile.ensures) in
    subst (λ (l : List ℕ). length l < 2 ^ 32) (sym c.in_ok-bytes.ensures.spelled)
    (tile_short c.args.column v
    (subst (λ (t : Tile). IsTrue (is_formed t c.args.column)) (by_its_names v) (c.requires.formed (named_pieces v) is)))

pub returns-in-Some-tile_stays-clause-ok : goal.returns-in-Some-tile_stays-clause-ok
returns-in-Some-tile_stays-clause-ok c =
    let v = c.deref-tile.result.now in
    let e = c.in-Some-tile_stays.extent in
    let d = c.args.draft.now in
    let is = slot_of _ _ v c.in-Some.is (sym c.deref-tile.ensures) in
    slot_filed (live_content c.args.live.now) c.args.name.now c.args.column v _ e d d is
    (record { filed = stays e; extent = refl; draft = nothing_more d; says = sym c.in-Some-tile_stays.ensures })

pub returns-in-Some-tile_stays-clause-sizes : goal.returns-in-Some-tile_stays-clause-sizes
returns-in-Some-tile_stays-clause-sizes c =
    let v = c.deref-tile.result.now in
    let is = slot_of _ _ v c.in-Some.is (sym c.deref-tile.ensures) in
    none_behind (sizes_in c.args.draft.now) _
    (kept_slot (live_content c.args.live.now) c.args.name.now c.args.column v _ c.in-Some-tile_stays.extent is (sym c.in-Some-tile_stays.ensures))

pub returns-in_err-extent-clause-full : goal.returns-in_err-extent-clause-full
returns-in_err-extent-clause-full c u =
    let v = c.deref-tile.result.now in
    let bytes = c.in_ok-bytes.bytes.items in
    let is = slot_of _ _ v c.in-Some.is (sym c.deref-tile.ensures) in
    subst (HasNoRunFor c.args.draft.now)
    (new_slot (live_content c.args.live.now) c.args.name.now c.args.column v _ bytes is (sym c.in_default-tile_stays.ensures) c.in_ok-bytes.ensures.spelled)
    (c.in_err-extent.ensures.full (passed_error _ c.from_residual-in_err-extent.result c.in_err-extent.field-0.0 Full c.from_residual-in_err-extent.ensures.1 u))

pub returns-clause-ok : goal.returns-clause-ok
returns-clause-ok c =
    let v = c.deref-tile.result.now in
    let e = c.in_ok-extent.extent in
    let is = slot_of _ _ v c.in-Some.is (sym c.deref-tile.ensures) in
    slot_filed (live_content c.args.live.now) c.args.name.now c.args.column v _ e c.args.draft.now c.file.new.self is (record {
      filed = fresh (record { extent = e; bytes = c.in_ok-bytes.bytes.items });
      extent = refl;
      draft = c.in_ok-extent.ensures.ok;
      says = (c.in_ok-bytes.ensures.reads_back, sym c.in_default-tile_stays.ensures);
    })

pub returns-clause-sizes : goal.returns-clause-sizes
returns-clause-sizes c =
    let v = c.deref-tile.result.now in
    let bytes = c.in_ok-bytes.bytes.items in
    let d = c.args.draft.now in
    let is = slot_of _ _ v c.in-Some.is (sym c.deref-tile.ensures) in
    sizes_with d c.file.new.self (record { extent = c.in_ok-extent.extent; bytes = bytes } ∷ []) c.in_ok-extent.ensures.ok
    ∙ ap (λ (l : List ℕ). sizes_in d ++ l)
    (new_slot (live_content c.args.live.now) c.args.name.now c.args.column v _ bytes is (sym c.in_default-tile_stays.ensures) c.in_ok-bytes.ensures.spelled)
