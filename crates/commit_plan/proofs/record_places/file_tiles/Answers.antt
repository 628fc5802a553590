-- One column after another has its record.
use Rattle.std.proofs.Common.{◌≡◌, ◌+◌, ◌<◌, ◌++◌, ◌∷◌, [], ℕ, List, Option, length, take, get_or, None, refl, ap, subst, sym, ◌∙◌, rules, arith}
use Rattle.std.specs.Prelude.{IsTrue}
use Rattle.std.specs.Option.{option_map}
use Rattle.std.proofs.lemmas.List.{length-append, length-map, take_all}
use Rattle.overlay_terms.specs.Histories.{Tile, is_formed, tile_at}
use Rattle.tile_build.specs.Tile.{named_pieces}
use Rattle.layer_tiles.specs.Table.{places_in, row_tiles}
use Rattle.layer_tiles.specs.TileCode.{by_places, Named}
use Rattle.commit_plan.specs.declared.fault.StoreFault.TheVariants.{Full}
use Rattle.commit_plan.specs.Live.{live_content}
use Rattle.commit_plan.specs.Filed.{filed_tiles}
use Rattle.commit_plan.specs.Sizes.{row_sizes}
use Rattle.commit_plan.specs.Drafted.{HasNoRunFor, sizes_in}
use Rattle.commit_plan.specs.RecordPlaces.{AreTilesFiled, IsSlotFiled}
use Rattle.commit_plan.proofs.Drafts.{joined, no_run_behind, passed_error}
use Rattle.commit_plan.proofs.Sized.{none_behind, column_full, sizes_next}
use Rattle.commit_plan.proofs.Walked.{no_tiles, tiles_more}
use Rattle.commit_plan.proofs.record_places.file_tiles.Goals as goal

pub loop-number-init : goal.loop-number-init
loop-number-init c =
    let live = live_content c.args.live.now in
    let name = c.args.name.now in
    let d = c.args.draft.now in
    record {
      ok = subst (λ es. AreTilesFiled live d name [] es d) (sym c.new-entries.ensures.items) (no_tiles live name d);
      sizes = none_behind (sizes_in d) [] refl;
      count = ap length c.new-entries.ensures.items;
    }

pub loop-number-preserved : goal.loop-number-preserved
loop-number-preserved c =
    let live = live_content c.args.live.now in
    let name = c.args.name.now in
    let row = c.args.row.now in
    let i = c.loop-number.number in
    let so_far = c.loop-number.invariant in
    let old = c.args.draft.now in
    let mid = c.loop-number.draft in
    let new = c.file_tile.new.draft in
    let column : c.in-Some.column ≡ i = search rules in
    let slot : option_map (λ t. named_pieces t.now.value) c.tile_at-tile.result ≡ get_or row i None =
    c.tile_at-tile.ensures ∙ ap (λ n. get_or row n None) c.from-in-loop-number.ensures in
    let less : i < length row = omega (arith, c.loop-number-test.true, c.requires.whole) in
    let entry = c.in_ok-entry.entry in
    record {
      ok = tiles_more live name row i c.loop-number.entries.items c.push.new.self.items entry old mid new less so_far.count so_far.ok
          (subst (λ k. IsSlotFiled live mid name k (get_or row i None) entry new) column
          (subst (λ (o : Option Named). IsSlotFiled live mid name c.in-Some.column o entry new) slot c.in_ok-entry.ensures.ok))
          c.in_ok-push.ensures.items;
      sizes = joined (sizes_in old) (sizes_in mid) (sizes_in new) (row_sizes live name 0 (take i row)) (row_sizes live name i (get_or row i None ∷ [])) so_far.sizes
          (subst (λ k. sizes_in new ≡ sizes_in mid ++ row_sizes live name k (get_or row i None ∷ [])) column
          (subst (λ (o : Option Named). sizes_in new ≡ sizes_in mid ++ row_sizes live name c.in-Some.column (o ∷ [])) slot c.in_ok-entry.ensures.sizes))
          ∙ ap (λ (l : List ℕ). sizes_in old ++ l) (sizes_next live name row i less);
      count = ap length c.in_ok-push.ensures.items
          ∙ length-append c.loop-number.entries.items (entry ∷ []) ∙ ap (λ (n : ℕ). n + 1) so_far.count;
    }

pub file_tile-requires-clause-known : goal.file_tile-requires-clause-known
file_tile-requires-clause-known c known held is =
    let row = c.args.row.now in
    let i = c.loop-number.number in
    let column : c.in-Some.column ≡ i = search rules in
    ap (tile_at (live_content c.args.live.now).tiles c.args.name.now) column
    ∙ c.requires.known known i held (sym (c.tile_at-tile.ensures ∙ ap (λ n. get_or row n None) c.from-in-loop-number.ensures) ∙ is)

pub file_tile-requires-clause-formed : goal.file_tile-requires-clause-formed
file_tile-requires-clause-formed c held is =
    let row = c.args.row.now in
    let i = c.loop-number.number in
    let column : c.in-Some.column ≡ i = search rules in
    subst (λ k. IsTrue (is_formed (by_places held) k)) (sym column)
    (c.requires.formed i held (sym (c.tile_at-tile.ensures ∙ ap (λ n. get_or row n None) c.from-in-loop-number.ensures) ∙ is))

pub returns-clause-ok : goal.returns-clause-ok
returns-clause-ok c =
    let row = c.args.row.now in
    let i = c.loop-number.number in
    let whole : take i (places_in row) ≡ places_in row = take_all i (places_in row) (omega (arith, c.loop-number-test.false, c.requires.whole, length-map row (option_map by_places))) in
    subst (λ (r : List (Option Tile)). AreTilesFiled (live_content c.args.live.now) c.args.draft.now c.args.name.now (row_tiles c.args.name.now 0 r) c.loop-number.entries.items c.loop-number.draft)
    whole c.loop-number.invariant.ok

pub returns-clause-sizes : goal.returns-clause-sizes
returns-clause-sizes c =
    let row = c.args.row.now in
    let whole : take c.loop-number.number row ≡ row = take_all c.loop-number.number row (omega (arith, c.loop-number-test.false, c.requires.whole)) in
    subst (λ (r : List (Option Named)). sizes_in c.loop-number.draft ≡ sizes_in c.args.draft.now ++ row_sizes (live_content c.args.live.now) c.args.name.now 0 r) whole c.loop-number.invariant.sizes

pub returns-in_err-entry-clause-full : goal.returns-in_err-entry-clause-full
returns-in_err-entry-clause-full c u =
    let live = live_content c.args.live.now in
    let name = c.args.name.now in
    let row = c.args.row.now in
    let i = c.loop-number.number in
    let so_far = c.loop-number.invariant in
    let old = c.args.draft.now in
    let mid = c.loop-number.draft in
    let column : c.in-Some.column ≡ i = search rules in
    let slot : option_map (λ t. named_pieces t.now.value) c.tile_at-tile.result ≡ get_or row i None =
    c.tile_at-tile.ensures ∙ ap (λ n. get_or row n None) c.from-in-loop-number.ensures in
    let less : i < length row = omega (arith, c.loop-number-test.true, c.requires.whole) in
    column_full live old name row i less
    (no_run_behind old mid (filed_tiles so_far.ok.filed) (row_sizes live name 0 (take i row)) (row_sizes live name i (get_or row i None ∷ [])) so_far.ok.draft so_far.sizes
    (subst (λ k. HasNoRunFor mid (row_sizes live name k (get_or row i None ∷ []))) column
    (subst (λ (o : Option Named). HasNoRunFor mid (row_sizes live name c.in-Some.column (o ∷ []))) slot
    (c.in_err-entry.ensures.full (passed_error _ c.from_residual.result c.in_err-entry.field-0.0 Full c.from_residual.ensures.1 u)))))
