-- The catalog has its place after the records, and the body names it.
use Rattle.std.proofs.Common.{false, ◌≡◌, true, Some, ◌+◌, ◌^◌, ◌<◌, ◌++◌, ◌∷◌, [], ℕ, List, length, inr, sym, ◌∙◌, ap, refl, subst, arith}
use Rattle.std.specs.List.{flat_map}
use Rattle.std.proofs.lemmas.List.{length-append}
use Rattle.extent_map.specs.FirstFit.{IsPlanned}
use Rattle.overlay_terms.specs.Column.{column_count}
use Rattle.store_terms.specs.Listing.{entries_of}
use Rattle.store_terms.specs.declared.root.Root.{Root}
use Rattle.store_terms.specs.Catalog.{Listed, catalog}
use Rattle.store_terms.specs.Places.{all_apart, extents_listed}
use Rattle.store_terms.specs.Roots.{sequence_max}
use Rattle.store_terms.specs.StandsFor.{body_at}
use Rattle.root_reading.specs.RootRuns.{AllNear}
use Rattle.commit_plan.specs.ImageHeld.{image_held}
use Rattle.commit_plan.specs.declared.write.Write.{Write}
use Rattle.commit_plan.specs.declared.next.Next.{Next}
use Rattle.commit_plan.specs.Drafted.{Drafted, sizes_in}
use Rattle.commit_plan.specs.Filed.{Filed, filed_of, lengths_of}
use Rattle.commit_plan.specs.Kept.{other}
use Rattle.commit_plan.specs.Staying.{read_content}
use Rattle.commit_plan.proofs.Apart.{records_apart, records_near}
use Rattle.commit_plan.proofs.Completed.{completes, laid_out, only_memory, with_catalog, written_with}
use Rattle.commit_plan.proofs.Drafts.{lengths_with}
use Rattle.commit_plan.proofs.Short.{catalog_short}
use Rattle.commit_plan.proofs.Walked.{writes_count}
use Rattle.commit_plan.proofs.catalog_and_body.completed.Goals as goal

pub file-requires : goal.file-requires
file-requires c =
    subst (λ (l : List ℕ). length l < 2 ^ 32) (sym c.in_ok-bytes.ensures.spelled)
    (subst (λ l. length ((catalog column_count).text (entries_of l)) < 2 ^ 32) (sym c.deref.ensures.value)
    (catalog_short c.args.listing.items c.requires.listable c.requires.few))

pub returns-in-Err-clause-err : goal.returns-in-Err-clause-err
returns-in-Err-clause-err c live layers held filed spell =
    let d = c.args.draft in
    let cat : Filed = record { extent = c.in_ok-catalog.catalog; bytes = c.in_ok-bytes.bytes.items } in
    let placed = with_catalog d c.file.new.self layers cat c.in_ok-catalog.ensures.ok filed c.max_blocks-limit.ensures.placed in
    let low : d.limit < 2 ^ 32 = omega (arith, c.max_blocks-limit.ensures.value, ap (λ (x : Drafted). x.limit) c.in_ok-catalog.ensures.ok, c.max_blocks-limit.type_inv) in
    let image = image_held c.args.image in
    let es = c.in_ok-catalog.catalog ∷ extents_listed (entries_of c.args.listing.items) in
    let apart : all_apart es ≡ true =
    subst (λ (ls : List Listed). all_apart (c.in_ok-catalog.catalog ∷ extents_listed ls) ≡ true) spell.listed
    (records_apart live d.given d.limit _ layers cat image.layers image.tiles placed.0 held spell.spelled spell.stored.orderly placed.1.planned placed.1.runs) in
    let near : AllNear es =
    subst (λ (ls : List Listed). AllNear (c.in_ok-catalog.catalog ∷ extents_listed ls)) spell.listed
    (records_near live d.given d.limit _ layers cat image.layers image.tiles placed.0 held spell.spelled low placed.1.planned placed.1.runs) in
    inr (c.store_fault_of.ensures ∙ only_memory c.in-Err.fault es image apart c.in-Err.ensures.room.errors (c.in-Err.ensures.room.reads near image))

pub returns-clause-ok : goal.returns-clause-ok
returns-clause-ok c x layers root there room apart filed spell =
    let d = c.args.draft in
    let ws = c.in_ok-writes.writes.items in
    let image = image_held c.args.image in
    let parts = c.into_table-number.ensures in
    let cat : Filed = record { extent = c.in_ok-catalog.catalog; bytes = c.in_ok-bytes.bytes.items } in
    let placed = with_catalog d c.file.new.self layers cat c.in_ok-catalog.ensures.ok filed c.max_blocks-limit.ensures.placed in
    let writes = written_with d c.file.new.self layers cat ws c.in_ok-catalog.ensures.ok filed c.in_ok-writes.ensures in
    let listing = entries_of c.args.listing.items in
    let next : Next =
    record {
      root = record {
        is_old = false;
        sequence = c.args.root.sequence + 1;
        version = c.into_table-number.result.0;
        catalog = c.in_ok-catalog.catalog;
      };
      live = c.in-Ok.live;
      plan = c.push.new.self;
    } in
    let b : Write = record { at = c.args.body; bytes = c.in_ok-from_slice.field-0 } in
    let low : d.limit < 2 ^ 32 = omega (arith, c.max_blocks-limit.ensures.value, ap (λ (x : Drafted). x.limit) c.in_ok-catalog.ensures.ok, c.max_blocks-limit.type_inv) in
    completes x d.given d.limit layers image listing cat b ws placed.0 next room apart low placed.1 writes spell (record {
      read = c.in_ok-bytes.ensures.reads_back ∙ ap (λ l. Some (entries_of l)) c.deref.ensures.value;
      after = ap (λ (r : Root). r.sequence + 1) (sym root);
      below = subst (λ (r : Root). r.sequence < sequence_max) (sym root) c.requires.below;
      version = λ i. (parts i).0;
      catalog_is = refl;
      low = omega (arith, c.in_ok-catalog.ensures.within.0);
      small = c.in_ok-catalog.ensures.within.1;
      there = there ∙ ap (λ (r : Root). body_at (other r)) (sym root);
      spelled = c.in_ok-from_slice.ensures.items ∙ c.write_body.ensures.spelled;
      content = c.in-Ok.ensures.content ∙ (λ i. read_content listing (parts i).1.value);
      taken = c.in-Ok.ensures.room.taken;
      plan = c.in_ok-push.ensures.items;
    })

pub returns-clause-laid : goal.returns-clause-laid
returns-clause-laid c live layers filed spell =
    let d = c.args.draft in
    let ws = c.in_ok-writes.writes.items in
    let cat : Filed = record { extent = c.in_ok-catalog.catalog; bytes = c.in_ok-bytes.bytes.items } in
    let placed = with_catalog d c.file.new.self layers cat c.in_ok-catalog.ensures.ok filed c.max_blocks-limit.ensures.placed in
    let writes = written_with d c.file.new.self layers cat ws c.in_ok-catalog.ensures.ok filed c.in_ok-writes.ensures in
    let root : Root = record {
      is_old = false;
      sequence = c.args.root.sequence + 1;
      version = c.into_table-number.result.0;
      catalog = c.in_ok-catalog.catalog;
    } in
    let b : Write = record { at = c.args.body; bytes = c.in_ok-from_slice.field-0 } in
    let listing = entries_of c.args.listing.items in
    let sizes = sizes_in d ++ length ((catalog column_count).text listing) ∷ [] in
    let spelled = c.in_ok-bytes.ensures.spelled ∙ ap (λ l. (catalog column_count).text (entries_of l)) c.deref.ensures.value in
    let all : lengths_of (flat_map filed_of layers ++ cat ∷ []) ≡ sizes =
    lengths_with (flat_map filed_of layers) (cat ∷ []) ∙ (λ i. lengths_of (sym filed i) ++ length (spelled i) ∷ []) in
    laid_out live d.given d.limit layers (image_held c.args.image) sizes listing cat b c.args.body ws placed.0 root c.push.new.self.items placed.1
    (subst (λ (l : List ℕ). IsPlanned d.given d.limit l placed.0) all placed.1.planned) writes spell refl
    (c.in_ok-bytes.ensures.reads_back ∙ ap (λ l. Some (entries_of l)) c.deref.ensures.value) refl refl
    (c.in_ok-from_slice.ensures.items ∙ c.write_body.ensures.spelled) c.in_ok-push.ensures.items

pub returns-clause-calls : goal.returns-clause-calls
returns-clause-calls c =
    let d = c.args.draft in
    let cat : Filed = record { extent = c.in_ok-catalog.catalog; bytes = c.in_ok-bytes.bytes.items } in
    let b : Write = record { at = c.args.body; bytes = c.in_ok-from_slice.field-0 } in
    let ws = c.in_ok-writes.writes.items in
    let more : length c.file.new.self.filed ≡ length d.filed + 1 = ap (λ (x : Drafted). length x.filed) c.in_ok-catalog.ensures.ok ∙ length-append d.filed (cat ∷ []) in
    omega (arith, ap length c.in_ok-push.ensures.items, length-append ws (b ∷ []), writes_count c.file.new.self.filed ws c.in_ok-writes.ensures, more)
