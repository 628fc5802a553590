-- Where the writes of a commit end.
use Rattle.std.proofs.Common.{◌≡◌, ℕ, ◌+◌, ◌*◌, ◌≤◌, List, [], ◌∷◌, ◌++◌, length, flat_map, sym, ◌∙◌, ap, subst, arith}
use Rattle.std.specs.List.{AllByRecursion}
use Rattle.disk_model.specs.declared.disk.Disk.{Ghosts}
use Rattle.extent_map.specs.declared.extent.Extent as runs
use Rattle.extent_map.specs.FirstFit.{IsPlanned}
use Rattle.store_terms.specs.Places.{blocks}
use Rattle.commit_plan.specs.declared.write.Write.{Write}
use Rattle.commit_plan.specs.Filed.{Filed, lengths_of, extents_of_filed, filed_of, AreWritesOf}
use Rattle.root_reading.specs.RootRuns.{AreRunsOf}
use Rattle.root_store.specs.Beginning.{EndsBelow, LaidIsBelow}

-- a record in whole blocks
ends : (at size block own need limit : ℕ) → at ≡ 4096 * block → size ≡ 4096 * own → own ≡ need
    → block + need ≤ limit → at + size ≤ 4096 * limit
ends at size block own need limit there long same below = omega (arith, there, long, same, below)

-- records in runs of first fit
records_below : (fs : List Filed) (ws : List Write) (places given : List runs.Extent) (limit : ℕ)
    → IsPlanned given limit (lengths_of fs) places → AreRunsOf (extents_of_filed fs) places → AreWritesOf fs ws
    → AllByRecursion (EndsBelow limit) ws
records_below [] [] places given limit planned runs writes = tt
records_below [] (w ∷ ws) places given limit planned runs writes = absurd writes
records_below (f ∷ fs) [] places given limit planned runs writes = tt
records_below (f ∷ fs) (w ∷ ws) [] given limit planned runs writes = absurd planned
records_below (f ∷ fs) (w ∷ ws) (r ∷ rs) given limit (long, fit, planned) (there, size, runs) (write, writes) = (
  ends w.at (length w.bytes.items) r.block r.blocks (blocks (length f.bytes)) limit
      (write.there ∙ ap (λ (n : ℕ). 4096 * n) (sym there)) (write.blocks ∙ ap (λ (n : ℕ). 4096 * n) (sym size)) long
      fit.below,
  records_below fs ws rs (r ∷ given) limit planned runs writes,
)

-- there is a third block where a record finds a run
third_block : (fs : List Filed) (f : Filed) (places given : List runs.Extent) (limit : ℕ)
    → IsPlanned given limit (lengths_of (fs ++ f ∷ [])) places → 3 ≤ limit
third_block [] f [] given limit planned = absurd planned
third_block [] f (r ∷ rs) given limit (long, fit, planned) = omega (arith, fit.behind, fit.below)
third_block (g ∷ fs) f [] given limit planned = absurd planned
third_block (g ∷ fs) f (r ∷ rs) given limit (long, fit, planned) = omega (arith, fit.behind, fit.below)

all_push : (P : Write → Type 0) (ws : List Write) (w : Write) → AllByRecursion P ws → P w
    → AllByRecursion P (ws ++ w ∷ [])
all_push P [] w all last = (last, tt)
all_push P (v ∷ ws) w (first, all) last = (first, all_push P ws w all last)

pub laid_is_below : {D : Type 0} (g : Ghosts D) → LaidIsBelow g
laid_is_below g limit old new held keeps laid =
    let most = old.live.room.max_blocks in
    let records = flat_map filed_of laid.layers in
    let three : 3 ≤ most = third_block records laid.catalog laid.places _ most laid.planned in
    let long : length laid.last.bytes.items ≡ 48 = ap (length {A = ℕ}) laid.spells in
    let body : EndsBelow most laid.last = omega (arith, laid.there, long, three) in
    let all = all_push (EndsBelow most) laid.records laid.last
    (records_below (records ++ laid.catalog ∷ []) laid.records laid.places _ most laid.planned laid.runs laid.writes) body in
    subst (λ (n : ℕ). AllByRecursion (EndsBelow n) new.plan.items) (sym old.live.room.limit ∙ keeps.0)
    (subst (λ (ws : List Write). AllByRecursion (EndsBelow most) ws) (sym laid.order) all)
