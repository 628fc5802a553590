use Rattle.std.proofs.Common.{◌≡◌, ℕ, List, [], ◌∷◌, ◌++◌, length, refl, sym, ◌∙◌, ap, subst, rules}
use Rattle.extent_map.specs.Blocks.{blocks}
use Rattle.extent_map.specs.FirstFit.{NoFit}
use Rattle.extent_map.specs.Taken.{taken_of}
use Rattle.commit_plan.specs.declared.fault.StoreFault.TheVariants.{Full}
use Rattle.commit_plan.specs.Filed.{Filed}
use Rattle.commit_plan.specs.Drafted.{Drafted, HasNoRunFor, IsDraft}
use Rattle.commit_plan.proofs.Drafts.{draft_more, no_run, passed_error}
use Rattle.commit_plan.proofs.draft.Draft.file.Goals as goal

pub returns-in_err-run-clause-full : goal.returns-in_err-run-clause-full
returns-in_err-run-clause-full c u =
    let d = c.self.inside in
    let size : c.len-size.result ≡ length c.args.bytes.items = search rules in
    let none = subst (λ (n : ℕ). NoFit (taken_of d.room.map) d.room.max_blocks (blocks n)) size
    (c.in_err-run.ensures.full (passed_error _ c.from_residual-in_err-run.result c.in_err-run.field-0.0 Full c.from_residual-in_err-run.ensures.1 u)) in
    subst (λ (x : Drafted). HasNoRunFor x (length c.args.bytes.items ∷ [])) c.self.view_is
    (no_run d.live.now d.room d.records.items (length c.args.bytes.items) c.self.invariant none)

pub invariant_of-self-2 : goal.invariant_of-self-2
invariant_of-self-2 c =
    let d = c.self.inside in
    let run = c.in_ok-run.run' in
    let size : c.len-size.result ≡ length c.args.bytes.items = search rules in
    let f : Filed = record { extent = record { block = run.block; size = c.len-size.result }; bytes = c.args.bytes.items } in
    subst (IsDraft d.live.now c.place.new.self) (sym (c.push_reserved.ensures.items ∙ ap (λ (l : List Filed). l ++ f ∷ []) c.reserve.ensures.items))
    (draft_more d.live.now d.room c.place.new.self d.records.items f run c.self.invariant c.place.ensures.limit size refl c.in_ok-run.ensures.size c.in_ok-run.ensures.fit c.in_ok-run.ensures.taken)
