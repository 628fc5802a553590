use Rattle.std.proofs.Common.{◌≡◌, List, [], ◌∷◌, ◌++◌, sym, ◌∙◌, ap, subst, append_assoc, rules}
use Rattle.std.specs.Vec.Iter.{into_iter_items}
use Rattle.commit_plan.specs.declared.write.Write.{Write}
use Rattle.commit_plan.specs.Filed.{Filed, AreWritesOf}
use Rattle.commit_plan.proofs.Drafts.{writes_more}
use Rattle.commit_plan.proofs.draft.Draft.into_writes.Goals as goal

pub loop-filed-preserved : goal.loop-filed-preserved
loop-filed-preserved c =
    let at = c.loop-filed in
    let one = c.in-Some.filed in
    let first : into_iter_items at.filed-iterator ≡ one ∷ into_iter_items c.next.new.self = c.in-Some.ensures.steps.0 in
    record {
      all = append_assoc at.yielded (one ∷ []) (into_iter_items c.next.new.self) ∙ ap (λ (l : List Filed). at.yielded ++ l) (sym first) ∙ at.invariant.all;
      left = search rules;
      writes = subst (AreWritesOf (at.yielded ++ one ∷ [])) (sym {A = List Write} c.in_ok-push.ensures.items)
          (writes_more at.yielded at.writes.items one c.in_ok-into_write.field-0 at.invariant.writes c.in_ok-into_write.ensures);
    }
