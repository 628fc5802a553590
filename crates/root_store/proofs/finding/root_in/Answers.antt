use Rattle.std.proofs.Common.{sym, ◌∙◌}
use Rattle.std.proofs.lemmas.Bool.{or_left, or_right, or_from}
use Rattle.std.proofs.lemmas.Result.{err_from_is_err_and}
use Rattle.store_terms.specs.StandsFor.{is_foreign}
use Rattle.root_store.proofs.FindingLemmas.{foreign_root, first_err, second_err, both_ok}
use Rattle.root_store.proofs.finding.root_in.Goals as goal
use Rattle.root_store.proofs.finding.root_in.Goals.{then-is_foreign-via-then-is_foreign, then-is_foreign-via-else-is_foreign+then-is_foreign-2}

pub returns-then-is_foreign-clause-gives : goal.returns-then-is_foreign-clause-gives
returns-then-is_foreign-clause-gives c file long first second =
    sym (foreign_root file long (elim c.then-is_foreign.branch [
      | then-is_foreign-via-then-is_foreign w ↦ or_left (is_foreign file 0) (is_foreign file 1)
          (sym (c.is_foreign.ensures file 0 first) ∙ w.if-is_foreign.true)
      | then-is_foreign-via-else-is_foreign+then-is_foreign-2 w ↦ or_right (is_foreign file 0) (is_foreign file 1)
          (sym (w.is_foreign-else-is_foreign.ensures file 1 second) ∙ w.if-is_foreign-2.true)
    ]))

pub returns-in_err-older-clause-gives : goal.returns-in_err-older-clause-gives
returns-in_err-older-clause-gives c file long first second =
    let p = err_from_is_err_and c.from_residual.result c.from_residual.ensures.1 in
    let ours = or_from (is_foreign file 0) (is_foreign file 1)
    (sym (c.is_foreign.ensures file 0 first) ∙ c.if-is_foreign.false)
    (sym (c.is_foreign-else-is_foreign.ensures file 1 second) ∙ c.if-is_foreign-2.false) in
    rw (p.1, p.2)
    (sym (first_err file long ours c.in_err-older.field-0.0 (sym (c.in_err-older.ensures.gives file first))))

pub returns-in_err-other-clause-gives : goal.returns-in_err-other-clause-gives
returns-in_err-other-clause-gives c file long first second =
    let p = err_from_is_err_and c.from_residual-in_err-other.result c.from_residual-in_err-other.ensures.1 in
    let ours = or_from (is_foreign file 0) (is_foreign file 1)
    (sym (c.is_foreign.ensures file 0 first) ∙ c.if-is_foreign.false)
    (sym (c.is_foreign-else-is_foreign.ensures file 1 second) ∙ c.if-is_foreign-2.false) in
    rw (p.1, p.2)
    (sym (second_err file long ours c.in_ok-older.older c.in_err-other.field-0.0
    (sym (c.in_ok-older.ensures.gives file first)) (sym (c.in_err-other.ensures.gives file second))))

pub returns-clause-gives : goal.returns-clause-gives
returns-clause-gives c file long first second =
    let ours = or_from (is_foreign file 0) (is_foreign file 1)
    (sym (c.is_foreign.ensures file 0 first) ∙ c.if-is_foreign.false)
    (sym (c.is_foreign-else-is_foreign.ensures file 1 second) ∙ c.if-is_foreign-2.false) in
    c.newer.ensures.gives
    ∙ sym (both_ok file long ours c.in_ok-older.older c.in_ok-other.other
    (sym (c.in_ok-older.ensures.gives file first)) (sym (c.in_ok-other.ensures.gives file second)))
