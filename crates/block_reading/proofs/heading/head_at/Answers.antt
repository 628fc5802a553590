use Rattle.std.proofs.Common.{ℕ, List, Ok, ap, sym, ◌∙◌}
use Rattle.std.proofs.lemmas.Result.{err_from_is_err_and}
use Rattle.block_reading.proofs.HeadLemmas.{head_is, head_fails}
use Rattle.block_reading.proofs.heading.head_at.Goals as goal

pub returns-in_err-head : goal.returns-in_err-head
returns-in_err-head c =
    let p = err_from_is_err_and c.from_residual.result c.from_residual.ensures.1 in
    rw (p.1, p.2) (head_fails c.args.bytes.now c.in_err-head.field-0.0 c.if-bytes-lt56.false c.in_err-head.ensures)

pub returns : goal.returns
returns c =
    head_is c.args.bytes.now (Ok c.in_ok-head.head) c.if-bytes-lt56.false c.in_ok-head.ensures
    ∙ ap (λ (rest : List ℕ). Ok (c.in_ok-head.head, rest)) (sym c.after_head.ensures)
