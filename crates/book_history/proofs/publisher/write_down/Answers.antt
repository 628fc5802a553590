use Rattle.std.proofs.Common.{ap, refl, ◌∙◌, ◌++◌, ◌∷◌, []}
use Rattle.std.proofs.lemmas.Bool.{false≢true}
use Rattle.book_history.proofs.publisher.write_down.Goals as goal

pub write-init : goal.write-init
write-init g c = (refl, c.requires, refl)

pub returns-in-Ok : goal.returns-in-Ok
returns-in-Ok g c =
    let was = c.write.invariant in
    let now = c.in-Ok.ensures in
    record { shown = now.desk ∙ was.0; pending = now.pending ∙ ap (λ l. l ++ c.write.next ∷ []) was.1 ∙ ap (λ n. n ∷ []) was.2 }

pub write-preserved : goal.write-preserved
write-preserved g c =
    let was = c.write.invariant in
    let now = c.in-Err.ensures in
    (now.desk ∙ was.0, now.pending.1 ∙ was.1, now.pending.0 ∙ was.2)

pub unreachable-requires : goal.unreachable-requires
unreachable-requires g c = false≢true c.in-None.ensures.steps
