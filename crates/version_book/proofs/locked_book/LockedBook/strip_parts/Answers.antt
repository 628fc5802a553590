use Rattle.std.proofs.Common.{ℕ, ◌≤◌, IfOk, sym, subst, ◌∙◌}
use Rattle.crossing_sweep.specs.StripInput.{part}
use Rattle.version_book.specs.Free.{IsFree}
use Rattle.version_book.specs.Jobs.{IsHandedOut}
use Rattle.version_book.proofs.locked_book.LockedBook.strip_parts.Goals as goal

pub strip_parts-requires : goal.strip_parts-requires
strip_parts-requires g c =
    subst (λ v. IsFree v c.args.self.now.state.held.list.items c.args.name.now c.args.first) (sym (c.deref.ensures ∙ c.last.ensures.version)) c.requires

pub returns-clause-each : goal.returns-clause-each
returns-clause-each g c =
    subst (λ v. IfOk c.strip_parts.result (λ r. (k : ℕ) → r.1.strip.first ≤ k → k ≤ r.1.strip.last → IsHandedOut v c.args.self.now.state.held.list.items c.args.name.now (part r.1 k)))
    (c.deref.ensures ∙ c.last.ensures.version) c.strip_parts.ensures.each
