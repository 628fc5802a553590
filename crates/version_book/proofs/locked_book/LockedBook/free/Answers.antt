use Rattle.std.proofs.Common.{IfNone, IfSome, subst, ◌∙◌}
use Rattle.version_book.specs.Free.{AllAreHeld, IsFree}
use Rattle.version_book.proofs.locked_book.LockedBook.free.Goals as goal

pub returns : goal.returns
returns g c =
    let held = c.args.self.now.state.held.list.items in
    let newest = c.deref.ensures ∙ c.last.ensures.version in
    record {
      some = subst (λ v. IfSome c.free.result (λ r. IsFree v held r.0.now r.1)) newest c.free.ensures.some;
      none = subst (λ v. IfNone c.free.result (AllAreHeld v held)) newest c.free.ensures.none;
    }
