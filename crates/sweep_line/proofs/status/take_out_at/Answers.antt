use Rattle.std.proofs.Common.{◌<◌, ◌*ℤ◌, length, sym, ◌∙◌, arith}
use Rattle.std.proofs.lemmas.Bool.Decides.{Decides-int_eq}
use Rattle.exact_point.specs.Place.{place}
use Rattle.sweep_line.specs.declared.status.StatusEntry.{StatusEntry}
use Rattle.sweep_line.proofs.status.take_out_at.Goals as goal

pub returns-then-ends_over-clause-yes : goal.returns-then-ends_over-clause-yes
returns-then-ends_over-clause-yes c =
    let end = place c.args.end.now in
    let e : StatusEntry = c.index.result.now in
    let inside : c.partition_point-place.result < length c.args.entries.now.items = omega arith in
    let level = (Decides-int_eq ((place e.to).x *ℤ end.w) (end.x *ℤ (place e.to).w)).0 (sym c.ends_over.ensures ∙ c.if-ends_over.true) in
    λ h. (c.partition_point-place.result, e, inside, sym c.index.ensures, level, c.remove.ensures.items)
