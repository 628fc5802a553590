use Rattle.std.proofs.Common.{◌≡◌, ◌-◌, ◌<◌, List, Some, length, ap, sym, ◌∙◌, arith}
use Rattle.std.specs.List.{slice_get}
use Rattle.std.specs.Option.{option_copied}
use Rattle.std.proofs.lemmas.Option.{slice_get_within, get_or_from_slice_get}
use Rattle.crossing_sweep.specs.declared.member.Member.{Member}
use Rattle.crossing_sweep.proofs.Labels.{last_over}
use Rattle.crossing_sweep.proofs.row.mask_over.Goals as goal

pub returns-in-Some : goal.returns-in-Some
returns-in-Some c =
    let ms : List Member = c.args.members.now in
    let m : Member = c.in-Some.member.now in
    let last : slice_get ms (length ms - 1) ≡ Some m = sym c.last.ensures.value ∙ ap option_copied c.in-Some.is in
    let inside : length ms - 1 < length ms = slice_get_within ms (length ms - 1) m last in
    sym (last_over 0 ms (length ms - 1) m (omega (arith, inside)) ∙ ap (λ (x : Member). x.over) (get_or_from_slice_get ms (length ms - 1) m m last))
