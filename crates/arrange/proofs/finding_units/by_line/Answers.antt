use Rattle.std.proofs.Common.{List, map, subst}
use Rattle.std.specs.List.Sorted.{IsPermutation}
use Rattle.std.proofs.lemmas.List.Sorted.{IsPermutation-map}
use Rattle.overlay_terms.specs.Layers.{Marked}
use Rattle.arrange.specs.Lines.{line_marked}
use Rattle.arrange.proofs.finding_units.by_line.Goals as goal

pub returns-clause-moved : goal.returns-clause-moved
returns-clause-moved c =
    subst (λ (ms : List Marked). IsPermutation ms (map line_marked c.sort_unstable.new.self.items)) c.in_ok-lines.ensures
    (IsPermutation-map line_marked c.in_ok-lines.lines.items c.sort_unstable.new.self.items c.sort_unstable.ensures.permutation)
