use Rattle.std.proofs.Common.{ℕ, List, subst}
use Rattle.extent_map.specs.declared.extent.Extent.{Extent}
use Rattle.extent_map.specs.FirstFit.{NoFit}
use Rattle.extent_map.proofs.extents.Extents.place.Goals as goal

pub returns-in_default-clause-full : goal.returns-in_default-clause-full
returns-in_default-clause-full c u =
    let limit = c.args.self.now.limit in
    let taken = c.args.self.now.taken.items in
    let here = subst (λ (l : List Extent). NoFit l limit c.blocks_of-need.result) c.deref.ensures.value c.in_default.ensures.none in
    subst (λ (m : ℕ). NoFit taken limit m) c.blocks_of-need.ensures here
