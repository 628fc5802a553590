use Rattle.std.proofs.Common.{take}
use Rattle.extent_map.specs.Extents.{AreAlike, Ascend}
use Rattle.extent_map.specs.FirstFit.{IsPlanned, taken_with}
use Rattle.extent_map.proofs.extents.Extents.plan.Given as goal

abbrev pub invariant-loop-length : goal.invariant-loop-length
invariant-loop-length l = record {
  ascending : Ascend l.taken.items;
  planned : IsPlanned l.self.taken.items l.self.limit (take l.length-index l.lengths) l.runs.items;
  alike : AreAlike (taken_with l.self.taken.items l.runs.items) l.taken.items;
}
