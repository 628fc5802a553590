use Rattle.std.proofs.Common.{take}
use Rattle.extent_map.specs.Extents.{AreApart, AreAlike, Ascend}
use Rattle.extent_map.proofs.extents.Extents.of.Given as goal

abbrev pub invariant-loop-extent : goal.invariant-loop-extent
invariant-loop-extent l = record {
  ascending : Ascend l.taken.items;
  apart : AreApart (take l.extent-index l.extents);
  alike : AreAlike (take l.extent-index l.extents) l.taken.items;
}
