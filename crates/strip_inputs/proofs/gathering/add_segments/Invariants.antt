use Rattle.std.specs.Prelude.{All}
use Rattle.overlay_terms.specs.TileLaws.{IsProper}
use Rattle.std.proofs.Common.{◌≡◌, ◌++◌, map, take}
use Rattle.arrange.specs.Marked.{marked_of}
use Rattle.arrange.proofs.KeptLemmas.{mark}
use Rattle.strip_inputs.specs.Strips.{kept_in_strip}
use Rattle.strip_inputs.proofs.gathering.add_segments.Given as goal

-- those of the first segments that have a point in the strip have been added
abbrev pub invariant-loop-seg : goal.invariant-loop-seg
invariant-loop-seg l = record {
  marked : map marked_of l.marked.items ≡ map marked_of l.initial.marked.items ++ kept_in_strip l.strip (map (mark l.layer) (take l.seg-index l.seg-items));
  proper : All IsProper (take l.seg-index l.seg-items);
}
