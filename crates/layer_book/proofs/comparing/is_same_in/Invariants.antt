use Rattle.std.proofs.Common.{◌≡◌, ◌≤◌, filter, drop, length}
use Rattle.std.specs.Cmp.Lexicographic.{pointwise}
use Rattle.overlay_terms.specs.Column.{touches}
use Rattle.overlay_terms.specs.SameInput.{same_segment}
use Rattle.layer_book.proofs.comparing.is_same_in.Given as goal

-- both are the same where what is left of them is
abbrev pub invariant-loop-seg : goal.invariant-loop-seg
invariant-loop-seg l = record {
  within : l.next ≤ length l.old;
  told : pointwise same_segment (filter (touches l.column) l.new) (filter (touches l.column) l.old) ≡ pointwise same_segment (filter (touches l.column) (drop l.seg-index l.new)) (filter (touches l.column) (drop l.next l.old));
}
