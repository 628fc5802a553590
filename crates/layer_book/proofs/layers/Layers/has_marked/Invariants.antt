use Rattle.std.proofs.Common.{◌≡◌, ◌≤◌, map}
use Rattle.std.specs.Cmp.Lexicographic.{pointwise}
use Rattle.overlay_terms.specs.SameInput.{same_marked}
use Rattle.arrange.specs.Marked.{kept_in, marked_of}
use Rattle.layer_book.specs.Question.{marked_layers}
use Rattle.layer_book.specs.Touching.{marked_in}
use Rattle.layer_book.proofs.MarkedLayers.{rings_of}
use Rattle.layer_book.proofs.SameMarks.{marked_from}
use Rattle.layer_book.proofs.HavingLemmas.{from_index, left_in}
use Rattle.layer_book.proofs.layers.Layers.has_marked.Given as goal

-- both are the same where what is left of them is
abbrev pub invariant-loop-i : goal.invariant-loop-i
invariant-loop-i l = record {
  few : l.number ≤ l.i;
  told : pointwise same_marked (kept_in l.column (map marked_of l.marked)) (marked_in l.column (rings_of (marked_layers l.wanted l.self)))
      ≡ pointwise same_marked (left_in l.column l.marked l.next) (marked_from l.column l.number (rings_of (from_index l.wanted l.self l.i)));
}
