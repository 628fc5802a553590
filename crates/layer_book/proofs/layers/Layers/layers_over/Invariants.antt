use Rattle.std.proofs.Common.{◌≡◌, length, take}
use Rattle.layer_book.specs.Question.{labelled}
use Rattle.layer_book.proofs.ReachingLemmas.{reaching}
use Rattle.layer_book.proofs.layers.Layers.layers_over.Given as goal

-- what the layers so far say
abbrev pub invariant-loop-i : goal.invariant-loop-i
invariant-loop-i l = record {
  room : length l.over ≡ 32;
  told : reaching l.name (take l.i l.self) ≡ labelled l.self (take l.i l.over);
}
