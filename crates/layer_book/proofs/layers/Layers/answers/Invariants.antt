use Rattle.std.proofs.Common.{◌≡◌, length, take}
use Rattle.exact_point.specs.Place.{place}
use Rattle.layer_book.specs.Question.{IsInside, IsEdge, answers, labelled, wanted_layers}
use Rattle.layer_book.proofs.layers.Layers.answers.Given as goal

-- the answers of the layers so far
abbrev pub invariant-loop-i : goal.invariant-loop-i
invariant-loop-i l = record {
  inside_room : length l.inside ≡ 32;
  edge_room : length l.edge ≡ 32;
  inside : answers IsInside (take l.i (wanted_layers l.wanted l.self)) (place l.point) ≡ labelled l.self (take l.i l.inside);
  edge : answers IsEdge (take l.i (wanted_layers l.wanted l.self)) (place l.point) ≡ labelled l.self (take l.i l.edge);
}
