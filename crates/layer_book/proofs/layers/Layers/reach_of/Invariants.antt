use Rattle.std.proofs.Common.{◌≡◌, true, length}
use Rattle.overlay_terms.specs.Layers.{Name}
use Rattle.layer_book.specs.Question.{is_wanted, StandsAt}
use Rattle.layer_book.proofs.Closing.{IsClosedFrom}
use Rattle.layer_book.proofs.MarkedReach.{AreReached}
use Rattle.layer_book.proofs.layers.Layers.reach_of.Given as goal

-- the asked layer is marked, what marked layers after it name is, and nothing that is not reached
abbrev pub invariant-loop-i : goal.invariant-loop-i
invariant-loop-i l = record {
  room : length l.wanted ≡ 32;
  asked : (name : Name) → StandsAt l.self l.index name → is_wanted l.self l.wanted name ≡ true;
  closed : IsClosedFrom l.self l.wanted l.i;
  reached : (name : Name) → StandsAt l.self l.index name → AreReached l.self name l.wanted;
}
