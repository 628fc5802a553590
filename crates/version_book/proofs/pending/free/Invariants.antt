use Rattle.std.proofs.Common.{take}
use Rattle.std.specs.Prelude.{IsTrue}
use Rattle.std.specs.List.{All}
use Rattle.overlay_terms.specs.Layers.{Layer}
use Rattle.overlay_terms.specs.Commands.{stands_as_derived}
use Rattle.version_book.specs.Free.{AreHeld}
use Rattle.version_book.proofs.pending.free.Given as goal

-- the tiles of the layers before this one are finished or held
abbrev pub invariant-loop-place : goal.invariant-loop-place
invariant-loop-place l =
    All (λ (layer : Layer). IsTrue (stands_as_derived l.version.layers layer.name) → AreHeld l.version l.held.list.items layer.name) (take l.place l.version.layers)
