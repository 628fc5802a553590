use Rattle.std.proofs.Common.{◌≡◌, ◌∷◌, drop}
use Rattle.map_window.specs.Drawn.{are_short}
use Rattle.map_window.proofs.fitting.are_short.Given as goal

-- the steps are short where those that are left are
abbrev pub invariant-loop-p : goal.invariant-loop-p
invariant-loop-p l = are_short l.core l.frame l.points ≡ are_short l.core l.frame (l.last ∷ drop l.p-index l.rest)
