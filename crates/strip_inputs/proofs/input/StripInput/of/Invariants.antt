use Rattle.std.proofs.Common.{map, take}
use Rattle.arrange.specs.Marked.{marked_of}
use Rattle.strip_inputs.proofs.Gathered.{IsMadeOf}
use Rattle.strip_inputs.proofs.input.StripInput.of.Given as goal

-- the first base layers' segments have been added
abbrev pub invariant-loop-layer : goal.invariant-loop-layer
invariant-loop-layer l = IsMadeOf l.strip (map (λ b. b.now) (take l.layer l.bases)) (map marked_of l.marked.items)
