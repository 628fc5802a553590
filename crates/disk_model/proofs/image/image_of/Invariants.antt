use Rattle.std.proofs.Common.{take}
use Rattle.disk_model.specs.Replay.{start, replay}
use Rattle.disk_model.specs.Played.{Plays}
use Rattle.disk_model.proofs.image.image_of.Given as goal

abbrev pub invariant-loop-call : goal.invariant-loop-call
invariant-loop-call l = Plays (replay (start l.first) (take l.call-index l.calls)) l.byte l.faces
