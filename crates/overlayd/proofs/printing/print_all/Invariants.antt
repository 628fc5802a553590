use Rattle.std.proofs.Common.{map, take}
use Rattle.std.specs.Io.KnownBytes.{Appends}
use Rattle.overlayd.specs.Printing.{texts_from, replies_of}
use Rattle.overlayd.proofs.printing.print_all.Given as goal

-- the sessions so far have been printed
abbrev pub invariant-loop-i : goal.invariant-loop-i
invariant-loop-i g l = Appends (g.W.Write.contents l.initial.output) (g.W.Write.contents l.output) (texts_from l.several 1 (map replies_of (take l.i l.sessions)))
