use Rattle.std.proofs.Common.{length, map, take}
use Rattle.exact_point.specs.NamedPiece.{ends_of}
use Rattle.version_core.proofs.EdgeLemmas.{IsBegun}
use Rattle.version_core.proofs.edges_reply.written.Given as goal

-- the lines so far, after the count of all
abbrev pub invariant-loop-piece : goal.invariant-loop-piece
invariant-loop-piece l = IsBegun (length l.pieces) (take l.piece-index (map ends_of l.pieces)) l.text.items
