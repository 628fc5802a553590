use Rattle.std.proofs.Common.{◌≡◌, ◌++◌, ◌≤◌, length}
use Rattle.std.specs.Vec.{vec_len, vec_capacity}
use Rattle.std.specs.Vec.Iter.{into_iter_items, into_iter_len}
use Rattle.session_threads.specs.Fuse.{until_end}
use Rattle.overlay_server.specs.Given.{bytes_of, given_by, given_to}
use Rattle.overlay_server.proofs.listening.listened.Given as goal

-- each reader so far has its port, and there is room for those of the others
abbrev pub invariant-loop-reader : goal.invariant-loop-reader
invariant-loop-reader g l = record {
  all : l.yielded ++ into_iter_items l.reader-iterator ≡ into_iter_items l.initial.reader-iterator;
  left : into_iter_len l.reader-iterator ≡ length (into_iter_items l.reader-iterator);
  grown : vec_len l.ports ≡ length l.yielded;
  room : length (into_iter_items l.initial.reader-iterator) ≤ vec_capacity l.ports;
  given : given_to (until_end g.R.Read.remaining) bytes_of l.ports.items ≡ given_by g.R.Read.remaining l.yielded;
}
