use Rattle.std.proofs.Common.{◌≡◌, ◌++◌, ◌≤◌, length, map}
use Rattle.std.specs.Vec.{vec_len, vec_capacity}
use Rattle.std.specs.Vec.Iter.{into_iter_items, into_iter_len}
use Rattle.session_threads.specs.Seats.{port_of, session_of}
use Rattle.session_threads.proofs.seating.seat_all.Given as goal

-- each session so far has its reader, there are as many readers as sessions left, and room for their scripts
abbrev pub invariant-loop-session : goal.invariant-loop-session
invariant-loop-session g l = record {
  all : l.yielded ++ into_iter_items l.session-iterator ≡ into_iter_items l.initial.session-iterator;
  left : into_iter_len l.session-iterator ≡ length (into_iter_items l.session-iterator);
  ports_left : into_iter_len l.ports ≡ length (into_iter_items l.ports);
  sessions : map session_of l.scripts.items ≡ l.yielded;
  ports : map port_of l.scripts.items ++ into_iter_items l.ports ≡ into_iter_items l.initial.ports;
  as_many : length (into_iter_items l.ports) ≡ length (into_iter_items l.session-iterator);
  grown : vec_len l.scripts ≡ length l.yielded;
  room : length (into_iter_items l.initial.session-iterator) ≤ vec_capacity l.scripts;
}
