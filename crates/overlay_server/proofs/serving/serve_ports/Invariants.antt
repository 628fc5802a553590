-- The book is named by the history that was just opened, its store is what it was opened with, what is stored of it is
-- what its store holds, it failed for what its store does, what its sessions are asked for is what the ports' scripts
-- ask for, and it has a session a port.
use Rattle.std.proofs.Common.{length}
use Rattle.session_threads.specs.Fuse.{until_end}
use Rattle.kept_store.specs.Beginning.{name_in}
use Rattle.overlay_server.specs.Asking.{IsAskedAt}
use Rattle.overlay_server.specs.Given.{given_to}
use Rattle.overlay_server.specs.Serving.{IsFailedOf, IsStoredOf}
use Rattle.overlay_server.proofs.serving.serve_ports.Given as goal

abbrev pub ghosts-serve_in : goal.ghosts-serve_in
ghosts-serve_in g a = record { book = a.opened.1.book; store = name_in a.store.flusher; stored = IsStoredOf g.D.Disk a.version a.store.flusher; failed = IsFailedOf g.D.Disk a.version a.store.flusher; asked = IsAskedAt (given_to (until_end g.R.Read.remaining) g.W.ReplyWriter.contents a.ports.items); seats = length a.ports.items }
