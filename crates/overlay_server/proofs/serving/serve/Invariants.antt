-- The book is named by the history that was just opened, its store is what it was opened with, what is stored of it is
-- what its store holds, it failed for what its store does, what its sessions are asked for is what the readers' scripts
-- ask for, and it has a session a reader.
use Rattle.std.proofs.Common.{length}
use Rattle.kept_store.specs.Beginning.{name_in}
use Rattle.overlay_server.specs.Asking.{IsAskedAt}
use Rattle.overlay_server.specs.Given.{given_by}
use Rattle.overlay_server.specs.Serving.{IsFailedOf, IsStoredOf}
use Rattle.overlay_server.proofs.serving.serve.Given as goal

abbrev pub ghosts-listen_in : goal.ghosts-listen_in
ghosts-listen_in g a = record { book = a.opened.1.book; store = name_in a.store.flusher; stored = IsStoredOf g.D.Disk a.version a.store.flusher; failed = IsFailedOf g.D.Disk a.version a.store.flusher; asked = IsAskedAt (given_by g.R.Read.remaining a.readers.items); seats = length a.readers.items }
