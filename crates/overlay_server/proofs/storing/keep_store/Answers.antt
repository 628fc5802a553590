use Rattle.std.proofs.Common.{subst}
use Rattle.overlay_server.specs.Keeping.{HoldsOfStore}
use Rattle.overlay_server.proofs.storing.keep_store.Goals as goal

pub flush-requires-clause-own : goal.flush-requires-clause-own
flush-requires-clause-own g c = (subst (HoldsOfStore g.D.Disk g.J.BookName.store g.J.BookName.stored g.J.BookName.failed) c.in-Kept.is c.requires.stored).2

pub flush-requires-clause-stored : goal.flush-requires-clause-stored
flush-requires-clause-stored g c = (subst (HoldsOfStore g.D.Disk g.J.BookName.store g.J.BookName.stored g.J.BookName.failed) c.in-Kept.is c.requires.stored).0

pub flush-requires-clause-failed : goal.flush-requires-clause-failed
flush-requires-clause-failed g c = (subst (HoldsOfStore g.D.Disk g.J.BookName.store g.J.BookName.stored g.J.BookName.failed) c.in-Kept.is c.requires.stored).1
