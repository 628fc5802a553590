use denote.Param.Send.{sendable}
use Rattle.version_book.proofs.SentBook.{shared_sync}
use Rattle.version_book.proofs.sending.book_lends.Goals as goal

pub lends-requires-sync-T : goal.lends-requires-sync-T
lends-requires-sync-T g c κs = search (sendable, shared_sync) depth 20
