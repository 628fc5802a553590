use denote.Param.Send.{sendable}
use Rattle.book_lock.proofs.SentLog.{session_send}
use Rattle.version_book.proofs.sending.session_goes.Goals as goal

pub goes-requires-send-T : goal.goes-requires-send-T
goes-requires-send-T c κs = search (sendable, session_send)
