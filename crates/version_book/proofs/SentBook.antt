-- What lies under the lock may go from thread to thread, and the book may be called from many.
use denote.RattleType.{RattleType}
use denote.Param.Send.{IsSend, IsSync, recorded_send, recorded_sync, struct_send, struct_sync, sendable}
use denote.Struct.Declared.{shape}
use denote.Struct.Struct.{Struct}
use Rattle.std.proofs.Crossing.{crosses}
use Rattle.book_history.specs.declared.seen_log.BookName as book_name
use Rattle.version_book.proofs.book_state.BookState.TheSendSync as state
use Rattle.book_lock.proofs.SentLog.{log_send, room_send}
use Rattle.version_book.specs.contracts.shared.Shared as shared
use Rattle.version_book.specs.contracts.locked_book.LockedBook as locked
use Rattle.version_book.specs.contracts.turns.Turns as turns

locked_send : (J R : RattleType) (g : book_name.Ghosts J.Denot) → IsSend J → IsSend R → IsSend (locked.the_row J R g)
locked_send J R g j s =
    let O = locked.the_type J R g in
    recorded_send _ _ _ O.to_one (struct_send (shape O) (log_send J R g j s, (state.the_field_send, (search (sendable, crosses), (room_send, tt)))))

turns_sync : (J R : RattleType) (g : book_name.Ghosts J.Denot) → IsSend J → IsSend R → IsSync (Struct (shape (turns.the_type J R g)))
turns_sync J R g j s = let h = locked_send J R g j s in search (sendable, crosses) depth 20

pub shared_sync : (J R : RattleType) (g : book_name.Ghosts J.Denot) → IsSend J → IsSend R → IsSync (shared.the_row J R g)
shared_sync J R g j s =
    let O = shared.the_type J R g in
    recorded_sync _ _ _ O.to_one (struct_sync (shape O) (turns_sync J R g j s, (search (sendable, crosses), tt)))
