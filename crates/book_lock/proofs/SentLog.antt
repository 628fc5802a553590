-- A session, the reporter, and the log under the lock, may go from thread to thread.
use denote.RattleType.{RattleType}
use denote.Param.Send.{IsSend, SendAt, recorded_send_of, recorded_send_at, struct_send, struct_send_at, view_send, sendable}
use denote.Array.{Array}
use denote.Plain.{UInt}
use denote.Struct.Struct.{Struct}
use denote.Struct.Declared.{shape}
use mir.Syntax.{w64}
use Rattle.book_lock.specs.contracts.locked_log.LockedLog as log
use Rattle.book_lock.specs.contracts.locked_log.LockedLog.TheInside as inside
use Rattle.book_history.specs.declared.seen_log.BookName as book_name
use Rattle.book_lock.specs.contracts.reporter.Reporter as reporter
use Rattle.book_lock.specs.contracts.room.Room as room
use Rattle.book_lock.specs.contracts.session.Session as session
use Rattle.book_history.proofs.seen_log.SeenLog.TheSendSync as seen_logs
use Rattle.book_lock.proofs.reporter.Reporter.TheSendSync as reporters
use Rattle.std.proofs.Crossing.{crosses}
use Rattle.std.specs.contracts.alloc.Global as global
use Rattle.std.specs.contracts.impls.GlobalAllocator.TheImpl as heap
use Rattle.book_history.specs.contracts.published.PublishedAbsorb.TheImpl as absorb
use Rattle.book_history.specs.contracts.published.Published as published
use Rattle.book_history.specs.contracts.published.OnlyGrows as only_grows
use Rattle.book_history.specs.contracts.published.OnlyGrowsProtocolPublishedSeenLog.TheImpl as rule
use Rattle.book_history.specs.contracts.seen_log.SeenLog as seen_log
use Rattle.left_right.specs.contracts.writer.Writer as writer
use Rattle.book_history.proofs.Sent.{place_send, publisher_send, version_send, version_sync, word_send}

pub room_send : IsSend (room.the_field).row
room_send = struct_send (shape room.the_type) (search (sendable, crosses, version_send, version_sync) depth 20, tt)

pub reporter_send : IsSend reporter.the_row
reporter_send = reporters.the_send

pub session_send : IsSend session.the_row
session_send = search (sendable, crosses, seen_logs.the_send, place_send) depth 20

at : (R : RattleType) → IsSend R → (x : R.Denot) → SendAt R x
at R s x = (s.owned x, λ k. s.leaving k x)

module _ (J R : RattleType) (g : book_name.Ghosts J.Denot) where
  inner_send : IsSend J → IsSend R → IsSend (inside.the_row J R g)
  inner_send j s =
      let O = inside.the_type J R g in
      let W = writer.the_type published.the_row published.the_row seen_log.the_row only_grows.the_row global.the_row seen_log.the_row absorb.ghosts rule.ghosts heap.ghosts in
      recorded_send_of (Struct (shape O)) _ _ O.to_one (λ d. struct_send_at (shape O) (O.to d) (at _ (word_send J) _, (recorded_send_at (Struct (shape W)) _ W.to W.to_one publisher_send d.publisher, (at (Array (UInt w64) 4) (search sendable) _, (at R s _, tt)))))

  pub log_send : IsSend J → IsSend R → IsSend (log.the_row J R g)
  log_send j s = view_send _ _ _ _ _ (inner_send j s)
