-- What the thread of a session takes with it, and gives back, may go from thread to thread.
use mathlib.Core.List.{[], ◌∷◌}
use mir.Syntax.{Lifetime, Sym}
use base.Fml.{Lft}
use denote.RattleType.{RattleType}
use denote.Ref.{ShrRef}
use denote.Struct.Declared.{shape}
use denote.Struct.Tuple.{TupleAt, type_at}
use denote.Param.Send.{IsSend, IsSync, recorded_send, shr_send, struct_send, sendable}
use Rattle.std.proofs.Crossing.{crosses}
use Rattle.std.specs.contracts.alloc.Global as global
use Rattle.version_book.proofs.Sent.{session_send}
use Rattle.version_book.proofs.SentBook.{shared_sync}
use Rattle.version_book.specs.contracts.shared.Shared as shared
use Rattle.book_history.specs.declared.seen_log.BookName as book_name
use Rattle.session_threads.specs.contracts.running.Script as script
use Rattle.session_threads.specs.contracts.running.Ended as ended
use Rattle.session_threads.specs.contracts.port.Port as port
use Rattle.session_threads.specs.contracts.halt.Halt as halt
use Rattle.session_threads.proofs.halt.Halt.TheSendSync as halts

pub heap_send : IsSend global.the_row
heap_send = search (sendable, crosses)

port_send : (R W : RattleType) → IsSend R → IsSend W → IsSend (port.the_field R W).row
port_send R W r w = struct_send (shape (port.the_type R W)) (r, (search (sendable, crosses), (w, tt)))

pub script_send : (R W : RattleType) → IsSend R → IsSend W → IsSend (script.the_row R W)
script_send R W r w =
    let O = script.the_type R W in
    recorded_send _ _ _ O.to_one (struct_send (shape O) (session_send, (port_send R W r w, tt)))

pub ended_send : (R W : RattleType) → IsSend R → IsSend W → IsSend (ended.the_row R W)
ended_send R W r w =
    let O = ended.the_type R W in
    recorded_send _ _ _ O.to_one (struct_send (shape O) (session_send, (port_send R W r w, (search (sendable, crosses), tt))))

module _ (J S Q : RattleType) (g : book_name.Ghosts J.Denot) (j : IsSend J) (s : IsSend S) (q : IsSync Q) where
  -- a closure that takes the runtime, the allocator, the book and one thing more
  pub taking_send : (T : RattleType) → IsSend T → (ν : Sym) (a b : Lifetime) (a' b' : Lft)
      → IsSend (TupleAt ν (ShrRef a a' Q ∷ global.the_row ∷ ShrRef b b' (shared.the_row J S g) ∷ T ∷ []))
  taking_send T t ν a b a' b' =
      let O = type_at ν (ShrRef a a' Q ∷ global.the_row ∷ ShrRef b b' (shared.the_row J S g) ∷ T ∷ []) in
      let book = shared_sync J S g j s in
      recorded_send _ _ _ O.to_one (struct_send (shape O) (shr_send a a' Q q, (heap_send, (shr_send b b' _ book, (t, tt)))))

  -- and whether the run halts
  pub halting_send : (T : RattleType) → IsSend T → (ν : Sym) (a b c : Lifetime) (a' b' c' : Lft)
      → IsSend (TupleAt ν (ShrRef a a' Q ∷ global.the_row ∷ ShrRef b b' (shared.the_row J S g) ∷ ShrRef c c' halt.the_row ∷ T ∷ []))
  halting_send T t ν a b c a' b' c' =
      let O = type_at ν (ShrRef a a' Q ∷ global.the_row ∷ ShrRef b b' (shared.the_row J S g) ∷ ShrRef c c' halt.the_row ∷ T ∷ []) in
      let book = shared_sync J S g j s in
      recorded_send _ _ _ O.to_one (struct_send (shape O) (shr_send a a' Q q, (heap_send, (shr_send b b' _ book, (shr_send c c' _ halts.the_sync, (t, tt))))))
