-- What the threads of a worker and of a store take with them may go to another thread.
use mathlib.Core.List.{[], ◌∷◌}
use mir.Syntax.{Lifetime, Sym}
use base.Fml.{Lft}
use denote.RattleType.{RattleType}
use denote.Ref.{NamedLft, ShrRef}
use denote.Struct.Declared.{shape}
use denote.Struct.Tuple.{TupleAt, type_at}
use denote.Param.Send.{IsSend, IsSync, mut_send, recorded_send, sendable, shr_send, struct_send}
use Rattle.std.proofs.Crossing.{crosses}
use Rattle.std.specs.contracts.alloc.Global as global
use Rattle.version_book.proofs.SentBook.{shared_sync}
use Rattle.version_book.specs.contracts.shared.Shared as shared
use Rattle.book_history.specs.declared.seen_log.BookName as book_name
use Rattle.disk_model.specs.declared.disk.Disk.{Ghosts}
use Rattle.session_threads.proofs.Sent.{heap_send}
use Rattle.store_flushing.specs.contracts.keeper.store.Store as store
use Rattle.store_flushing.proofs.keeper.Sent.{store_send}
use Rattle.overlay_server.specs.contracts.storing.LentStore as lent

module _ (J S Q : RattleType) (g : book_name.Ghosts J.Denot) (j : IsSend J) (s : IsSend S) (q : IsSync Q) where
  -- a worker's closure: the runtime, the allocator, the gate and the book
  pub worker_send : (G : RattleType) → IsSync G → (ν : Sym) (a b c : Lifetime) (a' b' c' : Lft)
      → IsSend (TupleAt ν (ShrRef a a' Q ∷ global.the_row ∷ ShrRef b b' G ∷ ShrRef c c' (shared.the_row J S g) ∷ []))
  worker_send G h ν a b c a' b' c' =
      let O = type_at ν (ShrRef a a' Q ∷ global.the_row ∷ ShrRef b b' G ∷ ShrRef c c' (shared.the_row J S g) ∷ []) in
      let book = shared_sync J S g j s in
      recorded_send _ _ _ O.to_one (struct_send (shape O) (shr_send a a' Q q, (heap_send, (shr_send b b' G h, (shr_send c c' _ book, tt)))))

  -- a store that is lent, with the runtime, the allocator and the book
  pub lent_send : (a : NamedLft) (D : RattleType) (d : Ghosts D.Denot) → IsSend D → IsSend (lent.the_row a J S Q D g d)
  lent_send a D d sent =
      let O = lent.the_type a J S Q D g d in
      let book = shared_sync J S g j s in
      recorded_send _ _ _ O.to_one (struct_send (shape O) (shr_send _ _ Q q, (search (sendable, crosses), (shr_send _ _ _ book, (mut_send _ _ (store.the_row D d) (store_send D d sent), tt)))))
