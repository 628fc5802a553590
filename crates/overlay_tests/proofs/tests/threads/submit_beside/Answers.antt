use mathlib.Core.List.{[], ◌∷◌}
use mir.Syntax.{Lifetime, Sym}
use base.Fml.{Lft}
use denote.RattleType.{RattleType}
use denote.Ref.{MutRef, ShrRef}
use denote.Struct.Declared.{shape}
use denote.Struct.Tuple.{TupleAt, type_at}
use Rattle.std.proofs.Crossing.{sync}
use Rattle.std.specs.contracts.alloc.Global as global
use Rattle.version_book.proofs.SentBook.{shared_sync}
use Rattle.version_book.proofs.Sent.{reporter_send}
use Rattle.store_receipt.proofs.store_name.StoreName.TheSendSync as names
use Rattle.store_receipt.specs.contracts.store_name.StoreName as name
use Rattle.version_book.specs.contracts.reporter.Reporter as reporter
use Rattle.version_book.specs.contracts.shared.Shared as shared
use Rattle.version_book.specs.declared.seen_log.BookName as book_name
use denote.Exit.{no}
use denote.Param.{param}
use denote.Param.Send.{IsSend, IsSync, arg_send, mut_send, param_send, recorded_send, shr_send, struct_send}
use Rattle.overlay_tests.proofs.tests.threads.submit_beside.Goals as goal

module _ (J R : RattleType) (g : book_name.Ghosts J.Denot) (j : IsSend J) (s : IsSync R) where
  -- what the closure captures in which the reporter reports: the runtime, the allocator, the book, the reporter and the store's name
  pub captures_send : (ν : Sym) (a b c d e f : Lifetime) (a' b' c' d' e' f' : Lft)
      → IsSend (TupleAt ν (ShrRef a a' R ∷ ShrRef b b' global.the_row ∷ ShrRef c c' (shared.the_row J (ShrRef d d' R) g) ∷ MutRef e e' reporter.the_row ∷ ShrRef f f' name.the_row ∷ []))
  captures_send ν a b c d e f a' b' c' d' e' f' =
      let O = type_at ν (ShrRef a a' R ∷ ShrRef b b' global.the_row ∷ ShrRef c c' (shared.the_row J (ShrRef d d' R) g) ∷ MutRef e e' reporter.the_row ∷ ShrRef f f' name.the_row ∷ []) in
      let book = shared_sync J (ShrRef d d' R) g j (shr_send d d' R s) in
      recorded_send _ _ _ O.to_one (struct_send (shape O) (shr_send a a' R s, (shr_send b b' global.the_row sync, (shr_send c c' _ book, (mut_send e e' reporter.the_row reporter_send, (shr_send f f' name.the_row names.the_sync, tt))))))

pub join_mut-reported-requires-send-F : goal.join_mut-reported-requires-send-F
join_mut-reported-requires-send-F g c κs within =
    param_send 1 _ (arg_send _ no _ (captures_send (param 0 g.row.J) (param 1 g.row.R) g.J.BookName c.type_bounds.send-J c.type_bounds.sync-R _ _ _ _ _ _ _ _ _ _ _ _ _))
