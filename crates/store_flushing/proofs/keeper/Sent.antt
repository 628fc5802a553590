-- A store with its keeper, and all that they hold, may go to another thread.
use denote.RattleType.{RattleType}
use denote.Enum.Declared as enum
use denote.Struct.Declared.{shape}
use denote.Param.Send.{IsSend, recorded_send, enum_send, struct_send, plain_send, sendable}
use Rattle.std.proofs.Crossing.{crosses}
use Rattle.disk_model.specs.declared.disk.Disk.{Ghosts}
use Rattle.book_history.proofs.Sent.{tiles_send, tiles_sync}
use Rattle.book_history.proofs.seen_log.SeenLog.TheSendSync as seen_logs
use Rattle.store_terms.proofs.catalog.Listed.TheSendSync as entries
use Rattle.store_terms.proofs.root.Root.TheSendSync as roots
use Rattle.commit_plan.proofs.room.Room.TheSendSync as rooms
use Rattle.commit_plan.proofs.write.Write.TheSendSync as writes
use Rattle.commit_plan.specs.contracts.live_records.LiveRecords as live
use Rattle.root_store.proofs.phase.Phase.TheSendSync as phases
use Rattle.root_store.specs.contracts.commit.Commit as commit
use Rattle.store_receipt.proofs.store_name.StoreName.TheSendSync as names
use Rattle.flush_core.specs.contracts.flusher.Flusher as flusher
use Rattle.version_book.proofs.Sent.{reporter_send}
use Rattle.store_flushing.proofs.keeper.report_log.ReportLog.TheSendSync as fault_texts
use Rattle.kept_store.proofs.version_mark.VersionMark.TheSendSync as marks
use Rattle.store_flushing.specs.contracts.keeper.Keeper as keeper
use Rattle.kept_store.specs.contracts.held_store.HeldStore as held
use Rattle.store_flushing.specs.contracts.keeper.store.Store as store

live_send : IsSend (live.the_field).row
live_send = struct_send (shape live.the_type) (
  search (sendable, crosses, entries.the_send) depth 20,
  (rooms.the_field_send, (search (sendable, crosses, tiles_send, tiles_sync) depth 20, tt)),
)

module _ (D : RattleType) (g : Ghosts D.Denot) (d : IsSend D) where
  commit_send : IsSend (commit.the_field D g).row
  commit_send = struct_send (shape (commit.the_type D g)) (
    d,
    (
      names.the_send,
      (
        roots.the_field_send,
        (
          live_send,
          (
            phases.the_field_send,
            (
              roots.the_field_send,
              (live_send, (search (sendable, crosses, writes.the_send) depth 20, (plain_send _ _ _ _ _, tt))),
            ),
          ),
        ),
      ),
    ),
  )

  held_send : IsSend (held.the_field D g).row
  held_send = struct_send (shape (held.the_type D g)) (
    struct_send (shape (flusher.the_type D g)) (commit_send, tt),
    (
      seen_logs.the_send,
      (search (sendable, crosses, marks.the_send) depth 20, (search (sendable, crosses, marks.the_send) depth 20, tt)),
    ),
  )

  keeper_send : IsSend (keeper.the_field D g).row
  keeper_send = struct_send (shape (keeper.the_type D g)) (reporter_send, (held_send, (fault_texts.the_field_send, tt)))

  pub store_send : IsSend (store.the_row D g)
  store_send =
      let O = store.the_type D g in
      recorded_send _ _ _ O.to_one (enum_send (enum.shape O) ((keeper_send, tt), ((reporter_send, tt), tt)))
