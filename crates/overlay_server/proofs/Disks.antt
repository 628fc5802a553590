-- A disk comes back from a server just where it had a store.
use Rattle.std.proofs.Common.{◌≡◌, Option, Some, None, is_some, List, ap}
use Rattle.disk_model.specs.declared.disk.Disk.{Ghosts}
use Rattle.overlay_terms.specs.Histories.{Entry, Version}
use Rattle.flush_core.specs.declared.flusher.Flusher.{Flusher}
use Rattle.store_flushing.specs.declared.closed.Closed.{Closed}
use Rattle.store_flushing.specs.declared.keeper.report_log.ReportNote.{ReportNote}
use Rattle.overlay_server.specs.Refusing.{StoreComesBack}
use Rattle.overlay_server.specs.Serving.{IsLeftOfStore}

module _ {D : Type 0} (g : Ghosts D) (start : Version) where
  pub disk_left : (store : Option (Flusher D g)) (closed : Closed D) → IsLeftOfStore g start store closed → is_some closed.disk ≡ is_some store
  disk_left None closed left = ap (λ (o : Option D). is_some o) left.1
  disk_left (Some old) closed left = ap (λ (o : Option D). is_some o) left.disk

  pub disk_back : (log : List Entry) (written : List ReportNote) (store : Option (Flusher D g)) (back : Option D) → StoreComesBack g start log written store back → is_some back ≡ is_some store
  disk_back log written None back is = ap (λ (o : Option D). is_some o) is
  disk_back log written (Some old) back is = ap (λ (o : Option D). is_some o) is.there
