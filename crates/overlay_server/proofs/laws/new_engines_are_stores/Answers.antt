use Rattle.kept_store.proofs.Storage.{store_begins}
use Rattle.overlay_server.proofs.laws.new_engines_are_stores.Goals as goal

pub returns : goal.returns
returns g c e is = store_begins g.D.Disk e.version e.flusher is.x is.stands is.image is.stored is.reported
