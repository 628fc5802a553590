use Rattle.std.proofs.Common.{◌≡◌, length, replicate, refl, sym, subst, rules}
use Rattle.disk_model.specs.declared.image.Faces.{Faces}
use Rattle.disk_model.specs.declared.mem_disk.Call.{Call}
use Rattle.disk_model.specs.Replay.{after, over}
use Rattle.disk_model.specs.Played.{Plays}
use Rattle.disk_model.proofs.PlayedLemmas.{plays_write}
use Rattle.disk_model.proofs.image.Faces.play.Goals as goal

pub returns-in_ok-overwrite-in-Write-2 : goal.returns-in_ok-overwrite-in-Write-2
returns-in_ok-overwrite-in-Write-2 c s plays =
    let old = c.args.self.now in
    let new : Faces = record { synced = old.synced; seen = c.overwrite-in-Write.new.file; filled = c.overwrite.new.file } in
    let at = c.in-Write.at in
    let bytes = c.in-Write.bytes in
    let more = c.in_ok-more-in-Write.more.items in
    let many : more ≡ replicate (length bytes.items) c.args.byte = search rules in
    let is_seen : c.overwrite-in-Write.new.file.items ≡ over old.seen.items at bytes.items = search rules in
    let is_filled : c.overwrite.new.file.items ≡ over old.filled.items at more = search rules in
    subst (λ (call : Call). Plays (after call s) c.args.byte new) (sym c.in-Write.is) (plays_write c.args.byte s at bytes more old new plays many refl is_seen is_filled)
