use Rattle.std.proofs.Common.{◌≡◌, ap}
use Rattle.book_history.specs.Logs.{history_of}
use Rattle.kept_store.specs.declared.held_store.HeldStore.{HeldStore}
use Rattle.kept_store.proofs.FailLemmas.{failed_on}
use Rattle.kept_store.proofs.Following.{by_call, handed_on}
use Rattle.kept_store.proofs.Storage.{kept_on, then}
use Rattle.store_flushing.proofs.ReportedLemmas.{reporting_then}
use Rattle.store_flushing.proofs.flusher_loop.round.Goals as goal

pub returns-in-Ok-Some-clause-flushes : goal.returns-in-Ok-Some-clause-flushes
returns-in-Ok-Some-clause-flushes g c is =
    let d = g.D.Disk in
    let old = c.args.keeper.now in
    let mid = c.look.new.self in
    let new = c.commit.new.keeper in
    let h = history_of old.reporter.log in
    let m = history_of mid.reporter.log in
    let e = c.look.ensures in
    let seen = kept_on d h m old.held.flusher mid.held.flusher (e.keeps is) e.durable (ap (λ (s : HeldStore g.row.D.Denot g.D.Disk). s.flusher.commit.root.version) e.held) in
    then d h m (history_of new.reporter.log) old.held.flusher mid.held.flusher new.held.flusher seen (c.commit.ensures.flushes seen.store)

pub returns-in-Ok-None-clause-flushes : goal.returns-in-Ok-None-clause-flushes
returns-in-Ok-None-clause-flushes g c is =
    let old = c.args.keeper.now in
    let mid = c.look.new.self in
    let e = c.look.ensures in
    kept_on g.D.Disk (history_of old.reporter.log) (history_of mid.reporter.log) old.held.flusher mid.held.flusher (e.keeps is) e.durable (ap (λ (s : HeldStore g.row.D.Denot g.D.Disk). s.flusher.commit.root.version) e.held)

pub returns-in-Err-clause-flushes : goal.returns-in-Err-clause-flushes
returns-in-Err-clause-flushes g c is =
    let old = c.args.keeper.now in
    let mid = c.look.new.self in
    let e = c.look.ensures in
    kept_on g.D.Disk (history_of old.reporter.log) (history_of mid.reporter.log) old.held.flusher mid.held.flusher (e.keeps is) e.durable (ap (λ (s : HeldStore g.row.D.Denot g.D.Disk). s.flusher.commit.root.version) e.held)

pub returns-in-Ok-Some-clause-notes_stay : goal.returns-in-Ok-Some-clause-notes_stay
returns-in-Ok-Some-clause-notes_stay g c =
    reporting_then g.D.Disk c.args.keeper.now c.look.new.self c.commit.new.keeper c.look.ensures.notes_stay (λ is. (c.look.ensures.keeps is).store) c.commit.ensures.notes_stay

pub commit-requires-clause-stored : goal.commit-requires-clause-stored
commit-requires-clause-stored g c =
    let d = g.D.Disk in
    let old = c.args.keeper.now in
    let mid = c.look.new.self in
    let h = history_of old.reporter.log in
    let m = history_of mid.reporter.log in
    let name : mid.held.flusher.commit.name ≡ old.held.flusher.commit.name = ap (λ (s : HeldStore g.row.D.Denot g.D.Disk). s.flusher.commit.name) c.look.ensures.held in
    handed_on d g.J.BookName.stored h m old.held.flusher mid.held.flusher (λ is. by_call d h m old.held.flusher mid.held.flusher name (c.look.ensures.keeps is)) c.requires.stored

pub commit-requires-clause-failed : goal.commit-requires-clause-failed
commit-requires-clause-failed g c =
    let d = g.D.Disk in
    let old = c.args.keeper.now in
    let mid = c.look.new.self in
    let h = history_of old.reporter.log in
    let m = history_of mid.reporter.log in
    let name : mid.held.flusher.commit.name ≡ old.held.flusher.commit.name = ap (λ (s : HeldStore g.row.D.Denot g.D.Disk). s.flusher.commit.name) c.look.ensures.held in
    failed_on d g.J.BookName.failed h m old.held.flusher mid.held.flusher
    (λ is. let kept = c.look.ensures.keeps is in (by_call d h m old.held.flusher mid.held.flusher name kept, kept.by_device, kept.blocks)) c.requires.failed
