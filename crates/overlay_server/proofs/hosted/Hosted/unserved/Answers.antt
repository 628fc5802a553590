use Rattle.std.proofs.Common.{◌≡◌, ◌∙◌, None, Some, MatchOption, ap, subst, sym}
use Rattle.book_history.specs.BookLogs.{BookLog}
use Rattle.store_flushing.specs.Stores.{flusher_in}
use Rattle.overlay_server.proofs.Refusals.{MayAnswer, refused_at_once}
use Rattle.overlay_server.proofs.StoreParts.{stopped_at_once}
use Rattle.overlay_server.proofs.hosted.Hosted.unserved.Goals as goal

pub returns : goal.returns
returns g c =
    let self = c.args.self in
    let fault = c.refused.result in
    λ all. refused_at_once g.D.Disk self.version.value (flusher_in self.store) all fault self.answer
    (record { code = c.refused.ensures.code; same = c.refused.ensures.answer; may = subst MayAnswer (sym c.requires.answer) tt })
    (ap (λ (l : BookLog). l.log) c.refused.ensures.seen_log ∙ c.requires.first) c.refused.ensures.notes c.refused.ensures.sessions
    (stopped_at_once g.D.Disk self.version.value (flusher_in self.store) fault.disk c.requires.now
    (subst (λ o. MatchOption (flusher_in self.store) (o ≡ None) (λ f. o ≡ Some f.commit.disk)) (sym c.refused.ensures.disk) c.into_disk.ensures))
