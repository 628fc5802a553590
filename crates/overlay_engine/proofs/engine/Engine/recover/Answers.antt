-- What opening promises of a store, as recovery promises it of an engine over it.
use Rattle.std.proofs.Common.{sym, ap, ◌∙◌}
use Rattle.overlay_terms.specs.Histories.{Version}
use Rattle.overlay_engine.proofs.HonestLemmas.{recovers, refuses}
use Rattle.overlay_engine.proofs.engine.Engine.recover.Goals as goal

pub returns-in-Ok-clause-recovers : goal.returns-in-Ok-clause-recovers
returns-in-Ok-clause-recovers g c honest =
    let disk = c.args.disk in
    let restored = c.restored.ensures in
    recovers g.D.Disk disk (g.met.D.Disk.seen_may_stay disk honest) c.in-Ok.commit c.in-Ok.image (c.in-Ok.ensures.opens honest)
    _ c.new.ensures (sym c.in-Ok.ensures.number ∙ sym (ap (λ (v : Version). v.number) restored)) restored

pub returns-in-Err-clause-recovers : goal.returns-in-Err-clause-recovers
returns-in-Err-clause-recovers g c honest =
    let disk = c.args.disk in
    refuses g.D.Disk disk (g.met.D.Disk.seen_may_stay disk honest) c.in-Err.refused (c.in-Err.ensures.opens honest)
