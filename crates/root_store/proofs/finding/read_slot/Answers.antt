use Rattle.std.proofs.Common.{◌∙◌}
use Rattle.root_store.proofs.FindingLemmas.{slot_gate, slot_body}
use Rattle.root_store.proofs.finding.read_slot.Goals as goal

pub returns-clause-read : goal.returns-clause-read
returns-clause-read g c honest =
    let file = g.D.Disk.seen c.args.disk.now in
    let long = c.requires.long honest in
    let are = c.in_ok-read.ensures.read honest in
    record {
      gate = slot_gate c.read.new.buf file c.args.number c.requires.small are long;
      body = c.read_body.ensures ∙ slot_body c.read.new.buf file c.args.number c.requires.small are long;
    }
