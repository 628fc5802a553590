use Rattle.std.proofs.Common.{refl}
use Rattle.store_flushing.proofs.Remembered.{same_keeper}
use Rattle.store_flushing.proofs.keeper.Keeper.report_fault.Goals as goal

pub returns-clause-nothing : goal.returns-clause-nothing
returns-clause-nothing g c =
    let k = c.args.self.now in
    same_keeper k c.store_failed.new.me k.held c.store_failed.ensures refl _
