use Rattle.std.proofs.Common.{rules}
use Rattle.record_reading.proofs.base_record.base_in.Goals as goal

-- found by search alone: it is here so that a wrong body is refused without working out what to write
pub returns-in-Ok : goal.returns-in-Ok
returns-in-Ok c = search rules
