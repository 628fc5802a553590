use Rattle.std.proofs.Common.{rules}
use Rattle.record_reading.proofs.tile_record.tile_in.Goals as goal

-- found by search alone: it is here so that a wrong body is refused without working out what to write
pub returns : goal.returns
returns c = search rules
