use Rattle.std.proofs.Common.{rules}
use Rattle.wkt_form.proofs.fault.WktFaultFromPlaneFault.from.Goals as goal

-- found by search alone; written here so that a wrong body is refused without working out what to write
pub returns-in-CoordRange : goal.returns-in-CoordRange
returns-in-CoordRange c = search rules
