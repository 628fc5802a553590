-- What readers of records answer.
use Rattle.std.specs.Prelude.{◌≡◌, Option, Some, None, Result, Ok, Err}
use Rattle.layer_expr.specs.declared.fault.ExprFault.{ExprFault}
use Rattle.layer_expr.specs.declared.fault.ExprFault.TheVariants.{ExprSyntax, ExprTooLong, BadName, OutOfMemory}
use Rattle.store_terms.specs.declared.damage.Damage.{Damage}
use Rattle.record_reading.specs.declared.fault.ReadFault.{ReadFault}
use Rattle.record_reading.specs.declared.fault.ReadFault.TheVariants as read_faults
use Rattle.record_reading.specs.declared.fault.RecordFault.{RecordFault}
use Rattle.record_reading.specs.declared.fault.RecordFault.TheVariants as record_faults

-- reading gives no value, unless memory ran out
abbrev pub Fails : {Y : Type 0} → ReadFault → Option Y → Type 0
Fails read_faults.Memory read = Unit {0}
Fails read_faults.Form read = read ≡ None

-- the value that reading gives, or that it gives none, unless memory ran out
abbrev pub Gives : {X Y : Type 0} → (X → Y) → Result X ReadFault → Option Y → Type 0
Gives view (Ok x) read = read ≡ Some (view x)
Gives view (Err fault) read = Fails fault read

-- a fault of an expression, as one of reading
abbrev pub failed_as : ExprFault → ReadFault
failed_as (ExprSyntax at) = read_faults.Form
failed_as ExprTooLong = read_faults.Form
failed_as BadName = read_faults.Form
failed_as OutOfMemory = read_faults.Memory

-- a fault of reading, as the damage that it is
abbrev pub reported_as : Damage → ReadFault → RecordFault
reported_as damage read_faults.Memory = record_faults.OutOfMemory
reported_as damage read_faults.Form = record_faults.Damaged damage

-- the fault is the damage that reading reports, unless memory ran out
abbrev pub Tells : {Y : Type 0} → RecordFault → Result Y Damage → Type 0
Tells record_faults.OutOfMemory read = Unit {0}
Tells (record_faults.Damaged damage) read = read ≡ Err damage

-- the value that reading gives, or the damage that it reports, unless memory ran out
abbrev pub Reads : {X Y : Type 0} → (X → Y) → Result X RecordFault → Result Y Damage → Type 0
Reads view (Ok x) read = read ≡ Ok (view x)
Reads view (Err fault) read = Tells fault read
