-- The faults of a store: their numbers and texts.
use Rattle.std.specs.Prelude.{ℕ, List}
use Rattle.fault_texts.specs.FaultTable.{text}
use Rattle.extent_map.specs.declared.fault.ExtentFault.{ExtentFault}
use Rattle.extent_map.specs.declared.fault.ExtentFault.TheVariants as extents
use Rattle.store_terms.specs.declared.damage.Damage.TheVariants as damage
use Rattle.record_reading.specs.Fault as records
use Rattle.record_reading.specs.declared.fault.RecordFault.TheVariants as failed
use Rattle.root_reading.specs.declared.load_fault.LoadFault.{LoadFault}
use Rattle.root_reading.specs.declared.load_fault.LoadFault.TheVariants as loads
use Rattle.commit_plan.specs.declared.fault.StoreFault.{StoreFault}
use Rattle.commit_plan.specs.declared.fault.StoreFault.TheVariants.{Device, Full, Damaged, NotEmpty, Failed}
use Rattle.commit_plan.specs.declared.fault.StoreFault.TheVariants.{SequenceLimit, OutOfMemory}

-- a fault of extents, as one of a store
abbrev pub fault_of_extents : ExtentFault → StoreFault
fault_of_extents extents.Full = Full
fault_of_extents extents.Overlap = Damaged damage.Overlap
fault_of_extents extents.OutOfMemory = OutOfMemory

-- a fault of reading, as one of a store
abbrev pub store_fault_of : LoadFault → StoreFault
store_fault_of loads.Device = Device
store_fault_of (loads.Damaged damage) = Damaged damage
store_fault_of loads.OutOfMemory = OutOfMemory

-- the number under which a fault is printed
abbrev pub code_of : StoreFault → ℕ
code_of Device = 30
code_of Full = 31
code_of (Damaged damage) = records.code_of (failed.Damaged damage)
code_of NotEmpty = 34
code_of Failed = 35
code_of SequenceLimit = 36
code_of OutOfMemory = 40

-- the text that is printed after the number
abbrev pub text_of : StoreFault → List ℕ
text_of (Damaged damage) = records.text_of (failed.Damaged damage)
text_of fault = text (code_of fault)
