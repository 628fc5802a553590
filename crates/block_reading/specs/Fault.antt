-- The number of each refusal, and the job that it names.
use Rattle.std.specs.Prelude.{ℕ, Option, Some, None}
use Rattle.block_reading.specs.declared.fault.BlockFault.{BlockFault}
use Rattle.block_reading.specs.declared.fault.BlockFault.TheVariants.{Cut, NoBlock, OtherVersion, TooLong, OtherLength, UnknownKind, UnknownFlag, OtherRings, OtherPoints, OutOfRange, NoEnd, JobCut, JobsTooLong, BadCore, BadFraction, Absent}

abbrev pub code_of : BlockFault → ℕ
code_of Cut = 60
code_of NoBlock = 61
code_of OtherVersion = 62
code_of TooLong = 63
code_of OtherLength = 64
code_of UnknownKind = 65
code_of UnknownFlag = 66
code_of OtherRings = 67
code_of OtherPoints = 68
code_of (OutOfRange point) = 69
code_of NoEnd = 70
code_of (JobCut job) = 71
code_of JobsTooLong = 72
code_of (BadCore job) = 73
code_of (BadFraction job) = 74
code_of (Absent job) = 75

-- the job that is at fault, where one is
abbrev pub job_of : BlockFault → Option ℕ
job_of (JobCut job) = Some job
job_of (BadCore job) = Some job
job_of (BadFraction job) = Some job
job_of (Absent job) = Some job
job_of Cut = None
job_of NoBlock = None
job_of OtherVersion = None
job_of TooLong = None
job_of OtherLength = None
job_of UnknownKind = None
job_of UnknownFlag = None
job_of OtherRings = None
job_of OtherPoints = None
job_of (OutOfRange point) = None
job_of NoEnd = None
job_of JobsTooLong = None
