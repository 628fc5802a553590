-- The number of each reason why a job has no answer.
use Rattle.std.specs.Prelude.{ℕ}
use Rattle.feature_jobs.specs.declared.fault.JobFault.{JobFault}
use Rattle.feature_jobs.specs.declared.fault.JobFault.TheVariants.{OutOfMemory, BadExpression, TooManyLayers, LongStep, TooManySteps, LargeArea, BadRing, OpenBoundary}

abbrev pub code_of : JobFault → ℕ
code_of OutOfMemory = 40
code_of BadExpression = 76
code_of TooManyLayers = 77
code_of LongStep = 78
code_of TooManySteps = 79
code_of LargeArea = 80
code_of BadRing = 82
code_of OpenBoundary = 84
