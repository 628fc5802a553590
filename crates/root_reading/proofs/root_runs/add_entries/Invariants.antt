use Rattle.std.proofs.Common.{◌++◌, List, take}
use Rattle.store_terms.specs.declared.root.RecordExtent.{RecordExtent}
use Rattle.store_terms.specs.Places.{some_extents}
use Rattle.root_reading.specs.RootRuns.{AreRunsFor}
use Rattle.root_reading.proofs.root_runs.add_entries.Given as goal

abbrev pub invariant-loop-entry : goal.invariant-loop-entry
invariant-loop-entry l =
    (es : List RecordExtent) → AreRunsFor es l.fn.runs.items
    → AreRunsFor (es ++ some_extents (take l.entry-index l.entries)) l.runs.items
