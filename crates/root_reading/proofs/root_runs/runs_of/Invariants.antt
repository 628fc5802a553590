use Rattle.std.proofs.Common.{◌∷◌, take}
use Rattle.store_terms.specs.Listing.{entries_of}
use Rattle.store_terms.specs.Places.{extents_listed}
use Rattle.root_reading.specs.RootRuns.{AreRunsFor}
use Rattle.root_reading.proofs.root_runs.runs_of.Given as goal

abbrev pub invariant-loop-layer : goal.invariant-loop-layer
invariant-loop-layer l =
    AreRunsFor (l.fn.catalog ∷ extents_listed (take l.layer-index (entries_of l.listing))) l.runs.items
