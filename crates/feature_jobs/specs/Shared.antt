-- What the jobs of a block share.
use Rattle.std.specs.Prelude.{List, []}
use Rattle.overlay_terms.specs.Plane.{WholePoint}
use Rattle.overlay_terms.specs.Trees.{Steps}
use Rattle.feature_jobs.specs.Known.{AreKnown}
use Rattle.feature_jobs.specs.Pairs.{ArePairSteps}
use Rattle.feature_jobs.specs.declared.ground.Shared.{Shared}
use Rattle.feature_jobs.specs.declared.ground.Shared.TheVariants.{Pairs, Cells, Points}

-- it is of these features: of pairs, what is known of each, and the expressions that a pair asks
abbrev pub AreShared : List (List (List WholePoint)) → Shared → Type 0
AreShared features (Pairs known steps) = AreKnown features known.items × ArePairSteps steps
AreShared features (Cells steps) = Unit {0}
AreShared features Points = Unit {0}

-- the steps of the expression that cores are asked for; of pairs and points there are none
abbrev pub asked_of : Shared → Steps
asked_of (Pairs known steps) = record { bases = 0; definitions = [] }
asked_of (Cells steps) = steps
asked_of Points = record { bases = 0; definitions = [] }
