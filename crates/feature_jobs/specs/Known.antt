-- What is known of features before any job.
use Rattle.std.specs.Prelude.{◌≡◌, ℕ, List, Some, slice_get}
use Rattle.overlay_terms.specs.Plane.{WholePoint}
use Rattle.feature_jobs.specs.Pairs.{IsAreaOf}
use Rattle.feature_jobs.specs.declared.known.Known.{Known}
use Rattle.feature_jobs.specs.declared.known.Knowing.{Knowing}
use Rattle.feature_jobs.specs.declared.known.Knowing.TheVariants as knowing

-- what is known as that of a feature is its area, if anything is
abbrev pub IsKnownAs : List (List (List WholePoint)) → ℕ → Knowing → Type 0
IsKnownAs features feature (knowing.Known known) = IsAreaOf features feature known.found
IsKnownAs features feature (knowing.Fault fault) = Unit {0}

-- what is known of each feature is the area of that one
abbrev pub AreKnown : List (List (List WholePoint)) → List Knowing → Type 0
AreKnown features list = (feature : ℕ) (known : Known) → slice_get list feature ≡ Some (knowing.Known known) → IsAreaOf features feature known.found
