-- The rows of jobs, as bytes; docs/FORMAT.md has them as tables.
use Rattle.std.specs.Prelude.{◌≡◌, ℕ, ◌-◌, ℤ, pos, ◌≤ℤ◌, int_lt, List, [], ◌∷◌, ◌++◌, Option, Some, None, All, flat_map, slice_get, replicate, if◌then◌else◌}
use Rattle.byteorder.specs.Endian.{little_bytes}
use Rattle.overlay_terms.specs.Plane.{WholePoint, Point}
use Rattle.feature_spots.specs.Spots.{spot_of, number_of, IsNear}
use Rattle.block_reading.specs.declared.job.Job.{Job}
use Rattle.block_reading.specs.declared.job.Job.TheVariants.{Pair, Cells, Locate}
use Rattle.feature_windows.specs.declared.found.Found.{Found}
use Rattle.feature_jobs.specs.Bytes.{small, wide, words}
use Rattle.feature_jobs.specs.Fault.{code_of}
use Rattle.feature_jobs.specs.declared.fault.JobFault.{JobFault}
use Rattle.feature_jobs.specs.declared.pair.PairFound.{PairFound}
use Rattle.feature_jobs.specs.declared.relation.Relation.{Relation}
use Rattle.feature_jobs.specs.declared.relation.Relation.TheVariants.{Disjoint, Touches, Overlaps, Within, Contains, Equals}

-- the row of a point against the rings of a feature: the number of its spot
abbrev pub point_row : List (List WholePoint) → Point → List ℕ
point_row rings p = little_bytes 4 (number_of (spot_of rings p))

-- the rows of points, in order; none against a feature that is not there
abbrev pub point_rows : Option (List (List WholePoint)) → List Point → List ℕ
point_rows (Some rings) points = flat_map (point_row rings) points
point_rows None points = []

-- the rows of a job of points: of its own points against its own feature
abbrev pub rows_of : List (List (List WholePoint)) → Job → List ℕ
rows_of features (Locate feature points) = point_rows (slice_get features feature) points
rows_of features (Pair a b) = []
rows_of features (Cells core members) = []

-- the points of all features lie within 2^41, as those of a block do
abbrev pub AreNear : List (List (List WholePoint)) → Type 0
AreNear features = All (All (All IsNear)) features

-- points have denominators above 0, as those of a block do
abbrev pub ArePositive : List Point → Type 0
ArePositive points = All (λ p. pos 1 ≤ℤ p.w) points

-- a row of so many bytes of a fault: its number, then zeros
abbrev pub fault_row : ℕ → ℕ → List ℕ
fault_row code size = little_bytes 4 code ++ replicate (size - 4) 0

-- bytes are such a row
abbrev pub IsFaultRow : ℕ → List ℕ → Type 0
IsFaultRow size row = (fault : JobFault) × (row ≡ fault_row (code_of fault) size)

-- what the row of a core with so many rings begins with: no fault, how many pieces were found in how many windows
abbrev pub cells_head : Found → ℕ → List ℕ
cells_head found rings = words (0 ∷ small found.pieces ∷ small found.windows ∷ rings ∷ [])

-- then twice their area, and how far that may be off
abbrev pub cells_row : Found → ℕ → List ℕ
cells_row found rings = (cells_head found rings ++ wide found.twice) ++ wide found.bound

-- bytes are a row of what was found, its rings and corners after it
abbrev pub HasFound : Found → List ℕ → Type 0
HasFound found row = (rings : ℕ) × (rest : List ℕ) × (row ≡ cells_row found rings ++ rest)

-- the number of a relation
abbrev pub relation_number : Relation → ℕ
relation_number Disjoint = 0
relation_number Touches = 1
relation_number Overlaps = 2
relation_number Within = 3
relation_number Contains = 4
relation_number Equals = 5

-- the greater number
abbrev pub most : ℤ → ℤ → ℤ
most a b = if int_lt a b then b else a

-- what the row of a pair with so many rings begins with: no fault, the relation, whether it is proper, and how many pieces of
-- what both have were found in how many windows
abbrev pub pair_head : PairFound → ℕ → List ℕ
pair_head one rings =
    words (0 ∷ relation_number one.relation ∷ (if one.is_proper then 1 else 0) ∷ small one.both.pieces ∷ small one.both.windows ∷ rings ∷ 0 ∷ 0 ∷ [])

-- how far one of the areas of a pair may be off
abbrev pub bound_of : PairFound → ℤ
bound_of one = most one.both.bound (most one.a.bound one.b.bound)

-- then twice the areas of the first, of the second and of both, and that
abbrev pub pair_row : PairFound → ℕ → List ℕ
pair_row one rings =
    (((pair_head one rings ++ wide one.a.twice) ++ wide one.b.twice) ++ wide one.both.twice) ++ wide (bound_of one)

-- bytes are a row of a pair, its rings and corners after it
abbrev pub HasPair : PairFound → List ℕ → Type 0
HasPair one row = (rings : ℕ) × (rest : List ℕ) × (row ≡ pair_row one rings ++ rest)
