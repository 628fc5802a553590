-- What a reply to a block says: rows that answer its jobs, in order.
use Rattle.std.specs.Prelude.{◌≡◌, ◌⊎◌, ℕ, ◌-◌, ◌%◌, ◌==◌, ◌&&◌, nat_lt, Bool, false, List, [], Result, Ok, Err, Option, Some, None, slice_get, map, flat_map}
use Rattle.std.specs.List.{AllZip, concat}
use Rattle.overlay_terms.specs.Plane.{WholePoint}
use Rattle.overlay_terms.specs.Trees.{Steps}
use Rattle.block_reading.specs.Terms.{Core, Member}
use Rattle.block_reading.specs.Block.{Block, block_of, features_of}
use Rattle.block_reading.specs.Fault.{code_of as refusal_of, job_of}
use Rattle.block_reading.specs.declared.fault.BlockFault.{BlockFault}
use Rattle.block_reading.specs.declared.head.Head.{Head}
use Rattle.block_reading.specs.declared.job.Job.{Job}
use Rattle.block_reading.specs.declared.job.Job.TheVariants.{Pair, Cells, Locate}
use Rattle.feature_windows.specs.declared.found.Found.{Found}
use Rattle.feature_windows.specs.declared.window.Near.{Near}
use Rattle.feature_jobs.specs.Bytes.{small}
use Rattle.feature_jobs.specs.Expressions.{AreAsked}
use Rattle.feature_jobs.specs.Fault.{code_of}
use Rattle.feature_jobs.specs.Findings.{IsFoundOf}
use Rattle.feature_jobs.specs.Pairs.{IsPair}
use Rattle.feature_jobs.specs.Reply.{Reply, refused, no_job}
use Rattle.feature_jobs.specs.Rows.{point_rows, rows_of, AreNear, ArePositive, IsFaultRow, HasFound, HasPair}
use Rattle.feature_jobs.specs.declared.fault.JobFault.{JobFault}
use Rattle.feature_jobs.specs.declared.pair.PairFound.{PairFound}

-- a block is the one that some bytes spell
abbrev pub IsSpelled : Block → Type 0
IsSpelled block = (bytes : List ℕ) × (block_of bytes ≡ Ok block)

-- the number of a job in a reply; that of none where it is at least that large
abbrev pub job_number : Option ℕ → ℕ
job_number (Some job) = small job
job_number None = no_job

-- a member of a job counts for its layer
abbrev pub near_of : Member → Near
near_of m = record { feature = m.feature; layer = m.layer }

-- bytes are a row of a core: of a fault, or of what was found of an expression over the layers before the core's own one
pub data IsCellsRow (features : List (List (List WholePoint))) (asked : Steps) (core : Core) (members : List Member) (row : List ℕ) : Type 0 where
  faulty : IsFaultRow 48 row → IsCellsRow features asked core members row
  of_found : (found : Found) → IsFoundOf features (map near_of members) (asked.bases - 1) core asked found → HasFound found row
      → IsCellsRow features asked core members row

-- bytes are a row of a pair: of a fault, or of what was found of its two features
pub data IsPairRow (features : List (List (List WholePoint))) (a b : ℕ) (row : List ℕ) : Type 0 where
  without : IsFaultRow 96 row → IsPairRow features a b row
  of_pair : (one : PairFound) → IsPair features a b one → HasPair one row → IsPairRow features a b row

-- bytes are what answers a job over features, where cores are asked for an expression
abbrev pub IsRow : List (List (List WholePoint)) → Steps → Job → List ℕ → Type 0
IsRow features asked (Locate feature points) row = AreNear features → ArePositive points → row ≡ point_rows (slice_get features feature) points
IsRow features asked (Cells core members) row = IsCellsRow features asked core members row
IsRow features asked (Pair a b) row = IsPairRow features a b row

-- bytes are what answers jobs, in order
abbrev pub AreRows : List (List (List WholePoint)) → Steps → List Job → List ℕ → Type 0
AreRows features asked jobs bytes = (rows : List (List ℕ)) × AllZip (IsRow features asked) jobs rows × (bytes ≡ concat rows)

-- bytes are what answers the jobs of a block, whose own expression is asked of cores
pub record AreRowsOf (block : Block) (bytes : List ℕ) : Type 0 where
  pub asked : Steps
  pub spelled : block.head.kind ≡ 1 → AreAsked block.expression block.head.layers asked
  pub rows : AreRows (features_of block.shapes) asked block.jobs bytes

-- whether rows have rings
abbrev pub has_rings : Head → Bool
has_rings head = head.flags % 2 == 1 && nat_lt head.kind 2

-- a reply has the rows of a block
pub record IsAnswered (block : Block) (reply : Reply) : Type 0 where
  pub kind : reply.kind ≡ block.head.kind
  pub flags : reply.flags ≡ block.head.flags
  pub fault : reply.fault ≡ 0
  pub job : reply.job ≡ 0
  pub rows : has_rings block.head ≡ false → AreRowsOf block reply.rows
  pub no_rings : has_rings block.head ≡ false → reply.rings ≡ []
  pub no_corners : has_rings block.head ≡ false → reply.corners ≡ []

-- or says why the block is refused
abbrev pub IsReply : Block → Reply → Type 0
IsReply block reply = IsAnswered block reply ⊎ ((fault : JobFault) × (reply ≡ refused (code_of fault) no_job))

-- the reply to a block of points: their rows, those of a job after another
abbrev pub points_reply : Block → Reply
points_reply block =
    record { kind = block.head.kind; flags = block.head.flags; fault = 0; job = 0; rows = flat_map (rows_of (features_of block.shapes)) block.jobs; rings = []; corners = [] }

-- the reply to what some bytes spell: to a block, or why they are none
abbrev pub IsReplyOf : Result Block BlockFault → Reply → Type 0
IsReplyOf (Ok block) reply = IsReply block reply × (block.head.kind ≡ 2 → reply ≡ points_reply block)
IsReplyOf (Err fault) reply = reply ≡ refused (refusal_of fault) (job_number (job_of fault))
