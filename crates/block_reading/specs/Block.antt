-- The form of a block: a head, arrays of features, jobs, an expression, an end mark. docs/FORMAT.md has it as a table.
use Rattle.std.specs.Prelude.{ℕ, zero, suc, ◌+◌, ◌*◌, nat_lt, not, ◌==◌, List, [], ◌∷◌, length, take, drop, sum_by, Result, Ok, Err, if◌then◌else◌}
use Rattle.overlay_terms.specs.Plane.{WholePoint}
use Rattle.byteorder.specs.Endian.{little_number}
use Rattle.block_reading.specs.Terms.{Shapes}
use Rattle.block_reading.specs.Reading.{◌>>!◌, Reading, number, taken, many}
use Rattle.block_reading.specs.Jobs.{point, job, is_job_known}
use Rattle.block_reading.specs.declared.fault.BlockFault.{BlockFault}
use Rattle.block_reading.specs.declared.fault.BlockFault.TheVariants.{Cut, NoBlock, OtherVersion, TooLong, OtherLength, UnknownKind, UnknownFlag, OtherRings, OtherPoints, NoEnd, JobsTooLong, Absent}
use Rattle.block_reading.specs.declared.head.Head.{Head}
use Rattle.block_reading.specs.declared.job.Job.{Job}

-- the number of 4 bytes from a place on
abbrev pub field : ℕ → List ℕ → ℕ
field at bytes = little_number 4 (drop at bytes)

-- the head of a block: 56 bytes
abbrev pub head_of : List ℕ → Head
head_of bytes = record {
  length = little_number 8 bytes;
  magic = field 8 bytes;
  version = field 12 bytes;
  kind = field 16 bytes;
  flags = field 20 bytes;
  limit = field 24 bytes;
  features = field 28 bytes;
  rings = field 32 bytes;
  points = field 36 bytes;
  jobs = field 40 bytes;
  job_words = field 44 bytes;
  expression = field 48 bytes;
  layers = field 52 bytes;
}

-- how many bytes a block of these counts has
abbrev pub size_of : Head → ℕ
size_of h = 56 + 4 * h.features + 4 * h.rings + 16 * h.points + 4 * h.job_words + h.expression + 4

-- the head, where a block of so many bytes may have it; else the first reason why not
abbrev pub head_held : Head → ℕ → Result Head BlockFault
head_held h count =
    if not (h.magic == 1111905871) then Err NoBlock
    else if not (h.version == 1) then Err OtherVersion
    else if nat_lt count h.length then Err Cut
    else if nat_lt h.length count then Err TooLong
    else if not (size_of h == count) then Err OtherLength
    else if nat_lt 2 h.kind then Err UnknownKind
    else if nat_lt 3 h.flags then Err UnknownFlag
    else Ok h

abbrev pub head : Reading Head
head bytes =
    if nat_lt (length bytes) 56 then Err Cut
    else head_held (head_of bytes) (length bytes) >>! λ h. Ok (h, drop 56 bytes)

-- a count of 4 bytes
abbrev pub count : ℕ → Reading ℕ
count at = number Cut 4

abbrev pub shapes : Head → Reading Shapes
shapes h bytes =
    many count 0 h.features bytes >>! λ rings. many count 0 h.rings rings.1 >>! λ sizes. many point 0 h.points sizes.1 >>! λ points.
    Ok (record { ring_counts = rings.0; point_counts = sizes.0; points = points.0 }, points.1)

-- a list in parts, of so many each
abbrev pub dealt : {A : Type 0} → List ℕ → List A → List (List A)
dealt [] items = []
dealt (n ∷ ns) items = take n items ∷ dealt ns (drop n items)

-- the features: each a list of rings, a ring a list of points
abbrev pub features_of : Shapes → List (List (List WholePoint))
features_of s = dealt s.ring_counts (dealt s.point_counts s.points)

-- whether the counts of a block's arrays add up to those of its head
abbrev pub shapes_held : Head → Shapes → Result Shapes BlockFault
shapes_held h s =
    if not (sum_by (λ n. n) s.ring_counts == h.rings) then Err OtherRings
    else if not (sum_by (λ n. n) s.point_counts == h.points) then Err OtherPoints
    else Ok s

-- the jobs that some bytes are, as many as the head says
abbrev pub jobs : Head → List ℕ → Result (List Job) BlockFault
jobs h bytes = many (job h.kind) 0 h.jobs bytes >>! λ js. if length js.1 == 0 then Ok js.0 else Err JobsTooLong

-- the number of the first job that names a feature or a layer that is not there, counted on from i; the end where there is none
abbrev pub first_unknown : Head → ℕ → List Job → ℕ
first_unknown h i [] = i
first_unknown h i (j ∷ js) = if is_job_known h.features h.layers j then first_unknown h (i + 1) js else i

abbrev pub jobs_known : Head → List Job → Result (List Job) BlockFault
jobs_known h js = if first_unknown h 0 js == length js then Ok js else Err (Absent (first_unknown h 0 js))

-- the bytes of the jobs, those of the expression; the end mark closes the block
abbrev pub tail : Head → List ℕ → Result (List ℕ × List ℕ) BlockFault
tail h bytes =
    taken Cut (4 * h.job_words) bytes >>! λ js. taken Cut h.expression js.1 >>! λ words. number Cut 4 words.1 >>! λ mark.
    if mark.0 == 1162237519 then Ok (js.0, words.0) else Err NoEnd

-- features and jobs over them
pub record Block : Type 0 where
  pub head : Head
  pub shapes : Shapes
  pub jobs : List Job
  pub expression : List ℕ

-- the block that some bytes are, or why they are none
abbrev pub block_of : List ℕ → Result Block BlockFault
block_of bytes =
    head bytes >>! λ h. shapes h.0 h.1 >>! λ s. tail h.0 s.1 >>! λ t. shapes_held h.0 s.0 >>! λ held. jobs h.0 t.0 >>! λ js. jobs_known h.0 js >>! λ known.
    Ok (record { head = h.0; shapes = held; jobs = known; expression = t.1 })
