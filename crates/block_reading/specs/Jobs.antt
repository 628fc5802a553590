-- What a job asks, and how it is spelt. A fault names the job by its number in the block.
use Rattle.std.specs.Prelude.{ℕ, zero, suc, ℤ, pos, neg_ℤ, ◌+◌, ◌*ℤ◌, int_le, nat_lt, Bool, true, ◌&&◌, List, Result, Ok, Err, if◌then◌else◌}
use Rattle.std.specs.List.{list_all}
use Rattle.overlay_terms.specs.Plane.{WholePoint, Point}
use Rattle.block_reading.specs.Terms.{Core, Member}
use Rattle.block_reading.specs.Reading.{◌>>!◌, Reading, number, signed, many}
use Rattle.block_reading.specs.declared.fault.BlockFault.{BlockFault}
use Rattle.block_reading.specs.declared.fault.BlockFault.TheVariants.{JobCut, BadCore, BadFraction, UnknownKind, OutOfRange, Cut}
use Rattle.block_reading.specs.declared.job.Job.{Job}
use Rattle.block_reading.specs.declared.job.Job.TheVariants.{Pair, Cells, Locate}

-- the greatest coordinate of a block, 2^41; the smallest is its negative
abbrev pub far_max : ℕ
far_max = 2199023255552

-- whether a coordinate lies between these two
abbrev pub is_near : ℤ → Bool
is_near z = int_le (neg_ℤ (pos far_max)) z && int_le z (pos far_max)

-- whether x / w does, w being at least 1
abbrev pub is_near_fraction : ℤ → ℤ → Bool
is_near_fraction x w = int_le (neg_ℤ (pos far_max *ℤ w)) x && int_le x (pos far_max *ℤ w)

-- whether two coordinates are the ends of a span, the lower one first
abbrev pub is_span : ℤ → ℤ → Bool
is_span low high = is_near low && (is_near high && int_le low high)

-- whether a core is a box within the coordinates
abbrev pub is_core : Core → Bool
is_core c = is_span c.low_x c.high_x && is_span c.low_y c.high_y

-- whether (x / w, y / w) is a point within the coordinates
abbrev pub is_fraction : ℤ → ℤ → ℤ → Bool
is_fraction x y w = int_le (pos 1) w && (is_near_fraction x w && is_near_fraction y w)

-- a number of 4 bytes in a job
abbrev pub word : ℕ → Reading ℕ
word at = number (JobCut at) 4

-- x, then y, of the point with a number
abbrev pub point : ℕ → Reading WholePoint
point at bytes =
    signed Cut bytes >>! λ x. signed Cut x.1 >>! λ y.
    if is_near x.0 && is_near y.0 then Ok (record { x = x.0; y = y.0 }, y.1) else Err (OutOfRange at)

-- x, y and w of the point (x / w, y / w) of a job
abbrev pub fraction : ℕ → Reading Point
fraction at bytes =
    signed (JobCut at) bytes >>! λ x. signed (JobCut at) x.1 >>! λ y. signed (JobCut at) y.1 >>! λ w.
    if is_fraction x.0 y.0 w.0 then Ok (record { x = x.0; y = y.0; w = w.0 }, w.1)
    else Err (BadFraction at)

-- the core of a job: its x from and to, its y from and to
abbrev pub core : ℕ → Reading Core
core at bytes =
    signed (JobCut at) bytes >>! λ a. signed (JobCut at) a.1 >>! λ b. signed (JobCut at) b.1 >>! λ c. signed (JobCut at) c.1 >>! λ d.
    if is_core (record { low_x = a.0; high_x = b.0; low_y = c.0; high_y = d.0 })
    then Ok (record { low_x = a.0; high_x = b.0; low_y = c.0; high_y = d.0 }, d.1) else Err (BadCore at)

abbrev pub member : ℕ → Reading Member
member at bytes = word at bytes >>! λ f. word at f.1 >>! λ l. Ok (record { feature = f.0; layer = l.0 }, l.1)

-- how many, and so many values of a job
abbrev pub counted : {A : Type 0} → (ℕ → Reading A) → ℕ → Reading (List A)
counted read at bytes = word at bytes >>! λ n. many (λ _. read at) 0 n.0 n.1

-- the features of layers for a core
abbrev pub cells_after : Core → ℕ → Reading Job
cells_after c at bytes = counted member at bytes >>! λ ms. Ok (Cells c ms.0, ms.1)

-- a job by the kind of its block: 0 the two features of a pair; 1 a core with features of layers; 2 points against a feature
abbrev pub job : ℕ → ℕ → Reading Job
job zero at bytes = word at bytes >>! λ a. word at a.1 >>! λ b. Ok (Pair a.0 b.0, b.1)
job (suc zero) at bytes = core at bytes >>! λ c. cells_after c.0 at c.1
job (suc (suc zero)) at bytes = word at bytes >>! λ f. counted fraction at f.1 >>! λ ps. Ok (Locate f.0 ps.0, ps.1)
job (suc (suc (suc kind))) at bytes = Err UnknownKind

-- whether a member names a feature and a layer that are there, of so many
abbrev pub is_member_known : ℕ → ℕ → Member → Bool
is_member_known features layers m = nat_lt m.feature features && nat_lt m.layer layers

-- whether a job does
abbrev pub is_job_known : ℕ → ℕ → Job → Bool
is_job_known features layers (Pair a b) = nat_lt a features && nat_lt b features
is_job_known features layers (Cells c ms) = list_all (λ m. is_member_known features layers m) ms
is_job_known features layers (Locate f ps) = nat_lt f features
