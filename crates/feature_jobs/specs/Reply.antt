-- Replies to blocks, and their bytes; docs/FORMAT.md has them as a table.
use Rattle.std.specs.Prelude.{ℕ, zero, suc, ◌+◌, ◌/◌, ◌%◌, ◌==◌, min, List, [], ◌∷◌, ◌++◌, length, if◌then◌else◌}
use Rattle.byteorder.specs.Endian.{little_bytes}
use Rattle.feature_jobs.specs.Bytes.{small, words}

-- what a reply says: the kind of its rows, the flags of its block, the number of the fault for which the block is refused, or
-- 0, and the job at fault; then rows, rings and corners as bytes
pub record Reply : Type 0 where
  pub kind : ℕ
  pub flags : ℕ
  pub fault : ℕ
  pub job : ℕ
  pub rows : List ℕ
  pub rings : List ℕ
  pub corners : List ℕ

-- that a block is refused, with the job at fault
abbrev pub refused : ℕ → ℕ → Reply
refused fault job = record { kind = 0; flags = 0; fault = fault; job = job; rows = []; rings = []; corners = [] }

-- the number of no job
abbrev pub no_job : ℕ
no_job = 4294967295

-- how many bytes a row of a kind has: of a pair, of a core, of a point
abbrev pub row_size : ℕ → ℕ
row_size zero = 96
row_size (suc zero) = 48
row_size (suc (suc kind)) = 4

-- how many bytes a corner has, by a block's flags: a fraction, or two doubles
abbrev pub corner_size : ℕ → ℕ
corner_size flags = if flags / 2 % 2 == 1 then 48 else 16

-- how many bytes a reply has, as a number of 64 bits, or the greatest of these
abbrev pub length_of : Reply → ℕ
length_of r = min (52 + length r.rows + length r.rings + length r.corners) 18446744073709551615

-- the bytes before the rows
abbrev pub head_of : Reply → List ℕ
head_of r =
    little_bytes 8 (length_of r)
    ++ words (1380341327 ∷ 1 ∷ r.kind ∷ r.flags ∷ small (length r.rows / row_size r.kind) ∷ small (length r.rings / 16)
    ∷ small (length r.corners / corner_size r.flags) ∷ r.fault ∷ r.job ∷ 0 ∷ [])

-- the whole: the head, the rows, the rings, the corners, the end mark
abbrev pub bytes_of : Reply → List ℕ
bytes_of r = (((head_of r ++ r.rows) ++ r.rings) ++ r.corners) ++ little_bytes 4 1162237519
