-- Blocks of a file.
use Rattle.std.specs.Prelude.{ℕ, ◌+◌, ◌-◌, ◌/◌, max}

-- how many bytes a block has
abbrev pub block_size : ℕ
block_size = 4096

-- the blocks that so many bytes take: no record takes none
abbrev pub blocks : ℕ → ℕ
blocks size = max 1 ((size + (block_size - 1)) / block_size)
