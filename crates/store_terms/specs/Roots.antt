-- Roots, and the bodies of the slots that name them.
use Rattle.std.specs.Prelude.{ℕ, ◌^◌, ◌==◌, true, List, ◌++◌, take, drop, codes, bytes_eq, if◌then◌else◌}
use Rattle.byteorder.specs.Endian.{big_number, big_bytes}
use Rattle.store_terms.specs.declared.root.Root.{Root}
use Rattle.store_terms.specs.declared.root.Body.{Body}

-- the bytes that each body begins with
abbrev pub magic : List ℕ
magic = codes "OVLSTORE"

-- the number of the file's format
abbrev pub format_number : ℕ
format_number = 2

-- that of files whose columns are other ones, which are read too
abbrev pub old_format : ℕ
old_format = 1

-- the number of a root's format
abbrev pub format_of : Root → ℕ
format_of r = if r.is_old then old_format else format_number

-- how many bytes a body has
abbrev pub body_size : ℕ
body_size = 48

-- how many bytes of a body are read; those after them are zeros
abbrev pub body_read : ℕ
body_read = 40

-- the body of a slot: magic, format, the numbers of the root, and zeros that are not read
abbrev pub body_text : Root → List ℕ
body_text r =
    magic ++ (big_bytes 4 (format_of r) ++ (big_bytes 8 r.sequence ++ (big_bytes 8 r.version ++ (big_bytes 8 r.catalog.block ++ (big_bytes 4 r.catalog.size ++ big_bytes 8 0)))))

-- what the bytes of a body that are read say, whether it is ours or not
unfoldable pub body_in : List ℕ → Body
body_in bytes = record {
  is_ours = bytes_eq (take 8 bytes) magic;
  format = big_number 4 (drop 8 bytes);
  root = record { is_old = (big_number 4 (drop 8 bytes) == old_format); sequence = big_number 8 (drop 12 bytes); version = big_number 8 (drop 20 bytes); catalog = record { block = big_number 8 (drop 28 bytes); size = big_number 4 (drop 36 bytes) } };
}

-- the body of a root of ours
abbrev pub ours : Root → Body
ours r = record { is_ours = true; format = format_of r; root = r }

-- the greatest number of a commit
abbrev pub sequence_max : ℕ
sequence_max = 2 ^ 62
