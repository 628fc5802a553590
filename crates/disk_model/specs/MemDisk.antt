-- What a disk in memory shows.
use Rattle.std.specs.Prelude.{ℕ, List}
use Rattle.disk_model.specs.declared.mem_disk.Call.{Call}
use Rattle.disk_model.specs.declared.mem_disk.MemDisk.{MemDisk}

-- the bytes that it was made with
abbrev pub first_of : MemDisk → List ℕ
first_of disk = disk.first.items

-- the bytes that a read gives
abbrev pub bytes_of : MemDisk → List ℕ
bytes_of disk = disk.bytes.items

-- the calls that were made on it and did not fail, the first of them first
abbrev pub calls_of : MemDisk → List Call
calls_of disk = disk.calls.items

-- how often it failed
abbrev pub failures_of : MemDisk → ℕ
failures_of disk = disk.failures
