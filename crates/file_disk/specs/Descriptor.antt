-- The number of a disk's file.
use Rattle.std.specs.Prelude.{◌≤ℤ◌, pos}
use Rattle.std.specs.Fd.{file_raw_fd}
use Rattle.file_disk.specs.declared.file_disk.OpenFile.{OpenFile}
use Rattle.file_disk.specs.declared.guarded_disk.GuardedDisk.{GuardedDisk}

-- it is none of the three of the standard streams
abbrev pub IsOwn : GuardedDisk OpenFile → Type 0
IsOwn disk = pos 3 ≤ℤ file_raw_fd disk.disk.file
