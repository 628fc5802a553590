use Rattle.std.proofs.Common.{◌≡◌, ◌++◌, length, take}
use Rattle.std.specs.List.{flat_map}
use Rattle.byteorder.specs.Endian.{big_bytes}
use Rattle.store_terms.specs.BaseRecord.{whole_point}
use Rattle.record_writing.proofs.base_writing.put_ring.Given as goal

abbrev pub invariant-loop-point : goal.invariant-loop-point
invariant-loop-point l =
    l.out.items ≡ (l.fn.out.items ++ big_bytes 2 (length l.points))
    ++ flat_map whole_point.text (take l.point-index l.points)
