use Rattle.std.proofs.Common.{◌≡◌, ◌++◌, length, take}
use Rattle.std.specs.List.{flat_map}
use Rattle.byteorder.specs.Endian.{big_bytes}
use Rattle.store_terms.specs.BaseRecord.{ring}
use Rattle.record_writing.proofs.base_writing.write_base.Given as goal

abbrev pub invariant-loop-ring : goal.invariant-loop-ring
invariant-loop-ring l = l.out.items ≡ big_bytes 2 (length l.rings) ++ flat_map ring.text (take l.ring-index l.rings)
