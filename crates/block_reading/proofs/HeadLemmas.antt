-- A head that is held, and one that is refused.
use Rattle.std.proofs.Common.{◌≡◌, ℕ, ◌≤◌, ◌<◌, false, nat_lt, List, length, drop, Result, Ok, Err, ap, arith}
use Rattle.block_reading.specs.Answers.{Fails}
use Rattle.block_reading.specs.declared.fault.BlockFault.{BlockFault}
use Rattle.block_reading.specs.declared.fault.ReadFault.{ReadFault}
use Rattle.block_reading.specs.declared.fault.ReadFault.TheVariants.{OutOfMemory, Refused}
use Rattle.block_reading.specs.declared.head.Head.{Head}
use Rattle.block_reading.specs.Reading.{◌>>!◌}
use Rattle.block_reading.specs.Block.{head, head_of, head_held}

long : (bytes : List ℕ) → 56 ≤ length bytes → nat_lt (length bytes) 56 ≡ false
long bytes h = grind arith

-- what is read of bytes that a head has room in
pub head_is : (bytes : List ℕ) (read : Result Head BlockFault) → 56 ≤ length bytes → head_held (head_of bytes) (length bytes) ≡ read
    → head bytes ≡ (read >>! λ h. Ok (h, drop 56 bytes))
head_is bytes read h e = rw (long bytes h) (ap (λ (r : Result Head BlockFault). r >>! λ x. Ok (x, drop 56 bytes)) e)

pub head_fails : (bytes : List ℕ) (fault : ReadFault) → 56 ≤ length bytes → Fails fault (head_held (head_of bytes) (length bytes)) → Fails fault (head bytes)
head_fails bytes OutOfMemory h given = tt
head_fails bytes (Refused fault) h given = head_is bytes (Err fault) h given
