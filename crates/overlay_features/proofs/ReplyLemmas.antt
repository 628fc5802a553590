-- Replies to what some bytes spell.
use Rattle.std.proofs.Common.{◌≡◌, ℕ, List, Result, Ok, Err, sym, subst}
use Rattle.block_reading.specs.Block.{Block, block_of}
use Rattle.block_reading.specs.Fault.{code_of as refusal_of, job_of}
use Rattle.block_reading.specs.declared.fault.BlockFault.{BlockFault}
use Rattle.feature_jobs.specs.Reply.{Reply, refused}
use Rattle.feature_jobs.specs.Answers.{IsSpelled, IsReply, IsReplyOf, points_reply, job_number}

-- to a block
pub answered_so : (bytes : List ℕ) (b : Block) (reply : Reply) → block_of bytes ≡ Ok b → IsReply b reply
    → (IsSpelled b → b.head.kind ≡ 2 → reply ≡ points_reply b) → IsReplyOf (block_of bytes) reply
answered_so bytes b reply e is points =
    subst (λ (r : Result Block BlockFault). IsReplyOf r reply) (sym e) (is, points (bytes, e))

-- to what is none
pub refused_so : (bytes : List ℕ) (fault : BlockFault) (reply : Reply) → block_of bytes ≡ Err fault
    → reply ≡ refused (refusal_of fault) (job_number (job_of fault)) → IsReplyOf (block_of bytes) reply
refused_so bytes fault reply e is = subst (λ (r : Result Block BlockFault). IsReplyOf r reply) (sym e) is
