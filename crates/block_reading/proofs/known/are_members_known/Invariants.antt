use Rattle.std.proofs.Common.{◌≡◌, drop}
use Rattle.std.specs.List.{list_all}
use Rattle.block_reading.specs.Jobs.{is_member_known}
use Rattle.block_reading.proofs.known.are_members_known.Given as goal

-- all are known where all that are left are
abbrev pub invariant-loop-member : goal.invariant-loop-member
invariant-loop-member l =
    list_all (λ m. is_member_known l.features l.layers m) l.members ≡ list_all (λ m. is_member_known l.features l.layers m) (drop l.member-index l.members)
