use Rattle.std.proofs.Common.{◌≡◌, drop}
use Rattle.store_terms.specs.Listing.{entries_of}
use Rattle.commit_plan.specs.Staying.{records_named}
use Rattle.commit_plan.proofs.live_records.records_named.Given as goal

-- the name is not among those so far
abbrev pub invariant-loop-listed : goal.invariant-loop-listed
invariant-loop-listed l =
    records_named (entries_of l.listing) l.name ≡ records_named (entries_of (drop l.listed-index l.listing)) l.name
