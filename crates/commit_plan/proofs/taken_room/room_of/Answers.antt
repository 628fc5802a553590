use Rattle.std.proofs.Common.{◌∷◌, refl, sym, subst, rules}
use Rattle.extent_map.specs.Taken.{taken_of}
use Rattle.store_terms.specs.Listing.{entries_of}
use Rattle.store_terms.specs.Places.{extents_listed}
use Rattle.root_reading.specs.RootRuns.{AreRunsFor}
use Rattle.root_reading.proofs.RootRunsLemmas.{room_taken, room_apart, room_overlap}
use Rattle.commit_plan.proofs.HeldApart.{held_apart}
use Rattle.commit_plan.proofs.taken_room.room_of.Goals as goal

pub returns-in-Ok-clause-room : goal.returns-in-Ok-clause-room
returns-in-Ok-clause-room c =
    let es = c.args.catalog ∷ extents_listed (entries_of c.args.listing.now) in
    let runs = subst (AreRunsFor es) (sym c.deref.ensures.value) c.in_ok-runs.ensures in
    record {
      taken = λ near. room_taken es c.deref.result.now (taken_of c.in-Ok.room.map) near runs c.in-Ok.ensures.taken;
      reads = λ near held. room_apart es c.deref.result.now held near runs (c.in-Ok.ensures.apart refl);
      errors = search rules;
      limit = search rules;
    }

pub returns-in-Err-Overlap-clause-room : goal.returns-in-Err-Overlap-clause-room
returns-in-Err-Overlap-clause-room c =
    let es = c.args.catalog ∷ extents_listed (entries_of c.args.listing.now) in
    let runs = subst (AreRunsFor es) (sym c.deref.ensures.value) c.in_ok-runs.ensures in
    let overlap = rw c.in-Err-Overlap.field-0-is at c.in-Err-Overlap.ensures.overlap in
    record {
      taken = search rules;
      reads = λ near held. room_overlap es c.deref.result.now held near runs (overlap refl);
      errors = search rules;
      limit = search rules;
    }

pub returns-in-Ok-clause-apart : goal.returns-in-Ok-clause-apart
returns-in-Ok-clause-apart c =
    let es = extents_listed (entries_of c.args.listing.now) in
    held_apart c.args.catalog es c.deref.result.now (taken_of c.in-Ok.room.map)
    (subst (AreRunsFor (c.args.catalog ∷ es)) (sym c.deref.ensures.value) c.in_ok-runs.ensures) (c.in-Ok.ensures.apart refl)
    c.in-Ok.ensures.taken
