-- Through steps, crashes and recoveries nothing is lost that was durable.
use Rattle.std.proofs.Common.{◌⊎◌, inl, inr, ℕ, ◌-◌, ◌≤◌, List, [], ◌∷◌, length, take, refl, sym, ◌∙◌, ap, subst, arith}
use Rattle.std.proofs.lemmas.List.{take-take, take-append-le}
use Rattle.std.specs.List.{AllByRecursion}
use Rattle.disk_model.specs.declared.disk.Disk.{Ghosts}
use Rattle.disk_model.specs.Moments.{Leaves}
use Rattle.overlay_terms.specs.Batches.{Batch}
use Rattle.overlay_engine.specs.Start.{Start, up_to}
use Rattle.overlay_engine.specs.Covers.{Covered, Covers}
use Rattle.overlay_engine.specs.Acts.{accepted_by}
use Rattle.overlay_engine.specs.Lives.{Stage, IsCovered, StepsTo, TriesTo, CrashesTo, Lives, StillStands, NothingIsLost}
use Rattle.overlay_engine.proofs.Following.{durable_rises}

module _ {D : Type 0} (g : Ghosts D) (start : Start) where
  -- the batches up to what is durable are there
  durable_there : (stage : Stage D g) → IsCovered g start stage → stage.engine.version.durable - start.number ≤ length stage.batches
  durable_there stage covered = omega (arith, covered.reported, covered.stored, covered.number)

  over_a_step : (old new : Stage D g) → StepsTo g start old new → IsCovered g start old → StillStands g start old new
  over_a_step old new steps covered =
      let d = old.engine.version.durable - start.number in
      record {
        covered = subst (Covers g start new.engine.flusher new.engine.version) (sym steps.batches) (steps.survives covered).covers;
        durable = durable_rises g steps.step old.engine steps.reply new.engine steps.acts;
        same = ap (up_to start old.engine.version.durable) steps.batches ∙ take-append-le d old.batches (accepted_by steps.step steps.reply) (durable_there old covered);
      }

  -- what a recovery that is stopped leaves is as old as what was there
  tried : (least : ℕ) (batches : List Batch) (disk : D) (more : List D) (last : D) → TriesTo g start disk more last
      → Leaves g disk (Covered start least batches) → Leaves g last (Covered start least batches)
  tried least batches disk [] last same all = subst (λ (d : D). Leaves g d (Covered start least batches)) (sym same) all
  tried least batches disk (next ∷ more) last (tries, later) all =
      tried least batches next more last later (λ c left. (tries.moments least batches all).each c (tries.leaves c left))

  over_a_crash : (old new : Stage D g) → CrashesTo g start old new → IsCovered g start old → StillStands g start old new
  over_a_crash old new crash covered =
      let least = old.engine.version.durable in
      let left : Leaves g crash.disk (Covered start least old.batches) = (λ c left. (crash.survives covered).moments.each c (crash.leaves c left)) in
      let is = crash.recovered least old.batches (tried least old.batches crash.disk crash.tried crash.last crash.tries left) in
      let number = new.engine.version.number in
      record {
        covered = subst (Covers g start new.engine.flusher new.engine.version) (sym crash.batches) is.covers;
        durable = omega (arith, is.no_less, is.durable);
        same = ap (up_to start least) crash.batches ∙ take-take (least - start.number) (number - start.number) old.batches (omega (arith, is.no_less));
      }

  onward : (a b c : Stage D g) → StillStands g start a b → StillStands g start b c → StillStands g start a c
  onward a b c first next =
      let d = a.engine.version.durable - start.number in
      let e = b.engine.version.durable - start.number in
      let within : d ≤ e = omega (arith, first.durable) in
      record {
        covered = next.covered;
        durable = omega (arith, first.durable, next.durable);
        same = sym (take-take d e c.batches within) ∙ ap (λ (l : List Batch). take d l) next.same ∙ take-take d e b.batches within ∙ first.same;
      }

  over_one : (old new : Stage D g) → StepsTo g start old new ⊎ CrashesTo g start old new → IsCovered g start old → StillStands g start old new
  over_one old new (inl steps) covered = over_a_step old new steps covered
  over_one old new (inr crash) covered = over_a_crash old new crash covered

  -- what a stage keeps is kept on
  kept_on : (first stage : Stage D g) (later : List (Stage D g)) → StillStands g start first stage → Lives g start stage later → AllByRecursion (StillStands g start first) later
  kept_on first stage [] keeps lives = tt
  kept_on first stage (next ∷ more) keeps (one, lives) =
      let on = onward first stage next keeps (over_one stage next one keeps.covered) in
      (on, kept_on first next more on lives)

  pub nothing_is_lost : NothingIsLost g start
  nothing_is_lost stage later covered lives =
      kept_on stage stage later (record { covered = covered; durable = omega arith; same = refl }) lives
