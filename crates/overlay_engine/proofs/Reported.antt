-- What the answers of a run say.
use Rattle.std.proofs.Common.{◌≡◌, inl, inr, ℕ, List, [], ◌∷◌, ◌++◌, sym, ◌∙◌, ap, subst}
use Rattle.disk_model.specs.declared.disk.Disk.{Ghosts}
use Rattle.overlay_terms.specs.Histories.{Version}
use Rattle.overlay_engine.specs.declared.engine.Engine.{Engine}
use Rattle.overlay_engine.specs.declared.step.Step.{Step}
use Rattle.overlay_engine.specs.declared.step.Step.TheVariants.{Submit, SubmitAll, Take, Finish, Device, Report}
use Rattle.overlay_engine.specs.declared.step.Reply.{Reply}
use Rattle.overlay_engine.specs.declared.step.Reply.TheVariants.{Accepted, Refused, RefusedAt, Taken, NoJob, Kept, Stale, Going, Done, Durable}
use Rattle.overlay_engine.specs.Acts.{Acts}
use Rattle.overlay_engine.specs.Devices.{Calls, Devices}
use Rattle.overlay_engine.specs.Runs.{Made, EachFollows}
use Rattle.overlay_engine.specs.RunReplies.{HasNumber, next_after, Numbered, reported_after, last_reported, JobsAreNumbered, DurableIsLastReported, CrashKeepsReported}

-- what a reply says of the numbers before and after its step
abbrev Tells : ℕ → ℕ → Reply → ℕ → ℕ → Type 0
Tells job durable reply next now = HasNumber job reply × (next ≡ next_after job reply) × (now ≡ reported_after durable reply)

module _ {D : Type 0} (g : Ghosts D) where
  abbrev TellsOf : Engine D g → Reply → Engine D g → Type 0
  TellsOf old reply new = Tells old.next_job old.version.durable reply new.next_job new.version.durable

  job_of : (old new : Engine D g) → new ≡ old → new.next_job ≡ old.next_job
  job_of old new same = ap (λ (e : Engine D g). e.next_job) same

  durable_of : (old new : Engine D g) → new ≡ old → new.version.durable ≡ old.version.durable
  durable_of old new same = ap (λ (e : Engine D g). e.version.durable) same

  -- engines with the same numbers
  from : (old mid new : Engine D g) (reply : Reply) → mid.next_job ≡ old.next_job → mid.version.durable ≡ old.version.durable → TellsOf mid reply new → TellsOf old reply new
  from old mid new reply job durable tells =
      subst (λ (d : ℕ). Tells old.next_job d reply new.next_job new.version.durable) durable
      (subst (λ (j : ℕ). Tells j mid.version.durable reply new.next_job new.version.durable) job tells)

  called_tells : (old : Engine D g) (reply : Reply) (new : Engine D g) → Calls g old reply new → TellsOf old reply new
  called_tells old Going new calls = (tt, ap (λ (e : Engine D g). e.next_job) calls.2, ap (λ (e : Engine D g). e.version.durable) calls.2)
  called_tells old (Done number) new calls = (tt, ap (λ (e : Engine D g). e.next_job) calls.2, ap (λ (e : Engine D g). e.version.durable) calls.2)
  called_tells old (Refused code) new calls = (tt, ap (λ (e : Engine D g). e.next_job) calls.4, ap (λ (e : Engine D g). e.version.durable) calls.4)
  called_tells old (Accepted number) new calls = absurd calls
  called_tells old (Taken number) new calls = absurd calls
  called_tells old NoJob new calls = absurd calls
  called_tells old Kept new calls = absurd calls
  called_tells old Stale new calls = absurd calls
  called_tells old (RefusedAt place code) new calls = absurd calls
  called_tells old (Durable number) new calls = absurd calls

  device_tells : (old : Engine D g) (reply : Reply) (new : Engine D g) → Devices g old reply new → TellsOf old reply new
  device_tells old reply new (inl (busy, calls)) = called_tells old reply new calls
  device_tells old reply new (inr (inl (idle, mid, begins, calls))) =
      from old mid new reply (ap (λ (e : Engine D g). e.next_job) begins.rest) (ap (λ (e : Engine D g). e.version.durable) begins.rest) (called_tells mid reply new calls)
  device_tells old reply new (inr (inr (idle, not_begun))) =
      subst (λ (r : Reply). TellsOf old r new) (sym not_begun.says) (tt, job_of old new not_begun.same, durable_of old new not_begun.same)

  acts_tell : (step : Step) (old : Engine D g) (reply : Reply) (new : Engine D g) → Acts g step old reply new → TellsOf old reply new
  acts_tell (Submit change) old (Accepted number) new acts = (tt, ap (λ (e : Engine D g). e.next_job) acts.2, acts.0.durable)
  acts_tell (Submit change) old (Refused code) new acts = (tt, job_of old new acts.1, durable_of old new acts.1)
  acts_tell (Submit change) old (Taken number) new acts = absurd acts
  acts_tell (Submit change) old NoJob new acts = absurd acts
  acts_tell (Submit change) old Kept new acts = absurd acts
  acts_tell (Submit change) old Stale new acts = absurd acts
  acts_tell (Submit change) old (RefusedAt place code) new acts = absurd acts
  acts_tell (Submit change) old Going new acts = absurd acts
  acts_tell (Submit change) old (Done number) new acts = absurd acts
  acts_tell (Submit change) old (Durable number) new acts = absurd acts
  acts_tell (SubmitAll batch) old (Accepted number) new acts = (tt, ap (λ (e : Engine D g). e.next_job) acts.2, acts.0.durable)
  acts_tell (SubmitAll batch) old (Refused code) new acts = (tt, job_of old new acts.1, durable_of old new acts.1)
  acts_tell (SubmitAll batch) old (RefusedAt place code) new acts = (tt, job_of old new acts.1, durable_of old new acts.1)
  acts_tell (SubmitAll batch) old (Taken number) new acts = absurd acts
  acts_tell (SubmitAll batch) old NoJob new acts = absurd acts
  acts_tell (SubmitAll batch) old Kept new acts = absurd acts
  acts_tell (SubmitAll batch) old Stale new acts = absurd acts
  acts_tell (SubmitAll batch) old Going new acts = absurd acts
  acts_tell (SubmitAll batch) old (Done number) new acts = absurd acts
  acts_tell (SubmitAll batch) old (Durable number) new acts = absurd acts
  acts_tell (Take name column) old (Taken number) new acts = (acts.2.next, acts.2.risen, ap (λ (v : Version). v.durable) acts.2.version)
  acts_tell (Take name column) old NoJob new acts = (tt, job_of old new acts.2, durable_of old new acts.2)
  acts_tell (Take name column) old (Refused code) new acts = (tt, acts.2.next_job, ap (λ (v : Version). v.durable) acts.2.version)
  acts_tell (Take name column) old (Accepted number) new acts = absurd acts
  acts_tell (Take name column) old Kept new acts = absurd acts
  acts_tell (Take name column) old Stale new acts = absurd acts
  acts_tell (Take name column) old (RefusedAt place code) new acts = absurd acts
  acts_tell (Take name column) old Going new acts = absurd acts
  acts_tell (Take name column) old (Done number) new acts = absurd acts
  acts_tell (Take name column) old (Durable number) new acts = absurd acts
  acts_tell (Finish job) old Kept new (held, gives, (awaited, tile, follows)) = (tt, gives.next_job, follows.durable)
  acts_tell (Finish job) old Stale new (held, gives, stale, same) = (tt, gives.next_job, ap (λ (v : Version). v.durable) same)
  acts_tell (Finish job) old NoJob new acts = (tt, job_of old new acts.1, durable_of old new acts.1)
  acts_tell (Finish job) old (Refused code) new acts = (tt, job_of old new acts.2, durable_of old new acts.2)
  acts_tell (Finish job) old (Accepted number) new acts = absurd acts
  acts_tell (Finish job) old (RefusedAt place code) new acts = absurd acts
  acts_tell (Finish job) old (Taken number) new acts = absurd acts
  acts_tell (Finish job) old Going new acts = absurd acts
  acts_tell (Finish job) old (Done number) new acts = absurd acts
  acts_tell (Finish job) old (Durable number) new acts = absurd acts
  acts_tell Device old reply new acts = device_tells old reply new acts
  acts_tell Report old (Durable number) new (reports, durable, same) = (tt, ap (λ (e : Engine D g). e.next_job) same, sym durable)
  acts_tell Report old (Refused code) new acts = (tt, job_of old new acts.1, durable_of old new acts.1)
  acts_tell Report old (Accepted number) new acts = absurd acts
  acts_tell Report old (Taken number) new acts = absurd acts
  acts_tell Report old NoJob new acts = absurd acts
  acts_tell Report old Kept new acts = absurd acts
  acts_tell Report old Stale new acts = absurd acts
  acts_tell Report old (RefusedAt place code) new acts = absurd acts
  acts_tell Report old Going new acts = absurd acts
  acts_tell Report old (Done number) new acts = absurd acts

  -- of the engine that the step before left
  joined : (made : Made D g) (old : Engine D g) → made.old ≡ old → Acts g made.step made.old made.reply made.new → TellsOf old made.reply made.new
  joined made old joins acts = from old made.old made.new made.reply (job_of old made.old joins) (durable_of old made.old joins) (acts_tell made.step made.old made.reply made.new acts)

  pub jobs_are_numbered : JobsAreNumbered g
  jobs_are_numbered old [] new leads = tt
  jobs_are_numbered old (made ∷ run) new (joins, acts, leads) =
      let t = joined made old joins acts in
      (t.0, subst (λ (n : ℕ). Numbered n run) t.1 (jobs_are_numbered made.new run new leads))

  pub durable_is_last_reported : DurableIsLastReported g
  durable_is_last_reported old [] new same = durable_of old new same
  durable_is_last_reported old (made ∷ run) new (joins, acts, leads) =
      let t = joined made old joins acts in
      durable_is_last_reported made.new run new leads ∙ ap (λ (n : ℕ). last_reported n run) t.2

  -- the first steps of a run
  first_steps : (before after : List (Made D g)) (made : Made D g) (old new : Engine D g) → EachFollows g old (before ++ made ∷ after) new → EachFollows g old before made.old
  first_steps [] after made old new (joins, acts, leads) = joins
  first_steps (one ∷ before) after made old new (joins, acts, leads) = (joins, acts, first_steps before after made one.new new leads)

  pub crash_keeps_reported : CrashKeepsReported g
  crash_keeps_reported old run new disk leads crash =
      durable_is_last_reported old crash.before crash.made.old
      (first_steps crash.before crash.after crash.made old new (subst (λ (r : List (Made D g)). EachFollows g old r new) crash.among leads))
