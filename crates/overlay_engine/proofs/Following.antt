-- What each step makes of the version and the store, whatever the disk does.
use Rattle.std.proofs.Common.{◌≡◌, ◌⊎◌, inl, inr, ◌≤◌, ℕ, [], ◌∷◌, sym, ap, subst, arith}
use Rattle.disk_model.specs.declared.disk.Disk.{Ghosts}
use Rattle.overlay_terms.specs.Histories.{Version, Event, accepted, kept, durable_to, Follows}
use Rattle.overlay_terms.specs.KeptLaws.{IsExact}
use Rattle.overlay_terms.proofs.BatchLemmas.{one_follows_alike}
use Rattle.layer_book.specs.Command.{command}
use Rattle.root_store.specs.Running.{KeepsTo}
use Rattle.flush_core.specs.declared.flusher.Flusher.{Flusher}
use Rattle.overlay_engine.specs.declared.engine.Engine.{Engine}
use Rattle.overlay_engine.specs.declared.step.Step.{Step}
use Rattle.overlay_engine.specs.declared.step.Step.TheVariants.{Submit, SubmitAll, Take, Finish, Device, Report}
use Rattle.overlay_engine.specs.declared.step.Reply.{Reply}
use Rattle.overlay_engine.specs.declared.step.Reply.TheVariants.{Accepted, Refused, RefusedAt, Taken, NoJob, Kept, Stale, Going, Done, Durable}
use Rattle.overlay_engine.specs.Acts.{Acts}
use Rattle.overlay_engine.specs.Counting.{calls_asked}
use Rattle.overlay_engine.proofs.Covering.{exact_after}
use Rattle.overlay_engine.proofs.Surviving.{device_version}

-- a version stays, or follows by what is published
abbrev pub GoesOn : Version → Version → Type 0
GoesOn old new = (new ≡ old) ⊎ ((event : Event) × Follows old event new)

-- and the store stays, but for a device step
abbrev pub Makes : {D : Type 0} {g : Ghosts D} → Step → Engine D g → Engine D g → Type 0
Makes step old new = GoesOn old.version new.version × (calls_asked step ≡ 0 → new.flusher ≡ old.flusher)

module _ {D : Type 0} (g : Ghosts D) where
  all_same : (step : Step) (old new : Engine D g) → new ≡ old → Makes step old new
  all_same step old new same = (inl (ap (λ (e : Engine D g). e.version) same), λ none. ap (λ (e : Engine D g). e.flusher) same)

  pub makes : (step : Step) (old : Engine D g) (reply : Reply) (new : Engine D g) → Acts g step old reply new → Makes step old new
  makes (Submit change) old (Accepted number) new acts = (inr (accepted 0 (command change ∷ []), (one_follows_alike old.version new.version (command change)).1 acts.0), λ none. ap (λ (e : Engine D g). e.flusher) acts.2)
  makes (Submit change) old (Refused code) new acts = all_same (Submit change) old new acts.1
  makes (Submit change) old (Taken number) new acts = absurd acts
  makes (Submit change) old NoJob new acts = absurd acts
  makes (Submit change) old Kept new acts = absurd acts
  makes (Submit change) old Stale new acts = absurd acts
  makes (Submit change) old (RefusedAt place code) new acts = absurd acts
  makes (Submit change) old Going new acts = absurd acts
  makes (Submit change) old (Done number) new acts = absurd acts
  makes (Submit change) old (Durable number) new acts = absurd acts
  makes (SubmitAll batch) old (Accepted number) new acts = (inr (accepted 0 batch, acts.0), λ none. ap (λ (e : Engine D g). e.flusher) acts.2)
  makes (SubmitAll batch) old (Refused code) new acts = all_same (SubmitAll batch) old new acts.1
  makes (SubmitAll batch) old (RefusedAt place code) new acts = all_same (SubmitAll batch) old new acts.1
  makes (SubmitAll batch) old (Taken number) new acts = absurd acts
  makes (SubmitAll batch) old NoJob new acts = absurd acts
  makes (SubmitAll batch) old Kept new acts = absurd acts
  makes (SubmitAll batch) old Stale new acts = absurd acts
  makes (SubmitAll batch) old Going new acts = absurd acts
  makes (SubmitAll batch) old (Done number) new acts = absurd acts
  makes (SubmitAll batch) old (Durable number) new acts = absurd acts
  makes (Take name column) old (Taken number) new acts = (inl acts.2.version, λ none. acts.2.flusher)
  makes (Take name column) old NoJob new acts = all_same (Take name column) old new acts.2
  makes (Take name column) old (Refused code) new acts = (inl acts.2.version, λ none. acts.2.flusher)
  makes (Take name column) old (Accepted number) new acts = absurd acts
  makes (Take name column) old Kept new acts = absurd acts
  makes (Take name column) old Stale new acts = absurd acts
  makes (Take name column) old (RefusedAt place code) new acts = absurd acts
  makes (Take name column) old Going new acts = absurd acts
  makes (Take name column) old (Done number) new acts = absurd acts
  makes (Take name column) old (Durable number) new acts = absurd acts
  makes (Finish job) old Kept new (held, gives, (awaited, tile, follows)) = (inr (kept held.name held.input.column tile, follows), λ none. gives.flusher)
  makes (Finish job) old Stale new (held, gives, stale, same) = (inl same, λ none. gives.flusher)
  makes (Finish job) old NoJob new acts = all_same (Finish job) old new acts.1
  makes (Finish job) old (Refused code) new acts = all_same (Finish job) old new acts.2
  makes (Finish job) old (Accepted number) new acts = absurd acts
  makes (Finish job) old (RefusedAt place code) new acts = absurd acts
  makes (Finish job) old (Taken number) new acts = absurd acts
  makes (Finish job) old Going new acts = absurd acts
  makes (Finish job) old (Done number) new acts = absurd acts
  makes (Finish job) old (Durable number) new acts = absurd acts
  makes Device old reply new acts = (inl (device_version g old reply new acts), λ none. absurd (omega (arith, none)))
  makes Report old (Durable number) new (inl follows, reported, same) = (inr (durable_to old.flusher.commit.root.version, follows), λ none. ap (λ (e : Engine D g). e.flusher) same)
  makes Report old (Durable number) new (inr stays, reported, same) = (inl stays.same, λ none. ap (λ (e : Engine D g). e.flusher) same)
  makes Report old (Refused code) new acts = all_same Report old new acts.1
  makes Report old (Accepted number) new acts = absurd acts
  makes Report old (Taken number) new acts = absurd acts
  makes Report old NoJob new acts = absurd acts
  makes Report old Kept new acts = absurd acts
  makes Report old Stale new acts = absurd acts
  makes Report old (RefusedAt place code) new acts = absurd acts
  makes Report old Going new acts = absurd acts
  makes Report old (Done number) new acts = absurd acts

  -- right tiles stay right
  pub acts_exact : (step : Step) (old : Engine D g) (reply : Reply) (new : Engine D g) → Acts g step old reply new → IsExact old.version → IsExact new.version
  acts_exact step old reply new acts exact = kept_exact (makes step old reply new acts).0 where
    kept_exact : GoesOn old.version new.version → IsExact new.version
    kept_exact (inl same) = subst IsExact (sym same) exact
    kept_exact (inr (event, follows)) = exact_after old.version new.version event follows exact

  -- a step that asks for no device call keeps the store, and so the blocks that its file may have
  pub acts_keep : (step : Step) (old : Engine D g) (reply : Reply) (new : Engine D g) → Acts g step old reply new → calls_asked step ≡ 0 → (limit : ℕ) → KeepsTo limit old.flusher.commit → KeepsTo limit new.flusher.commit
  acts_keep step old reply new acts none limit keeps = subst (λ (f : Flusher D g). KeepsTo limit f.commit) (sym ((makes step old reply new acts).1 none)) keeps

  -- the durable number never falls
  pub durable_rises : (step : Step) (old : Engine D g) (reply : Reply) (new : Engine D g) → Acts g step old reply new → old.version.durable ≤ new.version.durable
  durable_rises step old reply new acts = risen (makes step old reply new acts).0 where
    risen : GoesOn old.version new.version → old.version.durable ≤ new.version.durable
    risen (inl same) = omega (arith, ap (λ (v : Version). v.durable) same)
    risen (inr (accepted session batch, follows)) = omega (arith, follows.durable)
    risen (inr (kept name column tile, follows)) = omega (arith, follows.durable)
    risen (inr (durable_to number, follows)) = omega (arith, follows.durable, follows.risen)
