-- A whole commit leaves the version with which it began.
use Rattle.std.proofs.Common.{◌≡◌, inl, inr, List, [], ◌∷◌, ◌++◌, refl, sym, ap, subst}
use Rattle.std.specs.List.{AllByRecursion}
use Rattle.disk_model.specs.declared.disk.Disk.{Ghosts}
use Rattle.disk_model.specs.Moments.{Leaves}
use Rattle.overlay_terms.specs.Histories.{Version}
use Rattle.commit_plan.specs.Kept.{Kept}
use Rattle.root_store.specs.Running.{StoreStandsFor}
use Rattle.flush_core.specs.declared.flusher.Flusher.{Flusher}
use Rattle.overlay_engine.specs.declared.engine.Engine.{Engine}
use Rattle.overlay_engine.specs.declared.step.Step.{Step}
use Rattle.overlay_engine.specs.declared.step.Step.TheVariants.{Submit, SubmitAll, Take, Finish, Device, Report}
use Rattle.overlay_engine.specs.declared.step.Reply.{Reply}
use Rattle.overlay_engine.specs.declared.step.Reply.TheVariants.{Going, Done}
use Rattle.overlay_engine.specs.Acts.{Acts}
use Rattle.overlay_engine.specs.Committing.{IsFileOf, RestsWith, Commits, Committed, CommitsJust}
use Rattle.overlay_engine.specs.Counting.{CommitLeaves}
use Rattle.overlay_engine.specs.Runs.{Made, EachFollows, EachCommits}
use Rattle.overlay_engine.proofs.Counted.{leads_between, leads_to}
use Rattle.overlay_engine.proofs.Following.{makes}

module _ {D : Type 0} (g : Ghosts D) where
  -- a step that does not ask for the device leaves the store
  stays : (x : Kept) (version : Version) (old new : Engine D g) → new.flusher ≡ old.flusher → Commits g old.flusher x version → Commits g new.flusher x version
  stays x version old new same commits = subst (λ (f : Flusher D g). Commits g f x version) (sym same) commits

  -- a step that does not end the commit of a version goes on with it
  goes : (x : Kept) (version : Version) (step : Step) (old : Engine D g) (reply : Reply) (new : Engine D g) → (step ≡ Device → reply ≡ Going)
      → Acts g step old reply new → CommitsJust g old reply new → Commits g old.flusher x version → Commits g new.flusher x version
  goes x version Device old reply new goes_on acts just commits =
      subst (λ (r : Reply). Committed g x version r new.flusher) (goes_on refl) (just x version (inl commits)).1
  goes x version (Submit change) old reply new goes_on acts just commits = stays x version old new ((makes g (Submit change) old reply new acts).1 refl) commits
  goes x version (SubmitAll batch) old reply new goes_on acts just commits = stays x version old new ((makes g (SubmitAll batch) old reply new acts).1 refl) commits
  goes x version (Take name column) old reply new goes_on acts just commits = stays x version old new ((makes g (Take name column) old reply new acts).1 refl) commits
  goes x version (Finish number) old reply new goes_on acts just commits = stays x version old new ((makes g (Finish number) old reply new acts).1 refl) commits
  goes x version Report old reply new goes_on acts just commits = stays x version old new ((makes g Report old reply new acts).1 refl) commits

  -- so do the steps between its first and its last one; and what the last one commits is said too
  goes_between : (x : Kept) (version : Version) (run : List (Made D g)) (last : Made D g) (old : Engine D g) → EachFollows g old run last.old
      → EachCommits g (run ++ last ∷ []) → AllByRecursion (λ (made : Made D g). made.step ≡ Device → made.reply ≡ Going) run
      → Commits g old.flusher x version → Commits g last.old.flusher x version × CommitsJust g last.old last.reply last.new
  goes_between x version [] last old same each all commits = (subst (λ (e : Engine D g). Commits g e.flusher x version) (sym same) commits, each.0)
  goes_between x version (made ∷ run) last old (joins, acts, leads) (just, each) (goes_on, all) commits =
      let here : Commits g made.old.flusher x version = subst (λ (e : Engine D g). Commits g e.flusher x version) (sym joins) commits in
      goes_between x version run last made.new leads each all (goes x version made.step made.old made.reply made.new goes_on acts just here)

  pub commit_leaves : CommitLeaves g
  commit_leaves old run new x stands each whole =
      let first = whole.first in
      let last = whole.last in
      let joins = whole.leads.0 in
      let all = subst (EachCommits g) whole.parts each in
      let resting : StoreStandsFor g first.old.flusher.commit x = subst (λ (e : Engine D g). StoreStandsFor g e.flusher.commit x) (sym joins) stands in
      let begun : Commits g first.new.flusher x old.version =
      subst (λ (r : Reply). Committed g x old.version r first.new.flusher) whole.begins.1
      (all.0 x old.version (inr (resting, ap (λ (e : Engine D g). e.version) (sym joins)))).1 in
      let parts = leads_between g whole.between last first.new new whole.leads.2 in
      let on = goes_between x old.version whole.between last first.new parts.0 all.1 whole.goes_on begun in
      let ended : Committed g x old.version (Done whole.number) last.new.flusher =
      subst (λ (r : Reply). Committed g x old.version r last.new.flusher) whole.ends.1 (on.1 x old.version (inl on.0)).1 in
      subst (λ (e : Engine D g). RestsWith g e.flusher old.version × Leaves g e.flusher.commit.disk (IsFileOf old.version))
      (sym (leads_to g whole.between last first.new new whole.leads.2)) (ended.1, ended.2)
