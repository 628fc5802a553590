-- A commit goes on, and ends, with the version that it began with.
use Rattle.std.proofs.Common.{◌≡◌, inl, inr, ℕ, List, true, Result, Ok, refl, sym, ◌∙◌, ap, subst, arith}
use Rattle.std.proofs.lemmas.Bool.{false≢true}
use Rattle.disk_model.specs.declared.disk.Disk.{Ghosts}
use Rattle.disk_model.specs.Moments.{Leaves, LeavesOnly}
use Rattle.disk_model.proofs.Runs.{started, widened}
use Rattle.overlay_terms.specs.Histories.{Version}
use Rattle.commit_plan.specs.declared.fault.StoreFault.{StoreFault}
use Rattle.root_store.specs.declared.phase.Phase.{Phase}
use Rattle.root_store.specs.declared.phase.Phase.TheVariants.{Idle}
use Rattle.root_store.specs.declared.phase.Progress.{Progress}
use Rattle.root_store.specs.declared.phase.Progress.TheVariants as progress
use Rattle.commit_plan.specs.Kept as kept
use Rattle.root_store.specs.Running.{Before, RunsFrom, Stepped, StoreStandsFor, is_busy}
use Rattle.commit_plan.proofs.Reading.{calm_stands}
use Rattle.flush_core.specs.declared.flusher.Flusher.{Flusher}
use Rattle.flush_core.specs.Stored.{IsCommitOf}
use Rattle.overlay_engine.specs.declared.engine.Engine.{Engine}
use Rattle.overlay_engine.specs.declared.step.Step.{Step}
use Rattle.overlay_engine.specs.declared.step.Step.TheVariants.{Submit, SubmitAll, Take, Finish, Device, Report}
use Rattle.overlay_engine.specs.declared.step.Reply.{Reply}
use Rattle.overlay_engine.specs.declared.step.Reply.TheVariants.{Accepted, Refused, RefusedAt, Taken, NoJob, Kept, Stale, Going, Done, Durable}
use Rattle.overlay_engine.specs.Acts.{Acts}
use Rattle.overlay_engine.specs.Counting.{calls_asked}
use Rattle.overlay_engine.specs.Committing.{IsFileOf, IsFileOfEither, Commits, IsToCommit, Committed, CarriesOn, CommitsJust}
use Rattle.overlay_engine.proofs.Covering.{before_leaves}
use Rattle.overlay_engine.proofs.Following.{makes}

either_file : (x y : kept.Kept) (version : Version) → IsCommitOf version y → (c : List ℕ) → kept.Either x y c → IsFileOfEither x.held version c
either_file x y version of c (inl was) = inl was
either_file x y version of c (inr is) = inr (record { held = y.held; image = of.image; stands = is })

module _ {D : Type 0} (g : Ghosts D) where
  -- a crash at any moment of a call leaves what was kept, or the version
  pub carried : (f new : Flusher D g) (x : kept.Kept) (version : Version) (result : Result Progress StoreFault)
      → ((x y : kept.Kept) → RunsFrom g f.commit x y → Stepped g f.commit new.commit result x y) → Commits g f x version
      → LeavesOnly g f.commit.disk new.commit.disk (IsFileOfEither x.held version)
  carried f new x version result steps commits =
      let stepped = steps x commits.y commits.runs in
      widened g f.commit.disk new.commit.disk (kept.Either x commits.y) (IsFileOfEither x.held version) (either_file x commits.y version commits.of) stepped.moments

  pub commits_on : (f new : Flusher D g) (x : kept.Kept) (version : Version) (result : Result Progress StoreFault) → result ≡ Ok progress.Going
      → ((x y : kept.Kept) → RunsFrom g f.commit x y → Stepped g f.commit new.commit result x y) → Commits g f x version → CarriesOn g x version f Going new
  commits_on f new x version result is steps commits =
      let stepped : Stepped g f.commit new.commit (Ok progress.Going) x commits.y =
      subst (λ (r : Result Progress StoreFault). Stepped g f.commit new.commit r x commits.y) is (steps x commits.y commits.runs) in
      (carried f new x version result steps commits, record { y = commits.y; of = commits.of; runs = stepped.ok })

  pub committed : (f new : Flusher D g) (x : kept.Kept) (version : Version) (result : Result Progress StoreFault) (number : ℕ) → result ≡ Ok (progress.Done number)
      → ((x y : kept.Kept) → RunsFrom g f.commit x y → Stepped g f.commit new.commit result x y) → Commits g f x version → CarriesOn g x version f (Done number) new
  committed f new x version result number is steps commits =
      let stepped : Stepped g f.commit new.commit (Ok (progress.Done number)) x commits.y =
      subst (λ (r : Result Progress StoreFault). Stepped g f.commit new.commit r x commits.y) is (steps x commits.y commits.runs) in
      let stands = stepped.ok.0 in
      let left : Leaves g new.commit.disk (IsFileOf version) =
      λ c left. record { held = commits.y.held; image = commits.of.image; stands = calm_stands commits.y c (stands.leaves c left) } in
      (carried f new x version result steps commits, (stepped.ok.1 ∙ commits.of.root, record { y = commits.y; of = commits.of; stands = stands }, left))

  pub busy_commits : (e : Engine D g) (x : kept.Kept) (version : Version) → is_busy e.flusher.commit.phase ≡ true → IsToCommit g e x version → Commits g e.flusher x version
  busy_commits e x version busy (inl commits) = commits
  busy_commits e x version busy (inr (stands, same)) = absurd (false≢true (sym (ap is_busy stands.idle) ∙ busy))

  -- where the store rests, the commit that begins is of the newest version
  begun_commits : (e : Engine D g) (mid : Flusher D g) (x : kept.Kept) (version : Version) → e.flusher.commit.phase ≡ Idle
      → ((x : kept.Kept) → StoreStandsFor g e.flusher.commit x → (y : kept.Kept) × IsCommitOf e.version y × RunsFrom g mid.commit x y)
      → IsToCommit g e x version → Commits g mid x version
  begun_commits e mid x version idle begun (inl commits) =
      absurd (subst (λ (q : Phase). Before g q e.flusher.commit x commits.y) idle commits.runs.before)
  begun_commits e mid x version idle begun (inr (stands, same)) =
      let run = begun x stands in
      record { y = run.0; of = subst (λ (v : Version). IsCommitOf v run.0) (sym same) run.1; runs = run.2 }

  -- what its first call does, the step does
  pub begun_carries : (e : Engine D g) (mid new : Flusher D g) (reply : Reply) → e.flusher.commit.phase ≡ Idle → mid.commit.disk ≡ e.flusher.commit.disk
      → ((x : kept.Kept) → StoreStandsFor g e.flusher.commit x → (y : kept.Kept) × IsCommitOf e.version y × RunsFrom g mid.commit x y)
      → ((x : kept.Kept) (version : Version) → Commits g mid x version → CarriesOn g x version mid reply new)
      → (x : kept.Kept) (version : Version) → IsToCommit g e x version → CarriesOn g x version e.flusher reply new
  begun_carries e mid new reply idle disk begun call x version is =
      let carries = call x version (begun_commits e mid x version idle begun is) in
      (subst (λ (d : D). LeavesOnly g d new.commit.disk (IsFileOfEither x.held version)) disk carries.0, carries.1)

  -- ---- steps that make no call

  pub is_honest_store : (e : Engine D g) (x : kept.Kept) (version : Version) → IsToCommit g e x version → g.is_honest e.flusher.commit.disk
  is_honest_store e x version (inl commits) = commits.runs.honest
  is_honest_store e x version (inr (stands, same)) = stands.honest

  either_left : (e : Engine D g) (x : kept.Kept) (version : Version) → IsToCommit g e x version → Leaves g e.flusher.commit.disk (IsFileOfEither x.held version)
  either_left e x version (inl commits) c left =
      let s = e.flusher.commit in
      either_file x commits.y version commits.of c (before_leaves g s.phase s x commits.y commits.runs.before c left)
  either_left e x version (inr (stands, same)) c left = inl (calm_stands x c (stands.leaves c left))

  abbrev OnlyNow : D → Type 0
  OnlyNow disk = (c : List ℕ) → g.left_since disk (g.moment disk) c → g.may_leave disk c

  -- a crash leaves what was left before the step
  pub nothing_moves : (e : Engine D g) (new : Flusher D g) (x : kept.Kept) (version : Version) → new ≡ e.flusher → OnlyNow e.flusher.commit.disk → IsToCommit g e x version
      → LeavesOnly g e.flusher.commit.disk new.commit.disk (IsFileOfEither x.held version)
  nothing_moves e new x version same now is =
      subst (λ (f : Flusher D g). LeavesOnly g e.flusher.commit.disk f.commit.disk (IsFileOfEither x.held version)) (sym same)
      (started g e.flusher.commit.disk (IsFileOfEither x.held version) (λ c left. either_left e x version is c (now c left)))

  -- only a step that asks for a device call answers that a commit goes on, or that it is done
  going_asks : (step : Step) (old new : Engine D g) → Acts g step old Going new → calls_asked step ≡ 1
  going_asks (Submit change) old new acts = absurd acts
  going_asks (SubmitAll batch) old new acts = absurd acts
  going_asks (Take name column) old new acts = absurd acts
  going_asks (Finish job) old new acts = absurd acts
  going_asks Device old new acts = refl
  going_asks Report old new acts = absurd acts

  done_asks : (step : Step) (old : Engine D g) (number : ℕ) (new : Engine D g) → Acts g step old (Done number) new → calls_asked step ≡ 1
  done_asks (Submit change) old number new acts = absurd acts
  done_asks (SubmitAll batch) old number new acts = absurd acts
  done_asks (Take name column) old number new acts = absurd acts
  done_asks (Finish job) old number new acts = absurd acts
  done_asks Device old number new acts = refl
  done_asks Report old number new acts = absurd acts

  tells_none : (step : Step) (old : Engine D g) (reply : Reply) (new : Engine D g) (x : kept.Kept) (version : Version) → Acts g step old reply new → calls_asked step ≡ 0
      → Committed g x version reply new.flusher
  tells_none step old Going new x version acts none = absurd (omega (arith, none, going_asks step old new acts))
  tells_none step old (Done number) new x version acts none = absurd (omega (arith, none, done_asks step old number new acts))
  tells_none step old (Accepted number) new x version acts none = tt
  tells_none step old (Refused code) new x version acts none = tt
  tells_none step old (RefusedAt place code) new x version acts none = tt
  tells_none step old (Taken number) new x version acts none = tt
  tells_none step old NoJob new x version acts none = tt
  tells_none step old Kept new x version acts none = tt
  tells_none step old Stale new x version acts none = tt
  tells_none step old (Durable number) new x version acts none = tt

  -- a step of another kind commits nothing
  pub none_commits : (step : Step) (old : Engine D g) (reply : Reply) (new : Engine D g) → Acts g step old reply new → calls_asked step ≡ 0
      → (g.is_honest old.flusher.commit.disk → OnlyNow old.flusher.commit.disk) → CommitsJust g old reply new
  none_commits step old reply new acts none now x version is =
      (nothing_moves old new.flusher x version ((makes g step old reply new acts).1 none) (now (is_honest_store old x version is)) is, tells_none step old reply new x version acts none)
