-- How a store of a history begins, and what a crash may leave of it.
use Rattle.std.specs.Prelude.{◌≡◌, ◌⊎◌, ◌≤◌, [], Contains}
use Rattle.disk_model.specs.declared.disk.Disk.{Ghosts}
use Rattle.disk_model.specs.Moments.{Leaves, LeavesOnly}
use Rattle.overlay_terms.specs.Histories.{Version, History, IsHistory, newest}
use Rattle.commit_plan.specs.Kept.{Kept}
use Rattle.root_store.specs.declared.phase.Phase.TheVariants.{Idle}
use Rattle.root_store.specs.Running.{StoreStandsFor}
use Rattle.flush_core.specs.declared.flusher.Flusher.{Flusher}
use Rattle.flush_core.specs.Stored.{IsImageOf}
use Rattle.kept_store.specs.Among.{IsFileIn}
use Rattle.kept_store.specs.Storing.{IsStoreOf, KeepsReported}
use Rattle.kept_store.specs.Since.{reported_in}

-- a store that holds a version, of which no more is durable than stored, is one of the history that begins with it
abbrev pub StoreBegins : {D : Type 0} → Ghosts D → Type 0
StoreBegins {D = D} g =
    (version : Version) (f : Flusher D g) (x : Kept) → StoreStandsFor g f.commit x → IsImageOf version x.held
    → f.commit.root.version ≡ version.number → version.durable ≤ f.commit.root.version
    → IsStoreOf g (record { start = version; entries = [] }) f

-- each file that a crash may leave of a store of a history holds a version of it, no older than what is stored
abbrev pub StoreLeaves : {D : Type 0} → Ghosts D → Type 0
StoreLeaves {D = D} g =
    (history : History) (f : Flusher D g) → IsStoreOf g history f → Leaves g f.commit.disk (IsFileIn history f.commit.root.version)

-- a store at rest on an honest disk is one of a history, if what is reported is stored, and each file left is no older
abbrev pub StoreIsKnown : {D : Type 0} → Ghosts D → Type 0
StoreIsKnown {D = D} g = (history : History) (f : Flusher D g) → g.is_honest f.commit.disk → f.commit.phase ≡ Idle
    → (newest history).durable ≤ f.commit.root.version
    → Leaves g f.commit.disk (IsFileIn history f.commit.root.version) → IsStoreOf g history f

-- at each moment of a keeper's call a crash leaves a version no older than what the history reports durable by its end
abbrev pub ReportedIsLeft : {D : Type 0} → Ghosts D → Type 0
ReportedIsLeft {D = D} g = (was now : History) (old new : Flusher D g) → KeepsReported g was old now new
    → LeavesOnly g old.commit.disk new.commit.disk (IsFileIn now (newest now).durable)

-- the durable number of a history's newest version is that of its start, or among those reported in its entries
abbrev pub DurableIsReported : Type 0
DurableIsReported = (history : History) → IsHistory history
    → ((newest history).durable ≡ history.start.durable)
    ⊎ Contains (reported_in history.entries) (newest history).durable
