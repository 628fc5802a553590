-- From what an engine has at first to what a server asks of it, and from what a server leaves back to what the engine
-- calls durable.
use Rattle.std.specs.Prelude.{ℕ, List}
use Rattle.disk_model.specs.declared.disk.Disk.{Ghosts}
use Rattle.overlay_terms.specs.Histories.{Version, History, IsHistory, accepted_in}
use Rattle.overlay_terms.specs.KeptLaws.{IsExact}
use Rattle.overlay_engine.specs.declared.engine.Engine.{Engine}
use Rattle.overlay_engine.specs.NewEngine.{IsNewEngine}
use Rattle.overlay_engine.specs.Start.{Start}
use Rattle.overlay_engine.specs.Covers.{Covered}
use Rattle.book_history.specs.Logs.{history_of}
use Rattle.kept_store.specs.Among.{IsVersionIn, IsFileIn}
use Rattle.kept_store.specs.Storing.{IsStoreOf}
use Rattle.overlay_server.specs.Serving.{first_log}

-- what a server asks of its store is what an engine has that was just made or recovered
abbrev pub NewEnginesAreStores : {D : Type 0} → Ghosts D → Type 0
NewEnginesAreStores {D = D} g = (e : Engine D g) → IsNewEngine g e → IsStoreOf g (history_of (first_log e.version)) e.flusher

-- where the batches of a history begin
abbrev pub start_of_batches : Version → Start
start_of_batches version = record { number = version.number; layers = version.layers }

-- each version of a history has right tiles where its first one has
abbrev pub VersionsAreExact : Type 0
VersionsAreExact = (history : History) (version : Version) → IsHistory history → IsExact history.start → IsVersionIn history version → IsExact version

-- a file that holds a version of a history, `least` or newer, is covered: by its first so many batches, its tiles right
abbrev pub FilesAreCovered : Type 0
FilesAreCovered =
    (history : History) (least : ℕ) (file : List ℕ) → IsHistory history → IsExact history.start → IsFileIn history least file
    → Covered (start_of_batches history.start) least (accepted_in history.entries) file
