-- What the waits decide by, and how they end.
use Rattle.std.specs.Prelude.{◌≡◌, ◌⊎◌, ◌<◌, ℕ, List, Bool, IsTrue, true, false, Some, None, Result, Ok, Err, IfSome, IfNone}
use Rattle.overlay_terms.specs.Layers.{Name}
use Rattle.overlay_terms.specs.Histories.{Entry, Version}
use Rattle.layer_book.specs.declared.fault.LayerFault.TheVariants.{OutOfMemory as NoMemory}
use Rattle.versions.specs.Building.{IsBuilt, wait_refusal}
use Rattle.versions.specs.declared.fault.VersionFault.TheVariants.{Layer}
use Rattle.book_history.specs.declared.fault.BookFault.{BookFault}
use Rattle.book_history.specs.declared.fault.BookFault.TheVariants as fault
use Rattle.version_book.specs.Free.{AllAreHeld}
use Rattle.book_history.specs.Known.{Known}
use Rattle.version_book.specs.HeldTiles.{has_mark, unmarked_of}
use Rattle.version_book.specs.BookState.{HasHeld}
use Rattle.version_book.specs.declared.book_state.BookState.{BookState}
use Rattle.book_lock.specs.Steps.{HasLooked}
use Rattle.version_book.specs.declared.locked_book.waits.Awaited.{Awaited}
use Rattle.version_book.specs.declared.locked_book.waits.Awaited.TheVariants.{Tile, Built, Durable, News}

-- a worker waits on: the book is open, and no tile can be handed out
pub record IsIdle (version : Version) (state : BookState) : Type 0 where
  pub not_closing : state.closing ≡ false
  pub held : AllAreHeld version state.held.list.items

-- a wait for the tiles of a layer goes on: tiles can be asked for, one is pending, none is marked, and the book is open
pub record IsBuilding (version : Version) (state : BookState) (name : Name) : Type 0 where
  pub derived : wait_refusal version name ≡ None
  pub pending : ¬ (IsBuilt version name)
  pub unmarked : has_mark name state.held.list.items ≡ false
  pub not_closing : state.closing ≡ false

-- a wait for a durable number goes on: the store is not so far, it reported no fault, and the book is open
pub record IsWriting (version : Version) (state : BookState) (number : ℕ) : Type 0 where
  pub behind : version.durable < number
  pub sound : state.fault ≡ None
  pub not_closing : state.closing ≡ false

-- the reporter waits on: the book is open, and there are no news for it, or it rests
pub record IsQuiet (state : BookState) (given : ℕ) : Type 0 where
  pub not_closing : state.closing ≡ false
  pub nothing : (state.news ≡ given) ⊎ (state.resting ≡ true)

-- a wait goes on, by what it is for
abbrev pub Waits : Version → BookState → Awaited → Type 0
Waits version state Tile = IsIdle version state
Waits version state (Built name) = IsBuilding version state name.now
Waits version state (Durable number) = IsWriting version state number
Waits version state (News given) = IsQuiet state given

-- the layer has tiles, all of them are finished, and the version has this number
pub record IsBuiltAt (version : Version) (name : Name) (number : ℕ) : Type 0 where
  pub derived : wait_refusal version name ≡ None
  pub built : IsBuilt version name
  pub numbered : version.number ≡ number

-- why a wait for the tiles of a layer is refused: no tiles can be asked for; or some are not finished, and either a
-- want of memory is reported or the book closes, where it may; or the book is behind
abbrev pub IsWaitRefused : Bool → Version → Name → BookFault → Type 0
IsWaitRefused closing version name (fault.Version refused) =
    (wait_refusal version name ≡ Some refused)
    ⊎ ((refused ≡ Layer NoMemory) × (wait_refusal version name ≡ None) × ¬ (IsBuilt version name))
IsWaitRefused closing version name fault.Closing =
    IsTrue closing × (wait_refusal version name ≡ None) × ¬ (IsBuilt version name)
IsWaitRefused closing version name fault.Gone = Unit {0}
IsWaitRefused closing version name fault.NoStore = ⊥
IsWaitRefused closing version name (fault.Store refused) = ⊥

-- why a wait for a durable number is refused: there is no store; or the number is not durable, and the store reported a
-- fault or the book closes; or the book is behind
abbrev pub IsSyncRefused : ℕ → Version → BookFault → Type 0
IsSyncRefused number version (fault.Version refused) = ⊥
IsSyncRefused number version fault.Closing = version.durable < number
IsSyncRefused number version fault.Gone = Unit {0}
IsSyncRefused number version fault.NoStore = Unit {0}
IsSyncRefused number version (fault.Store refused) = version.durable < number

-- the same under the lock of a book that has a store: the number is not durable, and the store reported this fault, or
-- it reported none and the book closes
abbrev pub IsSyncRefusedAt : BookState → Version → ℕ → BookFault → Type 0
IsSyncRefusedAt state version number (fault.Version refused) = ⊥
IsSyncRefusedAt state version number fault.Closing =
    (version.durable < number) × (state.fault ≡ None) × (state.closing ≡ true)
IsSyncRefusedAt state version number fault.Gone = Unit {0}
IsSyncRefusedAt state version number fault.NoStore = ⊥
IsSyncRefusedAt state version number (fault.Store refused) =
    (version.durable < number) × (state.fault ≡ Some refused)

-- a session has looked at this log; or the book was behind it, and nothing changed
abbrev pub Looks : Result ℕ BookFault → Known → List Entry → Known → Type 0
Looks (Ok number) was log now = HasLooked was log now
Looks (Err refused) was log now =
    ((refused ≡ fault.Gone) × (now ≡ was)) ⊎ (¬ (refused ≡ fault.Gone) × HasLooked was log now)

-- the marks of a layer, of which there are some, go
abbrev pub LosesMarks : BookState → Name → BookState → Type 0
LosesMarks old name new =
    (has_mark name old.held.list.items ≡ true) × HasHeld old (unmarked_of name old.held.list.items) new

-- a wait for the tiles of a layer was answered how it ends: its marks go where memory ran out, and else nothing
-- changes; there are no marks where it ends by closing
abbrev pub IsAfterAnswered : Version → BookState → Name → Result ℕ BookFault → BookState → Type 0
IsAfterAnswered version old name (Ok number) new = new ≡ old
IsAfterAnswered version old name (Err (fault.Version refused)) new =
    IfSome (wait_refusal version name) (λ _. new ≡ old) × IfNone (wait_refusal version name) (LosesMarks old name new)
IsAfterAnswered version old name (Err fault.Closing) new = (new ≡ old) × (has_mark name old.held.list.items ≡ false)
IsAfterAnswered version old name (Err fault.Gone) new = new ≡ old
IsAfterAnswered version old name (Err fault.NoStore) new = new ≡ old
IsAfterAnswered version old name (Err (fault.Store refused)) new = new ≡ old
