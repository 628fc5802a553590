-- Versions of the layers and their tiles, and histories of what was published.
use Rattle.std.specs.Prelude.{◌≡◌, ◌⊎◌, ℕ, ◌+◌, ◌==◌, ◌<◌, ◌≤◌, ◌&&◌, [], ◌∷◌, ◌++◌, if◌then◌else◌}
use Rattle.std.specs.Prelude.{nat_le, Bool, true, IsTrue, List, length, map, filter_map, Option, Some, None, bytes_eq}
use Rattle.std.specs.List.{list_all}
use Rattle.std.specs.Ordering.{is_lt}
use Rattle.overlay_terms.specs.Plane.{Point}
use Rattle.overlay_terms.specs.Column.{column_count, is_in_column}
use Rattle.overlay_terms.specs.Layers.{Name, Layer}
use Rattle.overlay_terms.specs.Tiles.{IsTileOf, pair_cmp, Input, input_of}
use Rattle.overlay_terms.specs.Commands.{Command, refusal_at, applied, stands_as_derived}
use Rattle.overlay_terms.specs.Touched.{is_touched}
use Rattle.overlay_terms.specs.Batches.{Batch, applied_all, batch_refusal_at, is_touched_by_all}

-- a finished tile: the ends of its pieces, or that it has too many
pub data Tile : Type 0 where
  pieces : List (Point × Point) → Tile
  oversize : Tile

-- the most pieces that a tile holds
abbrev pub pieces_max : ℕ
pieces_max = 65536

-- a tile is that of an input: its pieces are the boundary in the column, at most so many; or they are more
abbrev pub IsTileAt : ℕ → Input → Tile → Type 0
IsTileAt cap input (pieces ends) = (length ends ≤ cap) × IsTileOf input.marked input.steps input.column ends
IsTileAt cap input oversize =
    (ends : List (Point × Point)) × (cap < length ends) × IsTileOf input.marked input.steps input.column ends

-- whether pieces come after one, each before the next: by the left end, then by the right end
abbrev pub is_rising_from : Point × Point → List (Point × Point) → Bool
is_rising_from a [] = true
is_rising_from a (b ∷ bs) = is_lt (pair_cmp a b) && is_rising_from b bs

-- whether each piece comes before the next
abbrev pub is_rising : List (Point × Point) → Bool
is_rising [] = true
is_rising (a ∷ bs) = is_rising_from a bs

-- whether a tile has the form of one of this column, right or not: few enough pieces, which begin in it and rise
abbrev pub is_formed : Tile → ℕ → Bool
is_formed (pieces ends) k = nat_le (length ends) pieces_max && list_all (λ e. is_in_column k e.0) ends && is_rising ends
is_formed oversize k = true

-- a tile under the name of its layer and its column
pub record Finished : Type 0 where
  pub name : Name
  pub column : ℕ
  pub tile : Tile

-- layers with a number and their finished tiles, and the number of the version that is reported durable
pub record Version : Type 0 where
  pub number : ℕ
  pub layers : List Layer
  pub tiles : List Finished
  pub durable : ℕ

-- the version before any command
abbrev pub empty_version : Version
empty_version = record { number = 0; layers = []; tiles = []; durable = 0 }

-- the finished tile of a layer and column, if there is one
abbrev pub tile_at : List Finished → Name → ℕ → Option Tile
tile_at [] name column = None
tile_at (f ∷ fs) name column = if bytes_eq f.name name && (f.column == column) then Some f.tile else tile_at fs name column

-- what is published: an accepted batch of a session, a tile that is kept, a number that is durable
pub data Event : Type 0 where
  accepted : ℕ → Batch → Event
  kept : Name → ℕ → Tile → Event
  durable_to : ℕ → Event

-- the version after a command: its number one higher, the layers changed, the touched tiles pending again
pub record FollowsCommand (old : Version) (command : Command) (new : Version) : Type 0 where
  pub accepted_there : refusal_at old.number old.layers command ≡ None
  pub number : new.number ≡ old.number + 1
  pub layers : new.layers ≡ applied old.layers command
  pub tiles : (name : Name) (k : ℕ) → tile_at new.tiles name k ≡ (if is_touched old.layers command name k then None else tile_at old.tiles name k)
  pub durable : new.durable ≡ old.durable

-- the version after a batch: its number one higher, the layers changed by each command, the touched tiles pending again
pub record FollowsBatch (old : Version) (batch : Batch) (new : Version) : Type 0 where
  pub accepted_there : batch_refusal_at old.number old.layers batch ≡ None
  pub number : new.number ≡ old.number + 1
  pub layers : new.layers ≡ applied_all old.layers batch
  pub tiles : (name : Name) (k : ℕ) →
      tile_at new.tiles name k ≡ (if is_touched_by_all old.layers batch name k then None else tile_at old.tiles name k)
  pub durable : new.durable ≡ old.durable

-- the version after a tile is kept: a pending tile of a derived layer, made of the layer's present input
pub record FollowsTile (old : Version) (name : Name) (column : ℕ) (tile : Tile) (new : Version) : Type 0 where
  pub derived_layer : IsTrue (stands_as_derived old.layers name)
  pub known_column : column < column_count
  pub pending : tile_at old.tiles name column ≡ None
  pub right : IsTileAt pieces_max (input_of old.layers name column) tile
  pub number : new.number ≡ old.number
  pub layers : new.layers ≡ old.layers
  pub tiles : (other : Name) (k : ℕ) → tile_at new.tiles other k ≡ (if bytes_eq name other && (column == k) then Some tile else tile_at old.tiles other k)
  pub durable : new.durable ≡ old.durable

-- the version after a greater number is reported durable, at most its own
pub record FollowsReport (old : Version) (number : ℕ) (new : Version) : Type 0 where
  pub risen : old.durable < number
  pub not_beyond : number ≤ old.number
  pub same_number : new.number ≡ old.number
  pub layers : new.layers ≡ old.layers
  pub tiles : (name : Name) (k : ℕ) → tile_at new.tiles name k ≡ tile_at old.tiles name k
  pub durable : new.durable ≡ number

-- a report that leaves the version as it is: its number is durable already, or is beyond the version's own
pub record StaysAtReport (old : Version) (number : ℕ) (new : Version) : Type 0 where
  pub no_news : (number ≤ old.durable) ⊎ (old.number < number)
  pub same : new ≡ old

-- what a report of a number makes of a version: the durable number rises, or nothing changes
abbrev pub IsReported : Version → ℕ → Version → Type 0
IsReported old number new = FollowsReport old number new ⊎ StaysAtReport old number new

-- a version follows another by an event
abbrev pub Follows : Version → Event → Version → Type 0
Follows old (accepted session batch) new = FollowsBatch old batch new
Follows old (kept name column tile) new = FollowsTile old name column tile new
Follows old (durable_to number) new = FollowsReport old number new

-- one publication: what happened, and the version after it
pub record Entry : Type 0 where
  pub event : Event
  pub version : Version

-- a history: the version that it begins with, and the publications since, the newest last
pub record History : Type 0 where
  pub start : Version
  pub entries : List Entry

-- each version follows the one before it by its event
abbrev pub AllFollow : Version → List Entry → Type 0
AllFollow version [] = Unit {0}
AllFollow version (entry ∷ entries) = Follows version entry.event entry.version × AllFollow entry.version entries

-- a history whose versions follow one another
abbrev pub IsHistory : History → Type 0
IsHistory history = AllFollow history.start history.entries

-- the version of the last entry, or the first version where there is none
abbrev pub last_version : Version → List Entry → Version
last_version version [] = version
last_version version (entry ∷ entries) = last_version entry.version entries

-- the newest version of a history
abbrev pub newest : History → Version
newest history = last_version history.start history.entries

-- a history goes on from an earlier one by these entries
abbrev pub GoesOnBy : History → List Entry → History → Type 0
GoesOnBy earlier entries later = later ≡ record { start = earlier.start; entries = earlier.entries ++ entries }

-- a history that goes on from an earlier one
abbrev pub BeginsWith : History → History → Type 0
BeginsWith later earlier = (entries : List Entry) × GoesOnBy earlier entries later

-- a session's batch among the events
abbrev pub own_command : ℕ → Event → Option Batch
own_command session (accepted by batch) = if by == session then Some batch else None
own_command session (kept name column tile) = None
own_command session (durable_to number) = None

-- the accepted batches of a session in some entries, in order
abbrev pub commands_of : ℕ → List Entry → List Batch
commands_of session entries = filter_map (λ (entry : Entry). own_command session entry.event) entries

-- the batch of an event, with its session
abbrev pub command_of : Event → Option (ℕ × Batch)
command_of (accepted session batch) = Some (session, batch)
command_of (kept name column tile) = None
command_of (durable_to number) = None

-- the accepted batches of all sessions in some entries, in order
abbrev pub commands_in : List Entry → List (ℕ × Batch)
commands_in entries = filter_map (λ (entry : Entry). command_of entry.event) entries

-- the same without their sessions
abbrev pub accepted_in : List Entry → List Batch
accepted_in entries = map (λ c. c.1) (commands_in entries)

-- from one version to another by tiles that are kept, and by no batch
pub record BuildsUp (old new : Version) : Type 0 where
  pub entries : List Entry
  pub follow : AllFollow old entries
  pub no_command : commands_in entries ≡ []
  pub arrives : last_version old entries ≡ new
