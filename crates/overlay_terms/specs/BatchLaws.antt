-- Laws of batches: a batch is what its commands are one after another, but for the number.
use Rattle.std.specs.Prelude.{◌≡◌, ◌↔◌, ℕ, ◌+◌, ◌≤◌, List, [], ◌∷◌, ◌++◌, length, Some, None}
use Rattle.std.specs.Option.{option_map}
use Rattle.overlay_terms.specs.Layers.{layers_max, Name, Layer}
use Rattle.overlay_terms.specs.Orderly.{IsOrderly}
use Rattle.overlay_terms.specs.Commands.{Command, Refusal, AllAccepted, refusal_of, refusal_at}
use Rattle.overlay_terms.specs.Histories.{Version, tile_at, FollowsCommand, FollowsBatch}
use Rattle.overlay_terms.specs.KeptLaws.{TilesFit, TilesAreExact}
use Rattle.overlay_terms.specs.Batches.{Batch, at, reason_of, applied_all, refusal_from, batch_refusal_at}

-- a batch of one command is refused where the command is, for its reason
abbrev pub OneIsRefusedAlike : Type 0
OneIsRefusedAlike =
    (number : ℕ) (layers : List Layer) (command : Command) →
    option_map reason_of (batch_refusal_at number layers (command ∷ [])) ≡ refusal_at number layers command

-- the version after a batch of one command is the version after the command
abbrev pub OneFollowsAlike : Type 0
OneFollowsAlike =
    (old new : Version) (command : Command) → FollowsBatch old (command ∷ []) new ↔ FollowsCommand old command new

-- from one version to another by commands one at a time, each a version of its own
abbrev pub MadeInTurn : Version → Batch → Version → Type 0
MadeInTurn old [] last = last ≡ old
MadeInTurn old (command ∷ commands) last =
    (next : Version) × FollowsCommand old command next × MadeInTurn next commands last

-- one version is another but for its number
pub record IsSameButNumber (a b : Version) : Type 0 where
  pub layers : a.layers ≡ b.layers
  pub tiles : (name : Name) (k : ℕ) → tile_at a.tiles name k ≡ tile_at b.tiles name k
  pub durable : a.durable ≡ b.durable

-- a batch makes what its commands make one after another, with one number
pub record IsFoldWithOneNumber (old last new : Version) (batch : Batch) : Type 0 where
  pub same : IsSameButNumber last new
  pub each : last.number ≡ old.number + length batch
  pub one : new.number ≡ old.number + 1

abbrev pub BatchIsItsCommands : Type 0
BatchIsItsCommands =
    (old last new : Version) (batch : Batch) → MadeInTurn old batch last → FollowsBatch old batch new →
    IsFoldWithOneNumber old last new batch

-- no command of a batch is refused exactly where each is accepted by the layers after those before it
abbrev pub AcceptedInTurn : Type 0
AcceptedInTurn =
    (layers : List Layer) (batch : Batch) → (refusal_from 0 layers batch ≡ None) ↔ AllAccepted layers batch

-- a batch is refused for the first command that is refused after accepted ones, whatever comes after it
abbrev pub FirstIsTold : Type 0
FirstIsTold =
    (layers : List Layer) (before after : Batch) (command : Command) (reason : Refusal) →
    AllAccepted layers before →
    refusal_of (applied_all layers before) command ≡ Some reason →
    refusal_from 0 layers (before ++ command ∷ after) ≡ Some (at (length before) reason)

-- a batch leaves exact tiles exact, and orderly layers orderly
abbrev pub BatchKeepsExact : Type 0
BatchKeepsExact =
    (old new : Version) (batch : Batch) → FollowsBatch old batch new →
    IsOrderly old.layers → TilesFit old → TilesAreExact old →
    IsOrderly new.layers × TilesFit new × TilesAreExact new

-- a batch leaves no more layers than there may be
abbrev pub BatchLeavesRoom : Type 0
BatchLeavesRoom =
    (old new : Version) (batch : Batch) → FollowsBatch old batch new →
    length old.layers ≤ layers_max → length new.layers ≤ layers_max
