-- Batches: commands that are accepted as one version, or refused whole.
use Rattle.std.specs.Prelude.{◌≡◌, ℕ, ◌+◌, ◌==◌, ◌≤◌, Bool, false, ◌||◌, List, [], ◌∷◌, fold, length, Option, None}
use Rattle.std.specs.Option.{option_or, option_map}
use Rattle.overlay_terms.specs.Layers.{Name, Layer}
use Rattle.overlay_terms.specs.Commands.{Command, Refusal, version_limit, version_max, refusal_of, when, applied}
use Rattle.overlay_terms.specs.Touched.{is_touched}

-- commands in order; a command alone is a batch of one
abbrev pub Batch : Type 0
Batch = List Command

-- the most commands of a batch
abbrev pub batch_max : ℕ
batch_max = 64

-- one command at least, and not too many
pub record IsSized (batch : Batch) : Type 0 where
  pub some : 1 ≤ length batch
  pub few : length batch ≤ batch_max

-- why a batch is refused: for one of its commands, counted from 0, or as a whole
pub data BatchRefusal : Type 0 where
  at : ℕ → Refusal → BatchRefusal
  whole : Refusal → BatchRefusal

-- the reason without the place
abbrev pub reason_of : BatchRefusal → Refusal
reason_of (at i reason) = reason
reason_of (whole reason) = reason

-- the layers after the commands of a batch
abbrev pub applied_all : List Layer → Batch → List Layer
applied_all layers batch = fold applied layers batch

-- the first command that the layers after those before it refuse, with its place, counted on from i
abbrev pub refusal_from : ℕ → List Layer → Batch → Option BatchRefusal
refusal_from i layers [] = None
refusal_from i layers (command ∷ commands) =
    option_or (option_map (at i) (refusal_of layers command)) (refusal_from (i + 1) (applied layers command) commands)

-- each batch is accepted by the layers after those before it
abbrev pub AllBatchesAccepted : List Layer → List Batch → Type 0
AllBatchesAccepted layers [] = Unit {0}
AllBatchesAccepted layers (batch ∷ batches) =
    (refusal_from 0 layers batch ≡ None) × AllBatchesAccepted (applied_all layers batch) batches

-- why a batch is refused at a version of this number: for a command, or since the number is the greatest
abbrev pub batch_refusal_at : ℕ → List Layer → Batch → Option BatchRefusal
batch_refusal_at number layers batch =
    option_or (refusal_from 0 layers batch) (option_map whole (when (number == version_max) version_limit))

-- whether a tile was touched by an earlier command (`seen`), or is by one of these, each at the layers that it meets
abbrev pub is_touched_from : Bool → List Layer → Batch → Name → ℕ → Bool
is_touched_from seen layers [] name k = seen
is_touched_from seen layers (command ∷ commands) name k =
    is_touched_from (seen || is_touched layers command name k) (applied layers command) commands name k

-- whether a batch touches the tile of a layer and column: one of its commands does, among the layers that it meets
abbrev pub is_touched_by_all : List Layer → Batch → Name → ℕ → Bool
is_touched_by_all layers batch name k = is_touched_from false layers batch name k
