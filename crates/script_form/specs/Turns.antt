-- Lines in turn: each has a reply of its own, but those of a batch, which have one together.
use Rattle.std.specs.Prelude.{ℕ, ℤ, pos, negsuc, ◌==◌, nat_le, Bool, true, false, ◌&&◌, List, [], ◌∷◌}
use Rattle.std.specs.Prelude.{◌++◌, map, fold, length, Option, Some, None, option_map, if◌then◌else◌}
use Rattle.overlay_terms.specs.Batches.{batch_max}
use Rattle.script_form.specs.Requests.{Request, nothing, batch, request_of}

-- what has one reply: what a line asks for; what all lines of a batch ask for; what those of them ask for that came
-- before the script ended
pub data Turn : Type 0 where
  alone : Request → Turn
  together : List Request → Turn
  cut_off : List Request → Turn

-- a batch that waits for lines: how many it has, and what those that came ask for
pub record Waiting : Type 0 where
  pub size : ℕ
  pub came : List Request

-- so many commands, if a batch may have so many
abbrev pub size_within : ℕ → Option ℕ
size_within n = if nat_le 1 n && nat_le n batch_max then Some n else None

-- how many commands a batch has as it was asked for, if a batch may have so many
abbrev pub asked_size : ℤ → Option ℕ
asked_size (pos n) = size_within n
asked_size (negsuc n) = None

-- the batch that a line begins, if it begins one: none of its lines came yet
abbrev pub begun_by : Request → Option Waiting
begun_by (batch n) = option_map (λ size. record { size = size; came = [] }) (asked_size n)
begun_by other = None

-- whether a line is skipped, which is then none of a batch's lines
abbrev pub is_nothing : Request → Bool
is_nothing nothing = true
is_nothing other = false

-- a batch with one more line
abbrev pub with_line : Waiting → Request → Waiting
with_line waiting request = record { size = waiting.size; came = waiting.came ++ request ∷ [] }

-- whether all lines of a batch came
abbrev pub is_full : Waiting → Bool
is_full waiting = length waiting.came == waiting.size

-- the batch that waits after a line
abbrev pub waiting_after : Option Waiting → Request → Option Waiting
waiting_after None request = begun_by request
waiting_after (Some waiting) request =
    if is_nothing request then Some waiting
    else (if is_full (with_line waiting request) then None else Some (with_line waiting request))

-- the turn of a line that is in no batch: none where it begins one
abbrev pub unless_begun : Option Waiting → Request → List Turn
unless_begun None request = alone request ∷ []
unless_begun (Some waiting) request = []

-- the turn that a line ends, if it ends one
abbrev pub ended_by : Option Waiting → Request → List Turn
ended_by None request = unless_begun (begun_by request) request
ended_by (Some waiting) request =
    if is_nothing request then []
    else (if is_full (with_line waiting request) then together (with_line waiting request).came ∷ [] else [])

-- the turns that lines end, where a batch waits before them or none does
abbrev pub turns_from : Option Waiting → List Request → List Turn
turns_from waiting [] = []
turns_from waiting (request ∷ requests) = ended_by waiting request ++ turns_from (waiting_after waiting request) requests

-- the batch that waits after lines
abbrev pub waiting_after_lines : List (List ℕ) → Option Waiting
waiting_after_lines lines = fold waiting_after None (map request_of lines)

-- the turns that lines end: a batch has its turn when all its lines came
abbrev pub turns_of : List (List ℕ) → List Turn
turns_of lines = turns_from None (map request_of lines)

-- a batch that waits where a script ends
abbrev pub cut_off_in : Option Waiting → List Turn
cut_off_in None = []
cut_off_in (Some waiting) = cut_off waiting.came ∷ []

-- the turns of all lines of a script
abbrev pub all_turns_of : List (List ℕ) → List Turn
all_turns_of lines = turns_of lines ++ cut_off_in (waiting_after_lines lines)
