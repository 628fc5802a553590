-- What the calls of a disk do to its bytes, and what a crash may make of them.
use Rattle.std.specs.Prelude.{◌≡◌, ◌⊎◌, ℕ, ◌+◌, ◌-◌, ◌^◌, ◌<◌, ◌≤◌}
use Rattle.std.specs.Prelude.{min, max, List, length, take, drop, slice_index, Result, MatchResult}

-- the n bytes of a file from this offset on
unfoldable pub part : List ℕ → ℕ → ℕ → List ℕ
part file at n = take n (drop at file)

-- the file has these bytes at this offset
pub record Holds (file : List ℕ) (at : ℕ) (bytes : List ℕ) : Type 0 where
  pub within : at + length bytes ≤ length file
  pub each : (i : ℕ) → i < length bytes → slice_index file (at + i) ≡ slice_index bytes i

-- after a write of n bytes, whole or not: any bytes in that range, and from the old end to it; others stay, and the file
-- grows to the end of the range at most
pub record Torn (at n : ℕ) (old new : List ℕ) : Type 0 where
  pub no_shorter : length old ≤ length new
  pub no_longer : length new ≤ max (length old) (at + n)
  pub below : (i : ℕ) → i < length old → i < at → slice_index new i ≡ slice_index old i
  pub above : (i : ℕ) → i < length old → at + n ≤ i → slice_index new i ≡ slice_index old i

-- each new outcome of a crash is an old outcome after a step
abbrev pub OneStepOn : (List ℕ → List ℕ → Type 0) → (List ℕ → Type 0) → (List ℕ → Type 0) → Type 0
OneStepOn step old new = (c : List ℕ) → new c → (d : List ℕ) × old d × step d c

-- each new outcome of a crash is an old one
abbrev pub Fewer : (List ℕ → Type 0) → (List ℕ → Type 0) → Type 0
Fewer old new = (c : List ℕ) → new c → old c

-- a crash leaves nothing but this
abbrev pub Only : List ℕ → (List ℕ → Type 0) → Type 0
Only file outcomes = (c : List ℕ) → outcomes c → c ≡ file

-- what crashes up to a call's end might have left: all that those before might (`past`), and else only what one after may
pub record Elapses (before now : ℕ) (past since : ℕ → List ℕ → Type 0) (may_leave : List ℕ → Type 0) : Type 0 where
  pub later : before ≤ now
  pub nothing_else : (t : ℕ) (c : List ℕ) → t ≤ before → since t c → past t c ⊎ may_leave c
  pub keeps : (t : ℕ) (c : List ℕ) → t ≤ before → past t c → since t c

-- the count of failures rose, unless it is at the top of a u64
abbrev pub Failed : ℕ → ℕ → Type 0
Failed old new = min (old + 1) (2 ^ 64 - 1) ≤ new

-- the count of failures stays at Ok and rises at Err
abbrev pub CountsFailure : {T E : Type 0} → Result T E → ℕ → ℕ → Type 0
CountsFailure result old new = MatchResult result (λ _. new ≡ old) (λ _. Failed old new × (old ≤ new))

-- one call more failed: the count of calls rose by one, unless it is at the top of a u64
abbrev pub FailedCall : ℕ → ℕ → Type 0
FailedCall old new = Failed old new × (new ≤ old + 1)

-- one call more was made
abbrev pub CountsCall : {T E : Type 0} → Result T E → ℕ → ℕ → Type 0
CountsCall result old new = MatchResult result (λ _. new ≡ old + 1) (λ _. FailedCall old new)
