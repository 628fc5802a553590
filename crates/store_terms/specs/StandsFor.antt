-- What a file holds: a number, layers and finished tiles; or what is wrong with it.
use Rattle.std.specs.Prelude.{◌≡◌, ℕ, ◌+◌, ◌*◌, ◌%◌, ◌==◌, ◌&&◌, ◌||◌, if◌then◌else◌}
use Rattle.std.specs.Prelude.{nat_lt, nat_le, Bool, not, List, length, slice_index, Option, Some, None, Result, Ok, Err}
use Rattle.overlay_terms.specs.Commands.{version_max}
use Rattle.disk_model.specs.Disk.{part}
use Rattle.store_terms.specs.declared.damage.Damage.{Damage}
use Rattle.store_terms.specs.declared.damage.Damage.TheVariants.{NotAStore, Format, Numbers}
use Rattle.store_terms.specs.Places.{block_size}
use Rattle.store_terms.specs.declared.root.Root.{Root}
use Rattle.store_terms.specs.declared.root.Body.{Body}
use Rattle.store_terms.specs.Roots.{body_in, body_read, format_of, sequence_max}
use Rattle.store_terms.specs.Image.{◌>>=◌, Held, held_of}

-- where the two slots end, a block each
abbrev pub slots_end : ℕ
slots_end = block_size * 2

-- where the gate of a slot is: at the beginning of its block
abbrev pub gate_at : ℕ → ℕ
gate_at k = block_size * k

-- where the body of a slot is: 16 bytes after its gate
abbrev pub body_at : ℕ → ℕ
body_at k = block_size * k + 16

-- the value of a gate that is open
abbrev pub open_gate : ℕ
open_gate = 167

-- the byte by which a slot counts or not
abbrev pub gate : List ℕ → ℕ → ℕ
gate file k = slice_index file (gate_at k)

-- the body of a slot, whatever its gate
abbrev pub body : List ℕ → ℕ → Body
body file k = body_in (part file (body_at k) body_read)

-- whether the root may be in a slot: its numbers are not too great, and its sequence is one of the slot
abbrev pub fits_slot : ℕ → Root → Bool
fits_slot k r = nat_le r.sequence sequence_max && nat_le r.version version_max && (r.sequence % 2 == k)

-- whether a slot is open and not ours
abbrev pub is_foreign : List ℕ → ℕ → Bool
is_foreign file k = (gate file k == open_gate) && not (body file k).is_ours

-- the root in a slot, if its gate is open
abbrev pub slot : List ℕ → ℕ → Result (Option Root) Damage
slot file k =
    if gate file k == open_gate
    then (if (body file k).format == format_of (body file k).root then (if fits_slot k (body file k).root then Ok (Some (body file k).root) else Err Numbers) else Err Format)
    else Ok None

-- the root with the greater sequence
abbrev pub newer_root : Option Root → Option Root → Result Root Damage
newer_root None None = Err NotAStore
newer_root (Some a) None = Ok a
newer_root None (Some b) = Ok b
newer_root (Some a) (Some b) = if nat_lt b.sequence a.sequence then Ok a else Ok b

-- the root of a file: both slots are ours, then the numbers of the one and the other are right, then the newer is taken
unfoldable pub root_of : List ℕ → Result Root Damage
root_of file =
    if nat_lt (length file) slots_end || (is_foreign file 0 || is_foreign file 1) then Err NotAStore
    else (slot file 0 >>= λ a. slot file 1 >>= λ b. newer_root a b)

-- what opening the file gives
abbrev pub reading : List ℕ → Result Held Damage
reading file = root_of file >>= λ r. held_of file r

-- the file holds a number, layers and finished tiles
abbrev pub StandsFor : Held → List ℕ → Type 0
StandsFor held file = reading file ≡ Ok held
