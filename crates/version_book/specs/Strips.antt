-- Neighbouring tiles that are handed out as one strip, and are spent one after another.
use Rattle.std.specs.Prelude.{◌≡◌, ◌<◌, ◌≤◌, ◌+◌, ℕ, List, length, get_or, take, refl}
use Rattle.std.specs.Coded.{Coded, code_by, coded_list, coded×, coded_ℕ}
use mathlib.Core.List.{IsPrefix}
use Rattle.logbook.specs.Pages.{Book, book_coded}
use Rattle.overlay_terms.specs.Histories.{Entry, Tile, Version}
use Rattle.overlay_terms.specs.Layers.{Name}
use Rattle.overlay_terms.specs.Tiles.{Input}
use Rattle.overlay_terms.specs.CommandCode.{name_code}
use Rattle.crossing_sweep.specs.StripInput.{StripInput, strip_input_code, part}
use Rattle.book_history.specs.Codes.{entry_code}
use Rattle.book_lock.specs.Steps.{AreFinishedIn}
use Rattle.version_book.specs.Jobs.{Handed, IsHandedOut, IsJob}
use Rattle.version_book.specs.declared.held_tiles.HeldTile.{HeldTile}

-- which book a strip is of, the log at which it was handed out, the name of its layer, what its tiles are built from, and the
-- first column whose tile is not spent
pub record HandedStrip : Type 0 where
  pub book : Book
  pub log : List Entry
  pub name : Name
  pub input : StripInput
  pub next : ℕ

-- the tile of one of its columns, as if it were handed out alone
abbrev pub job_in : HandedStrip → ℕ → Handed
job_in strip k = record { book = strip.book; log = strip.log; name = strip.name; input = part strip.input k }

-- each tile that is not spent was pending in the newest version of the log, and its part of the input was its input there
pub record IsStripJob (strip : HandedStrip) : Type 0 where
  pub from : strip.input.strip.first ≤ strip.next
  pub to : strip.next ≤ strip.input.strip.last + 1
  pub jobs : (k : ℕ) → strip.next ≤ k → k ≤ strip.input.strip.last → IsJob (job_in strip k)

-- so many tiles more are spent
abbrev pub without_first : ℕ → HandedStrip → HandedStrip
without_first count strip = record { book = strip.book; log = strip.log; name = strip.name; input = strip.input; next = strip.next + count }

-- tiles with their inputs, which are those of the columns from the next one on
pub record AreNext (strip : HandedStrip) (built : List (Input × Tile)) : Type 0 where
  pub few : strip.next + length built ≤ strip.input.strip.last + 1
  pub inputs : (i : ℕ) (d : Input × Tile) → i < length built → (get_or built i d).0 ≡ part strip.input (strip.next + i)

-- the next ones of a strip's tiles were spent with the first of those that were built, one after another, at a log that
-- goes on from that of the strip: each as a job is, and of these so many were kept
pub record AreFinishedBy (strip : HandedStrip) (built : List (Input × Tile)) (log : List Entry) (now : HandedStrip) (kept : ℕ) (after : List Entry) : Type 0 where
  pub count : ℕ
  pub few : count ≤ length built
  pub some : 0 < length built → 0 < count
  pub goes_on : IsPrefix strip.log log
  pub finished : AreFinishedIn log strip.name (take count built) after
  pub entries : length after ≡ length log + kept
  pub spent : now ≡ without_first count strip

-- a strip can be handed out: no tile of it is spent, and each can be handed out with its part of the input
pub record IsStripHandedOut (version : Version) (held : List HeldTile) (strip : HandedStrip) : Type 0 where
  pub whole : strip.next ≡ strip.input.strip.first
  pub each : (k : ℕ) → strip.input.strip.first ≤ k → k ≤ strip.input.strip.last → IsHandedOut version held strip.name (part strip.input k)

-- as data that a model's value may hold
abbrev pub strip_code : Coded HandedStrip
strip_code =
    code_by (Book × (List Entry × (Name × (StripInput × ℕ)))) (coded× book_coded (coded× (coded_list entry_code) (coded× name_code (coded× strip_input_code coded_ℕ))))
    (λ s. (s.book, (s.log, (s.name, (s.input, s.next))))) (λ p. record { book = p.0; log = p.1.0; name = p.1.1.0; input = p.1.1.1.0; next = p.1.1.1.1 }) (λ _. refl)
