-- A beginning of a history, and the rule of what is published.
use Rattle.std.specs.Prelude.{ℕ, ◌≡◌, ◌<◌, List, [], length}
use mathlib.Core.Option.{some}
use mathlib.Core.List.{IsPrefix}
use lib.ListN.{get_elem?}
use Rattle.logbook.specs.Pages.{Book}
use Rattle.overlay_terms.specs.Histories.{Entry}

-- which history, and its entries so far
pub record BookLog : Type 0 where
  pub book : Book
  pub log : List Entry

abbrev pub no_book : Book
no_book = record { number = 0; log_name = 0; cells_name = 0 }

abbrev pub newcomer : BookLog
newcomer = record { book = no_book; log = [] }

-- t begins with v
abbrev pub Within : BookLog → BookLog → Type 0
Within v t = (0 < length v.log → v.book ≡ t.book) × IsPrefix v.log t.log

-- the log that is published begins with what each place has seen
abbrev pub AllWithin : BookLog → List BookLog → Type 0
AllWithin t views = (seat : ℕ) (v : BookLog) → get_elem? views seat ≡ some v → Within v t

-- t begins with v, which is a log of some length
abbrev pub Begins : BookLog → BookLog → Type 0
Begins v t = (0 < length v.log) × (v.book ≡ t.book) × IsPrefix v.log t.log

-- a log of some length, of this history
abbrev pub IsOf : Book → BookLog → Type 0
IsOf book t = (0 < length t.log) × (t.book ≡ book)
