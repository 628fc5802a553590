-- What the reporter knows, and what its report does.
use Rattle.std.specs.Prelude.{◌≡◌, ℕ, List, refl}
use Rattle.std.specs.Coded.{Coded, code_by, coded_list, coded×, coded_ℕ}
use mathlib.Core.List.{IsPrefix}
use Rattle.logbook.specs.Pages.{Book, book_coded}
use Rattle.overlay_terms.specs.Histories.{Entry}
use Rattle.book_history.specs.Codes.{entry_code}
use Rattle.book_history.specs.Logs.{newest_in}
use Rattle.book_lock.specs.Steps.{IsReportedIn}

-- which book it is of, the log that it has seen, and a count of which nothing is claimed
pub record Heard : Type 0 where
  pub book : Book
  pub log : List Entry
  pub given : ℕ

-- a log has all that the reporter has seen, and its last durable number is the reporter's: nobody else reported one
pub record HasHeard (log : List Entry) (reporter : Heard) : Type 0 where
  pub longer : IsPrefix reporter.log log
  pub durable : (newest_in log).durable ≡ (newest_in reporter.log).durable

-- the reporter reported a number: in a log that has all that it had seen, and no durable number but its own
pub record IsReportedBy (reporter : Heard) (number : ℕ) (after : List Entry) : Type 0 where
  pub log : List Entry
  pub heard : HasHeard log reporter
  pub reported : IsReportedIn log number after

-- what the reporter knows as data that a model's value may hold
abbrev pub heard_code : Coded Heard
heard_code =
    code_by (Book × (List Entry × ℕ)) (coded× book_coded (coded× (coded_list entry_code) coded_ℕ)) (λ h. (h.book, (h.log, h.given))) (λ p. record { book = p.0; log = p.1.0; given = p.1.1 }) (λ _. refl)
