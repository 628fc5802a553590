-- BookLogs, and what a session knows, as data that a model's value may hold.
use Rattle.std.specs.Prelude.{ℕ, List, refl}
use Rattle.std.specs.Coded.{Coded, code_by, coded_list, coded×, coded_ℕ}
use Rattle.overlay_terms.specs.CommandCode.{command_code}
use Rattle.overlay_terms.specs.Batches.{Batch}
use Rattle.overlay_terms.specs.Histories.{Entry}
use Rattle.logbook.specs.Pages.{Book, book_coded}
use Rattle.book_history.specs.Codes.{entry_code}
use Rattle.book_history.specs.BookLogs.{BookLog}
use Rattle.book_history.specs.Known.{Known}

abbrev pub book_log_code : Coded BookLog
book_log_code =
    code_by (Book × List Entry) (coded× book_coded (coded_list entry_code)) (λ t. (t.book, t.log)) (λ p. record { book = p.0; log = p.1 }) (λ _. refl)

abbrev pub known_code : Coded Known
known_code =
    code_by (Book × (ℕ × (List Entry × List Batch))) (coded× book_coded (coded× coded_ℕ (coded× (coded_list entry_code) (coded_list (coded_list command_code))))) (λ k. (k.book, (k.session, (k.log, k.made)))) (λ p. record { book = p.0; session = p.1.0; log = p.1.1.0; made = p.1.1.1 }) (λ _. refl)
