-- What a reporter has seen of a log.
use Rattle.std.proofs.Common.{◌≡◌, ℕ, List, refl, ap, sym, ◌∙◌}
use Rattle.logbook.specs.Pages.{Book}
use Rattle.overlay_terms.specs.Histories.{Version, Entry}
use Rattle.book_history.specs.Logs.{newest_in}
use Rattle.book_history.specs.BookLogs.{BookLog}
use Rattle.book_lock.specs.Heard.{Heard}

-- a reporter has moved on to a log of its book
pub moved : (was now : Heard) (to : BookLog) (given n : ℕ) (book : Book) (log : List Entry)
    → now ≡ record { book = was.book; log = to.log; given = given } → to ≡ record { book = book; log = log }
    → given ≡ n → now ≡ record { book = was.book; log = log; given = n }
moved was now to given n book log is at news =
    is ∙ ap (λ (t : BookLog). record { book = was.book; log = t.log; given = given }) at
    ∙ ap (λ k. record { book = was.book; log = log; given = k }) news

-- the durable number in the version of a log's end
pub durable_there : (at : BookLog) (book : Book) (log : List Entry) (end version : Version) {durable : ℕ} → at ≡ record { book = book; log = log }
    → end ≡ newest_in log → version ≡ end → durable ≡ version.durable → (newest_in at.log).durable ≡ durable
durable_there at book log end version is newest same reported =
    ap (λ (t : BookLog). (newest_in t.log).durable) is ∙ ap (λ (v : Version). v.durable) (sym newest ∙ sym same) ∙ sym reported
