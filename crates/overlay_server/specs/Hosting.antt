-- A server's book as it is opened.
use Rattle.std.specs.Prelude.{◌≡◌, ℕ, is_some, None, []}
use Rattle.logbook.specs.Pages.{Book}
use Rattle.disk_model.specs.declared.disk.Disk.{Ghosts}
use Rattle.book_history.specs.declared.seen_log.BookName as book_name
use Rattle.book_lock.specs.Steps.{beginners}
use Rattle.store_flushing.specs.Stores.{flusher_in, reporter_of, notes_by}
use Rattle.version_book.specs.Store.{has_store}
use Rattle.overlay_server.specs.Answering.{answer_in}
use Rattle.overlay_server.specs.Moments.{HasOnlyNow}
use Rattle.overlay_server.specs.Serving.{first_log}
use Rattle.overlay_server.specs.declared.hosted.Hosted.{Hosted}

-- a book was just opened for so many sessions: this is its first version, which alone its reporter and these have seen;
-- it knows whether it has a store, nothing was reported durable, and since now there is no other moment of the disk
pub record IsHosted {J S D : Type 0} {j : book_name.Ghosts J} {g : Ghosts D} (book : Book) (count : ℕ) (hosted : Hosted J S D j g) : Type 0 where
  pub number : hosted.number ≡ hosted.version.value.number
  pub first : hosted.seen_log.log ≡ first_log hosted.version.value
  pub answer : answer_in hosted.answer ≡ None
  pub now : HasOnlyNow g
  pub stored : has_store hosted.shared ≡ is_some (flusher_in hosted.store)
  pub of : (reporter_of hosted.store).book ≡ book
  pub begun : (reporter_of hosted.store).log ≡ first_log hosted.version.value
  pub unreported : notes_by hosted.store ≡ []
  pub sessions : hosted.sessions.items ≡ beginners (record { book = book; log = first_log hosted.version.value }) count
