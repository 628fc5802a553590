-- What is answered to a request that does not ask the store is so whatever is known of the store.
use Rattle.std.proofs.Common.{◌≡◌, ℕ, ◌⊎◌, inl, inr, Bool, true, false, List}
use Rattle.std.proofs.lemmas.Bool.{true≢false}
use Rattle.std.proofs.lemmas.Int.{to_z-of_z}
use Rattle.overlay_terms.specs.Batches.{Batch}
use Rattle.overlay_terms.specs.Histories.{History}
use Rattle.book_history.specs.Known.{Known, seen}
use Rattle.script_form.specs.Requests.{Request, sync}
use Rattle.script_form.specs.Transcript.{BookStore, IsOutOfMemory, IsAnswered}
use Rattle.server_session.specs.Answering.{Answers}
use Rattle.server_session.specs.Stores.{no_store}

abbrev pub asks_store : Request → Bool
asks_store sync = true
asks_store other = false

-- by whatever is known of the store
same_answer : (stored other : BookStore) (session : ℕ) (before after : History) (request : Request) (made : List Batch) (reply : List ℕ) → asks_store request ≡ false
    → IsAnswered stored session before request after made reply → IsAnswered other session before request after made reply
same_answer stored other session before after sync made reply apart is = absurd (true≢false apart)
same_answer stored other session before after request made reply apart is = is

pub anywhere : (stored : BookStore) (was now : Known) {request : Request} (reply : List ℕ) → Answers no_store was request now reply → asks_store request ≡ false
    → Answers stored was request now reply
anywhere stored was now {request} reply is apart = record {
  stays = is.stays;
  made = is.made;
  answered = either is.made is.answered;
  only = is.only;
} where
  either : (made : List Batch) → IsOutOfMemory request made reply ⊎ IsAnswered no_store was.session (seen was) request (seen now) made reply
      → IsOutOfMemory request made reply ⊎ IsAnswered stored was.session (seen was) request (seen now) made reply
  either made (inl memory) = inl memory
  either made (inr answered) = inr (same_answer no_store stored was.session (seen was) (seen now) request made reply apart answered)

pub ruleset asked = (to_z-of_z, anywhere)
