-- Transcripts one after the other.
use Rattle.std.proofs.Common.{ℕ, Bool, List, [], ◌∷◌, ◌++◌, refl, sym, ap, ◌∙◌, subst, append_assoc, append-nil}
use Rattle.overlay_terms.specs.Batches.{Batch}
use Rattle.overlay_terms.specs.Histories.{History}
use Rattle.script_form.specs.Transcript.{BookStore, IsTurn, IsTranscript}
use Rattle.script_form.specs.Turns.{Turn}

-- one turn alone
pub transcript-one : (stored : BookStore) (session : ℕ) (seen : History) (turn : Turn) (after : History) (made : List Batch) (reply : List ℕ)
    → IsTurn stored session seen turn after made reply → IsTranscript stored session seen (turn ∷ []) after made reply
transcript-one stored session seen turn after made reply taken =
    (after, made, [], reply, [], taken, (refl, refl, refl), sym (append-nil made), sym (append-nil reply))

-- turns are answered at the history that the turns before have led to
pub transcript-join : (stored : BookStore) (session : ℕ) (seen : History) (turns : List Turn) (mid : History) (made : List Batch) (replies : List ℕ)
    → IsTranscript stored session seen turns mid made replies
    → (more : List Turn) (after : History) (others : List Batch) (rest : List ℕ) → IsTranscript stored session mid more after others rest
    → IsTranscript stored session seen (turns ++ more) after (made ++ others) (replies ++ rest)
transcript-join stored session seen [] mid made replies (same, none, empty) more after others rest run =
    subst (λ (m : List Batch). IsTranscript stored session seen more after m (replies ++ rest)) (ap (λ (m : List Batch). m ++ others) (sym none))
    (subst (λ (r : List ℕ). IsTranscript stored session seen more after others r) (ap (λ (r : List ℕ). r ++ rest) (sym empty))
    (subst (λ (h : History). IsTranscript stored session h more after others rest) same run))
transcript-join stored session seen (turn ∷ turns) mid made replies (next, one, two, first, second, taken, reported, all_made, all_reported) more after others rest run = (
  next,
  one,
  two ++ others,
  first,
  second ++ rest,
  taken,
  transcript-join stored session next turns mid two second reported more after others rest run,
  ap (λ (m : List Batch). m ++ others) all_made ∙ append_assoc one two others,
  ap (λ (r : List ℕ). r ++ rest) all_reported ∙ append_assoc first second rest,
)
