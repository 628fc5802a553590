-- What a turn comes to: nothing is made, or the batch that it asks for is accepted.
use Rattle.std.proofs.Common.{◌≡◌, ℕ, ◌⊎◌, inl, inr, true, false, List, [], ◌∷◌, Option, Some, None, refl, sym, ap, ◌∙◌, bytes_eq}
use Rattle.std.proofs.lemmas.Bool.{true≢false, or_left, or_right}
use Rattle.std.specs.Option.{option_map}
use Rattle.overlay_terms.specs.Batches.{Batch, BatchRefusal, at, whole, reason_of, batch_refusal_at}
use Rattle.overlay_terms.specs.Commands.{Command, Refusal}
use Rattle.overlay_terms.specs.Histories.{History, Version, newest}
use Rattle.overlay_terms.proofs.BatchLemmas.{one_is_refused_alike}
use Rattle.overlay_terms.proofs.NameLemmas.{name_itself}
use Rattle.script_form.specs.declared.fault.CommandFault.{CommandFault}
use Rattle.script_form.specs.declared.fault.CommandFault.TheVariants.{OutOfMemory, CommandSyntax, LineTooLong, Closing, Gone}
use Rattle.script_form.specs.Replies.{error_line}
use Rattle.script_form.specs.Requests.{Request, too_long, put_text, define_text, remove_name, sync}
use Rattle.script_form.specs.Transcript.{BookStore, IsRefused, IsAcceptedBy, IsSubmitted, IsSubmittedAll, IsRefusedBatch, IsChanged, IsAnswered, IsBatchAnswered, IsTurnAnswered, IsTurn}
use Rattle.script_form.specs.Turns.{Turn, alone, together, cut_off}
use Rattle.line_laws.specs.Deciding.{is_from_outside}
use Rattle.line_laws.proofs.Asking.{AsksFor, TurnAsks}

-- the layers decide that no batch is made: none is asked for, or the version refuses the one that is
pub record IsDeclined (turn : Turn) (version : Version) : Type 0 where
  pub asked : Option Batch
  pub asks : TurnAsks turn asked
  pub why : (asked ≡ None) ⊎ ((commands : Batch) × (refusal : BatchRefusal) × (asked ≡ Some commands) × (batch_refusal_at version.number version.layers commands ≡ Some refusal))

-- nothing is made: from outside, or as it is declined
pub record IsUnmade (turn : Turn) (after : History) (made : List Batch) (reply : List ℕ) : Type 0 where
  pub none : made ≡ []
  pub declined : is_from_outside reply ≡ false → IsDeclined turn (newest after)

-- the batch that is asked for is accepted
pub record IsMade (session : ℕ) (before : History) (turn : Turn) (after : History) (made : List Batch) (reply : List ℕ) : Type 0 where
  pub commands : Batch
  pub asks : TurnAsks turn (Some commands)
  pub how : IsAcceptedBy session before commands after made reply

abbrev pub Comes : ℕ → History → Turn → History → List Batch → List ℕ → Type 0
Comes session before turn after made reply = IsUnmade turn after made reply ⊎ IsMade session before turn after made reply

-- ==== Faults from outside

refuses : (fault : CommandFault) (made : List Batch) (reply : List ℕ) → IsRefused fault made reply → bytes_eq reply (error_line fault) ≡ true
refuses fault made reply r = ap (λ (l : List ℕ). bytes_eq l (error_line fault)) r.says ∙ name_itself (error_line fault)

memory_outside : (made : List Batch) (reply : List ℕ) → IsRefused OutOfMemory made reply → is_from_outside reply ≡ true
memory_outside made reply r = or_left (bytes_eq reply (error_line OutOfMemory)) _ (refuses OutOfMemory made reply r)

closing_outside : (made : List Batch) (reply : List ℕ) → IsRefused Closing made reply → is_from_outside reply ≡ true
closing_outside made reply r =
    or_right (bytes_eq reply (error_line OutOfMemory)) _ (or_left (bytes_eq reply (error_line Closing)) _ (refuses Closing made reply r))

gone_outside : (made : List Batch) (reply : List ℕ) → IsRefused Gone made reply → is_from_outside reply ≡ true
gone_outside made reply r =
    or_right (bytes_eq reply (error_line OutOfMemory)) _ (or_right (bytes_eq reply (error_line Closing)) _ (refuses Gone made reply r))

outside : (turn : Turn) (after : History) (made : List Batch) (reply : List ℕ) → made ≡ [] → is_from_outside reply ≡ true → IsUnmade turn after made reply
outside turn after made reply none is = record { none = none; declined = λ other. absurd (true≢false (sym is ∙ other)) }

-- ==== Commands

-- nothing is asked for
idle : (turn : Turn) (after : History) (made : List Batch) (reply : List ℕ) → TurnAsks turn None → made ≡ [] → IsUnmade turn after made reply
idle turn after made reply asks none = record { none = none; declined = λ _. record { asked = None; asks = asks; why = inl refl } }

idle_line : (request : Request) (after : History) (made : List Batch) (reply : List ℕ) → AsksFor request None → made ≡ [] → IsUnmade (alone request) after made reply
idle_line request after made reply asks none = idle (alone request) after made reply asks none

-- a reason without its place comes of one with it
some_reason : (o : Option BatchRefusal) (refusal : Refusal) → option_map reason_of o ≡ Some refusal → (reason : BatchRefusal) × (o ≡ Some reason)
some_reason None refusal is = absurd (cc)
some_reason (Some reason) refusal is = (reason, refl)

submitted : (session : ℕ) (before : History) (request : Request) (command : Command) (after : History) (made : List Batch) (reply : List ℕ)
    → AsksFor request (Some command) → IsSubmitted session before command after made reply → Comes session before (alone request) after made reply
submitted session before request command after made reply asks (inl closing) =
    inl (outside (alone request) after made reply closing.nothing_made (closing_outside made reply closing))
submitted session before request command after made reply asks (inr (inl gone)) =
    inl (outside (alone request) after made reply gone.nothing_made (gone_outside made reply gone))
submitted session before request command after made reply asks (inr (inr (inl (refusal, is, refused)))) =
    let version = newest after in
    let reason = some_reason (batch_refusal_at version.number version.layers (command ∷ [])) refusal (one_is_refused_alike version.number version.layers command ∙ is) in
    inl (record {
      none = refused.nothing_made;
      declined = λ _. record { asked = Some (command ∷ []); asks = (command, asks, refl); why = inr (command ∷ [], reason.0, refl, reason.1) };
    })
submitted session before request command after made reply asks (inr (inr (inr by))) =
    inr (record { commands = command ∷ []; asks = (command, asks, refl); how = by })

-- ==== Batches

refused_none : (refusal : BatchRefusal) (made : List Batch) (reply : List ℕ) → IsRefusedBatch refusal made reply → made ≡ []
refused_none (at place reason) made reply refused = refused.nothing_made
refused_none (whole reason) made reply refused = refused.nothing_made

submitted_all : (session : ℕ) (before : History) (requests : List Request) (commands : Batch) (after : History) (made : List Batch) (reply : List ℕ)
    → TurnAsks (together requests) (Some commands) → IsSubmittedAll session before commands after made reply → Comes session before (together requests) after made reply
submitted_all session before requests commands after made reply asks (inl closing) =
    inl (outside (together requests) after made reply closing.nothing_made (closing_outside made reply closing))
submitted_all session before requests commands after made reply asks (inr (inl gone)) =
    inl (outside (together requests) after made reply gone.nothing_made (gone_outside made reply gone))
submitted_all session before requests commands after made reply asks (inr (inr (inl (refusal, is, refused)))) =
    inl (record {
      none = refused_none refusal made reply refused;
      declined = λ _. record { asked = Some commands; asks = asks; why = inr (commands, refusal, refl, is) };
    })
submitted_all session before requests commands after made reply asks (inr (inr (inr by))) = inr (record { commands = commands; asks = asks; how = by })

together_comes : (session : ℕ) (before : History) (requests : List Request) (after : History) (made : List Batch) (reply : List ℕ)
    → IsBatchAnswered session before requests after made reply → Comes session before (together requests) after made reply
together_comes session before requests after made reply (inl (place, fault, first, refused)) =
    inl (idle (together requests) after made reply (record { place = place; fault = fault; first = first }) refused.nothing_made)
together_comes session before requests after made reply (inr (commands, read, by)) =
    submitted_all session before requests commands after made reply read by

-- ==== Each request

module _ (stored : BookStore) (session : ℕ) (before after : History) (made : List Batch) (reply : List ℕ) where
  changed_comes : (request : Request) → IsChanged session before request after made reply → Comes session before (alone request) after made reply
  changed_comes request (inl (fault, none, refused)) = inl (idle_line request after made reply (fault, none) refused.nothing_made)
  changed_comes request (inr (command, is, by)) = submitted session before request command after made reply is by

  sync_none : IsAnswered stored session before sync after made reply → made ≡ []
  sync_none (inl (none, refused)) = refused.nothing_made
  sync_none (inr (inl refused)) = refused.nothing_made
  sync_none (inr (inr (inl (some, reported)))) = reported.nothing_made
  sync_none (inr (inr (inr (some, reported)))) = reported.refused.nothing_made

  -- of a question nothing is made
  answered_comes : (request : Request) → IsAnswered stored session before request after made reply → Comes session before (alone request) after made reply
  answered_comes (put_text name text) answered = changed_comes (put_text name text) answered
  answered_comes (define_text name text) answered = changed_comes (define_text name text) answered
  answered_comes (remove_name name) answered = changed_comes (remove_name name) answered
  answered_comes sync answered = inl (idle_line sync after made reply (CommandSyntax, refl) (sync_none answered))
  answered_comes too_long answered = inl (idle_line too_long after made reply (LineTooLong, refl) answered.0)
  answered_comes question answered = inl (idle_line question after made reply (CommandSyntax, refl) answered.0)

  taken_comes : (turn : Turn) → IsTurnAnswered stored session before turn after made reply → Comes session before turn after made reply
  taken_comes (alone request) (inl memory) = inl (outside (alone request) after made reply memory.1.nothing_made (memory_outside made reply memory.1))
  taken_comes (alone request) (inr by) = answered_comes request by
  taken_comes (together requests) (inl memory) = inl (outside (together requests) after made reply memory.nothing_made (memory_outside made reply memory))
  taken_comes (together requests) (inr by) = together_comes session before requests after made reply by
  taken_comes (cut_off requests) refused = inl (idle (cut_off requests) after made reply refl refused.nothing_made)

  -- each turn comes to one of both
  pub comes : (turn : Turn) → IsTurn stored session before turn after made reply → Comes session before turn after made reply
  comes turn taken = taken_comes turn taken.answered
