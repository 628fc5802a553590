-- The newest version of a history by its start and the accepted batches.
use Rattle.std.specs.Prelude.{◌≡◌, ℕ, ◌+◌, ◌==◌, Bool, true, false, List, [], ◌∷◌, map, filter, fold, length, Some, None, if◌then◌else◌}
use Rattle.std.specs.List.{cons_option}
use Rattle.std.proofs.Common.{refl, ap, ◌∙◌, subst, cond, arith}
use Rattle.overlay_terms.specs.Batches.{Batch, applied_all, AllBatchesAccepted}
use Rattle.overlay_terms.specs.Histories.{Version, Event, accepted, kept, durable_to, Follows, Entry, AllFollow, last_version, commands_in, commands_of, accepted_in}
use Rattle.overlay_terms.specs.HistoryLaws.{IsWithCommands, NewestHasCommands, OwnAreAmongAll}
use Rattle.overlay_terms.proofs.BatchLemmas.{accepted_by_layers, one_on}

-- the layers before a batch that leaves others, and then batches
with_batch : (old new last : Version) (batch : Batch) (batches : List Batch) → Follows old (accepted 0 batch) new → IsWithCommands new batches last → IsWithCommands old (batch ∷ batches) last
with_batch old new last batch batches follows later = record {
  accepted = (accepted_by_layers old batch follows.accepted_there, subst (λ layers. AllBatchesAccepted layers batches) follows.layers later.accepted);
  number = one_on last.number new.number old.number (length batches) later.number follows.number;
  layers = later.layers ∙ ap (λ layers. fold applied_all layers batches) follows.layers;
}

-- an event that leaves number and layers, and then batches
with_none : (old new last : Version) (batches : List Batch) → new.number ≡ old.number → new.layers ≡ old.layers → IsWithCommands new batches last → IsWithCommands old batches last
with_none old new last batches number layers later = record {
  accepted = subst (λ ls. AllBatchesAccepted ls batches) layers later.accepted;
  number = later.number ∙ ap (λ n. n + length batches) number;
  layers = later.layers ∙ ap (λ ls. fold applied_all ls batches) layers;
}

-- one entry before others
with_entry : (old : Version) (event : Event) (new last : Version) (entries : List Entry) → Follows old event new → IsWithCommands new (accepted_in entries) last → IsWithCommands old (accepted_in (record { event = event; version = new } ∷ entries)) last
with_entry old (accepted session batch) new last entries follows later = with_batch old new last batch (accepted_in entries) follows later
with_entry old (kept name column tile) new last entries follows later = with_none old new last (accepted_in entries) follows.number follows.layers later
with_entry old (durable_to number) new last entries follows later = with_none old new last (accepted_in entries) follows.same_number follows.layers later

-- a version is itself with no batch
with_nothing : (version : Version) → IsWithCommands version [] version
with_nothing version = record { accepted = tt; number = omega arith; layers = refl }

-- the last of versions that follow one another has all the batches
all_with : (version : Version) (entries : List Entry) → AllFollow version entries → IsWithCommands version (accepted_in entries) (last_version version entries)
all_with version [] follow = with_nothing version
all_with version (entry ∷ entries) (follows, follow) =
    with_entry version entry.event entry.version (last_version entry.version entries) entries follows (all_with entry.version entries follow)

-- the newest version of a history is its start with the accepted batches made
pub newest_has_commands : NewestHasCommands
newest_has_commands history follow = all_with history.start history.entries follow

-- a session's own batches, of one entry more
own_more : (session : ℕ) (event : Event) (version : Version) (entries : List Entry) → commands_of session entries ≡ map (λ c. c.1) (filter (λ c. c.0 == session) (commands_in entries))
    → commands_of session (record { event = event; version = version } ∷ entries) ≡ map (λ c. c.1) (filter (λ c. c.0 == session) (commands_in (record { event = event; version = version } ∷ entries)))
own_more session (accepted by batch) version entries e = split (by == session)
  where
    split : (b : Bool) → cons_option (if b then Some batch else None) (commands_of session entries)
        ≡ map (λ c. c.1) (cond b ((by, batch) ∷ filter (λ c. c.0 == session) (commands_in entries)) (filter (λ c. c.0 == session) (commands_in entries)))
    split true = ap (λ cs. batch ∷ cs) e
    split false = e
own_more session (kept name column tile) version entries e = e
own_more session (durable_to number) version entries e = e

-- the batches of a session are among all with its number
pub own_are_among_all : OwnAreAmongAll
own_are_among_all session [] = refl
own_are_among_all session (entry ∷ entries) = own_more session entry.event entry.version entries (own_are_among_all session entries)
