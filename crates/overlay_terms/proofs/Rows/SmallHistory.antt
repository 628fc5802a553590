-- A small history: a session puts A, another defines I, an empty tile of I is kept, and version 2 is durable.
use Rattle.std.proofs.Common.{◌≡◌, Some, None, [], ◌∷◌, refl, map, codes}
use Rattle.overlay_terms.specs.Trees.{leaf}
use Rattle.overlay_terms.specs.Commands.{Command, put, define, applied}
use Rattle.overlay_terms.specs.Batches.{Batch}
use Rattle.overlay_terms.specs.Histories.{pieces, oversize, Finished, tile_at, Version, accepted, kept, durable_to, History, newest, own_command, commands_of, BeginsWith}
use Rattle.overlay_terms.proofs.Rows.Shared.{square}

abbrev pub empty : Version
empty = record { number = 0; layers = []; tiles = []; durable = 0 }

abbrev pub put_a : Command
put_a = put (codes "A") (square 0 10 ∷ [])

abbrev pub define_i : Command
define_i = define (codes "I") (leaf (codes "A"))

-- each of them is a batch of one
abbrev one : Command → Batch
one command = command ∷ []

abbrev finished : Finished
finished = record { name = codes "I"; column = 32; tile = pieces [] }

abbrev pub with_a : Version
with_a = record { number = 1; layers = applied [] put_a; tiles = []; durable = 0 }

abbrev pub with_i : Version
with_i = record { number = 2; layers = applied (applied [] put_a) define_i; tiles = []; durable = 0 }

-- both by one batch
abbrev pub with_both : Version
with_both = record { number = 1; layers = with_i.layers; tiles = []; durable = 0 }

abbrev pub with_tile : Version
with_tile = record { number = 2; layers = with_i.layers; tiles = finished ∷ []; durable = 0 }

abbrev pub all_durable : Version
all_durable = record { number = 2; layers = with_i.layers; tiles = finished ∷ []; durable = 2 }

abbrev pub small_history : History
small_history = record {
  start = empty;
  entries =
      record { event = accepted 0 (one put_a); version = with_a } ∷ record { event = accepted 1 (one define_i); version = with_i }
      ∷ record { event = kept (codes "I") 32 (pieces []); version = with_tile } ∷ record { event = durable_to 2; version = all_durable } ∷ [];
}

the_newest_version_is_durable : newest small_history ≡ all_durable
the_newest_version_is_durable = refl

without_entries_it_is_the_first : newest (record { start = empty; entries = [] }) ≡ empty
without_entries_it_is_the_first = refl

each_session_made_one_batch : map (λ session. commands_of session small_history.entries) (0 ∷ 1 ∷ 2 ∷ []) ≡ (one put_a ∷ []) ∷ (one define_i ∷ []) ∷ [] ∷ []
each_session_made_one_batch = refl

a_batch_of_two_is_one_entry : map (λ session. commands_of session (record { event = accepted 1 (put_a ∷ define_i ∷ []); version = with_both } ∷ [])) (0 ∷ 1 ∷ []) ≡ [] ∷ ((put_a ∷ define_i ∷ []) ∷ []) ∷ []
a_batch_of_two_is_one_entry = refl

a_tile_is_nobodys_batch : map (own_command 0) (accepted 0 (one put_a) ∷ accepted 1 (one put_a) ∷ kept (codes "I") 32 (pieces []) ∷ durable_to 2 ∷ []) ≡ Some (one put_a) ∷ None ∷ None ∷ None ∷ []
a_tile_is_nobodys_batch = refl

one_tile_is_finished : map (tile_at all_durable.tiles (codes "I")) (31 ∷ 32 ∷ []) ≡ None ∷ Some (pieces []) ∷ []
one_tile_is_finished = refl

a_layer_of_another_name_has_none : tile_at all_durable.tiles (codes "J") 32 ≡ None
a_layer_of_another_name_has_none = refl

the_first_of_two_tiles_counts : tile_at (finished ∷ record { name = codes "I"; column = 32; tile = oversize } ∷ []) (codes "I") 32 ≡ Some (pieces [])
the_first_of_two_tiles_counts = refl

it_begins_with_its_first_entry : BeginsWith small_history (record { start = empty; entries = record { event = accepted 0 (one put_a); version = with_a } ∷ [] })
it_begins_with_its_first_entry = (record { event = accepted 1 (one define_i); version = with_i } ∷ record { event = kept (codes "I") 32 (pieces []); version = with_tile } ∷ record { event = durable_to 2; version = all_durable } ∷ [], refl)
