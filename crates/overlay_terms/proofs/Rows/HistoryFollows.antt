-- The small history is one: each of its versions follows the one before it.
use Rattle.std.proofs.Common.{◌≡◌, ℕ, Bool, true, false, Option, None, [], ◌∷◌, refl, codes, if◌then◌else◌, arith}
use Rattle.overlay_terms.specs.Trees.{Steps}
use Rattle.overlay_terms.specs.Tiles.{IsTileOf, input_of}
use Rattle.overlay_terms.specs.Histories.{Tile, pieces, FollowsBatch, FollowsTile, FollowsReport, IsHistory, IsTileAt, pieces_max}
use Rattle.overlay_terms.proofs.Rows.SmallHistory.{empty, put_a, define_i, with_a, with_i, with_both, with_tile, all_durable, small_history}

abbrev no_tile : Option Tile
no_tile = None

nothing_either_way : (b : Bool) → no_tile ≡ (if b then no_tile else no_tile)
nothing_either_way true = refl
nothing_either_way false = refl

a_column_without_segments_has_the_empty_tile : (steps : Steps) (k : ℕ) → IsTileOf [] steps k []
a_column_without_segments_has_the_empty_tile steps k = record {
  ordered = λ i j d before within. absurd (omega (arith, within));
  sound = λ i d within. absurd (omega (arith, within));
  complete = λ p r boundary. absurd (omega (arith, boundary.piece.among.1));
}

the_put_is_followed : FollowsBatch empty (put_a ∷ []) with_a
the_put_is_followed = record { accepted_there = refl; number = refl; layers = refl; tiles = λ name k. refl; durable = refl }

the_definition_is_followed : FollowsBatch with_a (define_i ∷ []) with_i
the_definition_is_followed = record { accepted_there = refl; number = refl; layers = refl; tiles = λ name k. nothing_either_way _; durable = refl }

both_are_followed_as_one : FollowsBatch empty (put_a ∷ define_i ∷ []) with_both
both_are_followed_as_one = record { accepted_there = refl; number = refl; layers = refl; tiles = λ name k. nothing_either_way _; durable = refl }

the_last_column_of_i_is_empty : IsTileAt pieces_max (input_of with_i.layers (codes "I") 32) (pieces [])
the_last_column_of_i_is_empty = (omega arith, a_column_without_segments_has_the_empty_tile _ 32)

the_tile_is_followed : FollowsTile with_i (codes "I") 32 (pieces []) with_tile
the_tile_is_followed = record {
  derived_layer = refl;
  known_column = omega arith;
  pending = refl;
  right = the_last_column_of_i_is_empty;
  number = refl;
  layers = refl;
  tiles = λ other k. refl;
  durable = refl;
}

the_report_is_followed : FollowsReport with_tile 2 all_durable
the_report_is_followed = record {
  risen = omega arith;
  not_beyond = omega arith;
  same_number = refl;
  layers = refl;
  tiles = λ name k. refl;
  durable = refl;
}

pub the_small_history_is_one : IsHistory small_history
the_small_history_is_one = (the_put_is_followed, (the_definition_is_followed, (the_tile_is_followed, (the_report_is_followed, tt))))
