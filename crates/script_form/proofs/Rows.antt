-- What worked lines ask for, and the lines of worked scripts.
use Rattle.std.proofs.Common.{◌≡◌, pos, negsuc, Some, None, [], ◌∷◌, refl, codes}
use Rattle.script_form.specs.Lines.{ended_lines, whole_lines}
use Rattle.script_form.specs.Words.{number_of}
use Rattle.script_form.specs.Requests.{nothing, malformed, put_text, define_text, remove_name, locate, grid, list_layers, edges, wait, verify, sync, batch, request_of}

a_text_runs_to_the_end_of_its_line : request_of (codes "PUT A POLYGON  EMPTY ") ≡ put_text (codes "A") (codes "POLYGON  EMPTY ")
a_text_runs_to_the_end_of_its_line = refl

gaps_part_words : request_of (codes " \tPUT\tA \t POLYGON EMPTY") ≡ put_text (codes "A") (codes "POLYGON EMPTY")
gaps_part_words = refl

put_wants_a_text : request_of (codes "PUT A ") ≡ malformed
put_wants_a_text = refl

a_definition_stands_behind_its_sign : request_of (codes "DEFINE I = A & B") ≡ define_text (codes "I") (codes "A & B")
a_definition_stands_behind_its_sign = refl

no_gap_is_wanted_round_the_sign : request_of (codes "DEFINE I=A") ≡ define_text (codes "I") (codes "A")
no_gap_is_wanted_round_the_sign = refl

a_definition_may_be_empty : request_of (codes "DEFINE I = ") ≡ define_text (codes "I") []
a_definition_may_be_empty = refl

define_wants_a_name : request_of (codes "DEFINE = A") ≡ malformed
define_wants_a_name = refl

define_wants_its_sign : request_of (codes "DEFINE I A") ≡ malformed
define_wants_its_sign = refl

drop_takes_a_name : request_of (codes "DROP I ") ≡ remove_name (codes "I")
drop_takes_a_name = refl

drop_takes_one_name : request_of (codes "DROP A B") ≡ malformed
drop_takes_one_name = refl

a_point_has_a_denominator : request_of (codes "LOCATE I 14 15 2") ≡ locate (codes "I") (pos 14) (pos 15) (pos 2)
a_point_has_a_denominator = refl

a_whole_point_has_none : request_of (codes "LOCATE I -7 +2") ≡ locate (codes "I") (negsuc 6) (pos 2) (pos 1)
a_whole_point_has_none = refl

a_point_has_no_fourth_number : request_of (codes "LOCATE I 1 2 3 4") ≡ malformed
a_point_has_no_fourth_number = refl

a_point_has_two_numbers : request_of (codes "LOCATE I 1") ≡ malformed
a_point_has_two_numbers = refl

a_grid_has_five_numbers : request_of (codes "GRID I 0 -2 3 4 5") ≡ grid (codes "I") (pos 0) (negsuc 1) (pos 3) (pos 4) (pos 5)
a_grid_has_five_numbers = refl

a_grid_has_no_sixth_number : request_of (codes "GRID I 0 0 2 4 4 4") ≡ malformed
a_grid_has_no_sixth_number = refl

a_grid_has_no_four_numbers : request_of (codes "GRID I 0 0 2 4") ≡ malformed
a_grid_has_no_four_numbers = refl

a_grid_is_of_numbers_alone : request_of (codes "GRID I 0 0 2 4 high") ≡ malformed
a_grid_is_of_numbers_alone = refl

layers_stands_alone : request_of (codes "LAYERS") ≡ list_layers
layers_stands_alone = refl

layers_takes_no_name : request_of (codes "LAYERS A") ≡ malformed
layers_takes_no_name = refl

edges_takes_a_column : request_of (codes "EDGES I 8") ≡ edges (codes "I") (pos 8)
edges_takes_a_column = refl

a_column_may_be_asked_below_zero : request_of (codes "VERIFY I -1") ≡ verify (codes "I") (negsuc 0)
a_column_may_be_asked_below_zero = refl

wait_takes_a_name : request_of (codes "WAIT I") ≡ wait (codes "I")
wait_takes_a_name = refl

sync_stands_alone : request_of (codes "SYNC") ≡ sync
sync_stands_alone = refl

sync_takes_no_name : request_of (codes "SYNC I") ≡ malformed
sync_takes_no_name = refl

batch_takes_a_number : request_of (codes "BATCH 3") ≡ batch (pos 3)
batch_takes_a_number = refl

batch_wants_its_number : request_of (codes "BATCH") ≡ malformed
batch_wants_its_number = refl

batch_takes_one_number : request_of (codes "BATCH 2 3") ≡ malformed
batch_takes_one_number = refl

a_batch_has_a_number : request_of (codes "BATCH two") ≡ malformed
a_batch_has_a_number = refl

commands_are_in_upper_case : request_of (codes "layers") ≡ malformed
commands_are_in_upper_case = refl

gaps_alone_ask_for_nothing : request_of (codes " \t") ≡ nothing
gaps_alone_ask_for_nothing = refl

a_comment_asks_for_nothing : request_of (codes "# LAYERS") ≡ nothing
a_comment_asks_for_nothing = refl

a_comment_begins_its_line : request_of (codes " # LAYERS") ≡ malformed
a_comment_begins_its_line = refl

zeros_may_stand_first : number_of (codes "-007") ≡ Some (negsuc 6)
zeros_may_stand_first = refl

a_number_has_at_most_eighteen_digits : number_of (codes "1000000000000000000") ≡ None
a_number_has_at_most_eighteen_digits = refl

a_sign_is_no_number : number_of (codes "+") ≡ None
a_sign_is_no_number = refl

a_number_is_whole : number_of (codes "1.0") ≡ None
a_number_is_whole = refl

a_cr_before_its_line_feed_goes : whole_lines (codes "WAIT I\r\nLAYERS\r") ≡ codes "WAIT I" ∷ codes "LAYERS\r" ∷ []
a_cr_before_its_line_feed_goes = refl

a_line_feed_ends_its_line : ended_lines (codes "WAIT I\n\nLAYERS") ≡ codes "WAIT I" ∷ [] ∷ []
a_line_feed_ends_its_line = refl
