-- How the words after the live program's name are read where they ask for a run, by what
-- `clap` finds as in CommandLine.
use Rattle.std.specs.Prelude.{ℕ, ◌==◌, ◌%◌, nat_le, Bool, false, ◌&&◌, ◌||◌, if◌then◌else◌, List, [], ◌∷◌, length}
use Rattle.std.specs.Prelude.{Option, Some, None, is_some, unwrap_or, option_and_then, codes, bytes_eq}
use Rattle.std.specs.List.{list_all}
use Rattle.clap.specs.Words.{App, Row, Text, all_of, fault_of, first_of, matches_of, new_app, with_rule}
use Rattle.program_words.specs.CommandLine.{flag, is_known, is_set, number_or, opening_of, option, others}
use Rattle.program_words.specs.Synopsis.{RunRequest}

-- whether a word is allowed: as for the other program, and one option more
abbrev pub is_known_live : Text → Bool
is_known_live text = is_known text || bytes_eq text (codes "--read-only")

-- [--store FILE] [--create] [--read-only] [--workers N] [--max-blocks N] [PATH]...
unfoldable pub live_line : App
live_line =
    with_rule (with_rule (with_rule (with_rule (with_rule (with_rule (new_app (codes "overlay_live"))
    (option (codes "store"))) (flag (codes "create"))) (flag (codes "read-only"))) (option (codes "workers"))) (option (codes "max-blocks"))) (others (codes "path"))

-- the paths of at most four pairs
abbrev pub are_paired : ℕ → Bool
are_paired paths = paths % 2 == 0 && nat_le paths 8

abbrev pub paired : RunRequest → Option RunRequest
paired r = if are_paired (length r.paths) then Some r else None

-- what the values that belong to the options ask for
abbrev pub live_request_in : List Row → Option RunRequest
live_request_in rows =
    option_and_then (λ opening. option_and_then (λ workers. option_and_then (λ max_blocks. paired (record {
      store = first_of (codes "store") rows;
      opening = opening;
      workers = workers;
      max_blocks = max_blocks;
      paths = unwrap_or (all_of (codes "path") rows) [];
    })) (number_or (first_of (codes "max-blocks") rows) 65536 1048576)) (number_or (first_of (codes "workers") rows) 2 8))
    (opening_of (is_set (first_of (codes "create") rows)) (is_set (first_of (codes "read-only") rows)) (is_some (first_of (codes "store") rows)))

-- what words ask of a run, if each is allowed and `clap` has nothing against them
abbrev pub live_request_of : List Text → Option RunRequest
live_request_of words =
    let all = codes "overlay_live" ∷ words in
    if list_all is_known_live words && (length (fault_of live_line all) == 0) then live_request_in (matches_of live_line all) else None

-- whether a word is given alone
abbrev pub is_alone : Text → List Text → Bool
is_alone text (word ∷ []) = bytes_eq word text
is_alone text _ = false
