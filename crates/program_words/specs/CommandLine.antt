-- How the words after the program's name are read: `clap` finds what belongs to each option and which words are scripts,
-- and the limits are tested on that. Only private functions cite this: what words ask for, Synopsis says alone.
use Rattle.std.specs.Prelude.{ℕ, ◌==◌, nat_le, Bool, true, false, ◌&&◌, ◌||◌, not, if◌then◌else◌, List, [], ◌∷◌, length}
use Rattle.std.specs.Prelude.{Option, Some, None, is_some, unwrap_or, option_and_then, codes, bytes_eq}
use Rattle.std.specs.List.{list_all}
use Rattle.clap.specs.Words.{App, Row, Rule, Text, all_of, fault_of, first_of, matches_of, new_app, new_rule, with_rule}
use Rattle.clap.specs.declared.builder.action.ArgAction.TheVariants.{Append, SetTrue}
use Rattle.overlay_terms.specs.Bytes.{digits_number}
use Rattle.program_words.specs.Synopsis.{RunRequest}
use Rattle.program_words.specs.declared.keeping.Opening.{Opening}
use Rattle.program_words.specs.declared.keeping.Opening.TheVariants.{Existing, New, ReadOnly}

-- whether a word is allowed: one that begins with a hyphen is one of the four options, or the hyphen alone
abbrev pub is_known : Text → Bool
is_known [] = true
is_known (b ∷ rest) = not (b == 45) || (let text = b ∷ rest in bytes_eq text (codes "-") || bytes_eq text (codes "--store")
    || bytes_eq text (codes "--create") || bytes_eq text (codes "--workers") || bytes_eq text (codes "--max-blocks"))

-- an option of this name, which takes the word after it as its value
abbrev pub option : Text → Rule
option name = record (new_rule name) { long = Some name }

-- a flag of this name, which takes no value
abbrev pub flag : Text → Rule
flag name = record (option name) { action = Some SetTrue }

-- the words that belong to no option
abbrev pub others : Text → Rule
others name = record (new_rule name) { action = Some Append }

-- [--store FILE] [--create] [--workers N] [--max-blocks N] [SCRIPT]...
unfoldable pub command_line : App
command_line =
    with_rule (with_rule (with_rule (with_rule (with_rule (new_app (codes "overlayd"))
    (option (codes "store"))) (flag (codes "create"))) (option (codes "workers"))) (option (codes "max-blocks"))) (others (codes "script"))

-- whether a text is `true`, as that of a flag that is given
abbrev pub is_set : Option Text → Bool
is_set None = false
is_set (Some text) = bytes_eq text (codes "true")

-- how a store's file is opened: made or read alone only where it is named, and not both
abbrev pub opening_of : (create read_only has_store : Bool) → Option Opening
opening_of false false has_store = Some Existing
opening_of true false true = Some New
opening_of false true true = Some ReadOnly
opening_of _ _ _ = None

-- the number that a text spells if it is 1 to `most`, and the usual one where there is no text
abbrev pub number_or : Option Text → ℕ → ℕ → Option ℕ
number_or None usual most = Some usual
number_or (Some text) usual most = option_and_then (λ n. if nat_le 1 n && nat_le n most then Some n else None) (digits_number 7 text)

-- at most four scripts
abbrev pub are_few : ℕ → Bool
are_few scripts = nat_le scripts 4

abbrev pub within_limits : RunRequest → Option RunRequest
within_limits r = if are_few (length r.paths) then Some r else None

-- what the values that belong to the options ask for
abbrev pub request_in : List Row → Option RunRequest
request_in rows =
    option_and_then (λ opening. option_and_then (λ workers. option_and_then (λ max_blocks. within_limits (record {
      store = first_of (codes "store") rows;
      opening = opening;
      workers = workers;
      max_blocks = max_blocks;
      paths = unwrap_or (all_of (codes "script") rows) [];
    })) (number_or (first_of (codes "max-blocks") rows) 65536 1048576)) (number_or (first_of (codes "workers") rows) 2 8))
    (opening_of (is_set (first_of (codes "create") rows)) false (is_some (first_of (codes "store") rows)))

-- what the words after the program's name ask for, if each is allowed and `clap` has nothing against them
abbrev pub run_request_of : List Text → Option RunRequest
run_request_of words =
    let all = codes "overlayd" ∷ words in
    if list_all is_known words && (length (fault_of command_line all) == 0) then request_in (matches_of command_line all) else None
