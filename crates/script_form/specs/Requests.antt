-- What a line asks for: a table of commands, each its word and its arguments, and one reading of lines by it.
use Rattle.std.specs.Prelude.{ℕ, ℤ, [], ◌∷◌, if◌then◌else◌}
use Rattle.std.specs.Prelude.{List, codes, bytes_eq, Option, Some, None, option_and_then, unwrap_or}
use Rattle.std.specs.List.{list_all}
use Rattle.script_form.specs.Lines.{is_gap, is_skipped, is_too_long}
use Rattle.script_form.specs.Words.{word_at, left_side_at, number_at, number_or_one_at, right_side_at, text_at}
use Rattle.script_form.specs.declared.request.Request as code
use Rattle.script_form.specs.declared.request.Request.TheVariants.{Nothing, TooLong, Malformed, Put, Define}
use Rattle.script_form.specs.declared.request.Request.TheVariants.{Remove, Locate, Grid, ListLayers, Edges}
use Rattle.script_form.specs.declared.request.Request.TheVariants.{Wait, Verify, Sync, Batch}

-- a request: a name and a text, a name, a point with its denominator, a grid, a name and a column's number, how many
-- commands a batch has, or no more than its word
pub data Request : Type 0 where
  nothing : Request
  too_long : Request
  malformed : Request
  put_text : List ℕ → List ℕ → Request
  define_text : List ℕ → List ℕ → Request
  remove_name : List ℕ → Request
  locate : List ℕ → ℤ → ℤ → ℤ → Request
  grid : List ℕ → ℤ → ℤ → ℤ → ℤ → ℤ → Request
  list_layers : Request
  edges : List ℕ → ℤ → Request
  wait : List ℕ → Request
  verify : List ℕ → ℤ → Request
  sync : Request
  batch : ℤ → Request

-- ==== The table

-- a kind of argument: a word; a number; a number that is 1 where it is left out; a name that may end at a `=`; the `=`
-- and the text after it; a text. A text runs to the end of the line
pub data ArgumentKind : Type 0 where
  a_word : ArgumentKind
  a_number : ArgumentKind
  a_number_or_one : ArgumentKind
  a_left_side : ArgumentKind
  a_right_side : ArgumentKind
  a_text : ArgumentKind

-- what an argument is: a number, or bytes
abbrev pub Value : ArgumentKind → Type 0
Value a_word = List ℕ
Value a_number = ℤ
Value a_number_or_one = ℤ
Value a_left_side = List ℕ
Value a_right_side = List ℕ
Value a_text = List ℕ

-- the arguments of a command, one after another, and what it asks for by them
pub data Arguments : Type 0 where
  ends : Request → Arguments
  takes : (kind : ArgumentKind) → (Value kind → Arguments) → Arguments

-- a command: its word, and its arguments
pub record Form : Type 0 where
  pub name : List ℕ
  pub arguments : Arguments

-- a command, made of its word and its arguments
abbrev pub form : List ℕ → Arguments → Form
form name arguments = record { name = name; arguments = arguments }

-- all commands; words are in upper case as they are
abbrev pub forms : List Form
forms =
    form (codes "PUT") (takes a_word (λ name. takes a_text (λ rings. ends (put_text name rings))))
    ∷ form (codes "DEFINE") (takes a_left_side (λ name. takes a_right_side (λ formula. ends (define_text name formula))))
    ∷ form (codes "DROP") (takes a_word (λ name. ends (remove_name name)))
    ∷ form (codes "LOCATE") (takes a_word (λ name. takes a_number (λ x. takes a_number (λ y. takes a_number_or_one (λ w. ends (locate name x y w))))))
    ∷ form (codes "GRID")
    (takes a_word (λ name. takes a_number (λ x. takes a_number (λ y. takes a_number (λ step. takes a_number (λ nx. takes a_number (λ ny. ends (grid name x y step nx ny))))))))
    ∷ form (codes "LAYERS") (ends list_layers)
    ∷ form (codes "BATCH") (takes a_number (λ size. ends (batch size)))
    ∷ form (codes "EDGES") (takes a_word (λ name. takes a_number (λ column. ends (edges name column))))
    ∷ form (codes "WAIT") (takes a_word (λ name. ends (wait name)))
    ∷ form (codes "VERIFY") (takes a_word (λ name. takes a_number (λ column. ends (verify name column))))
    ∷ form (codes "SYNC") (ends sync)
    ∷ []

-- ==== The reading

-- an argument in front of bytes, if one is there, and what comes after it
abbrev pub argument_at : (kind : ArgumentKind) → List ℕ → Option (Value kind × List ℕ)
argument_at a_word bytes = word_at bytes
argument_at a_number bytes = number_at bytes
argument_at a_number_or_one bytes = number_or_one_at bytes
argument_at a_left_side bytes = left_side_at bytes
argument_at a_right_side bytes = right_side_at bytes
argument_at a_text bytes = text_at bytes

-- what arguments ask for, if the bytes are just these
abbrev pub asked_in : Arguments → List ℕ → Option Request
asked_in (ends request) bytes = if list_all is_gap bytes then Some request else None
asked_in (takes kind more) bytes = option_and_then (λ (value, after). asked_in (more value) after) (argument_at kind bytes)

-- the arguments of the command with this word
abbrev pub arguments_of : List Form → List ℕ → Option Arguments
arguments_of [] name = None
arguments_of (form ∷ forms) name = if bytes_eq name form.name then Some form.arguments else arguments_of forms name

-- what a command's word and what comes after it ask for
abbrev pub asked_by : List ℕ × List ℕ → Option Request
asked_by (name, after) = option_and_then (λ arguments. asked_in arguments after) (arguments_of forms name)

-- what a line asks for by its first word and what comes after it
abbrev pub asked_of : List ℕ → Option Request
asked_of line = option_and_then asked_by (word_at line)

-- what a line asks for: a line that is too long is not read, and a comment or an empty line asks for nothing
abbrev pub request_of : List ℕ → Request
request_of line =
    if is_too_long line then too_long
    else (if is_skipped line then nothing else unwrap_or (asked_of line) malformed)

-- what a request of the code asks for
abbrev pub request : code.Request → Request
request Nothing = nothing
request TooLong = too_long
request Malformed = malformed
request (Put name text) = put_text name.now text.now
request (Define name text) = define_text name.now text.now
request (Remove name) = remove_name name.now
request (Locate name x y w) = locate name.now x y w
request (Grid name x y step nx ny) = grid name.now x y step nx ny
request ListLayers = list_layers
request (Edges name number) = edges name.now number
request (Wait name) = wait name.now
request (Verify name number) = verify name.now number
request Sync = sync
request (Batch size) = batch size
