-- The shapes of lines, and the law of lines: a line asks for a request exactly where it has its shape.
use Rattle.std.specs.Prelude.{◌≡◌, ℕ, ℤ, ◌<◌, ◌≤◌, ◌↔◌, ◌⊎◌, [], ◌∷◌, ◌++◌}
use Rattle.std.specs.Prelude.{pos, Bool, false, IsTrue, List, length, Some}
use Rattle.std.specs.List.{list_all}
use Rattle.overlay_terms.specs.Blank.{is_blank}
use Rattle.overlay_terms.specs.Bytes.{begins}
use Rattle.script_form.specs.Lines.{line_max, is_gap}
use Rattle.script_form.specs.Words.{is_word_byte, is_name_side, number_of}
use Rattle.script_form.specs.Requests.{Request, nothing, too_long, malformed, ArgumentKind, a_word}
use Rattle.script_form.specs.Requests.{a_number, a_number_or_one, a_left_side, a_right_side, a_text}
use Rattle.script_form.specs.Requests.{Value, Arguments, ends, takes, forms, arguments_of, request_of}

-- not too long
abbrev pub IsShort : List ℕ → Type 0
IsShort line = length line ≤ line_max

-- spaces and tabs alone, or nothing
abbrev pub AreGaps : List ℕ → Type 0
AreGaps bytes = IsTrue (list_all is_gap bytes)

-- gaps alone, or a comment, which begins with `#`
abbrev pub IsBlankOrComment : List ℕ → Type 0
IsBlankOrComment line = AreGaps line ⊎ ((text : List ℕ) × (line ≡ 35 ∷ text))

-- one byte at least, each of them one that passes the test
pub record AreSome (test : ℕ → Bool) (bytes : List ℕ) : Type 0 where
  pub some : 0 < length bytes
  pub alone : IsTrue (list_all test bytes)

-- perhaps gaps, then bytes that pass a test, and after them none that does
pub record IsNext (test : ℕ → Bool) (front after bytes : List ℕ) : Type 0 where
  pub gaps : List ℕ
  pub bytes_are : bytes ≡ gaps ++ (front ++ after)
  pub in_front : AreGaps gaps
  pub passes : AreSome test front
  pub fails : begins test after ≡ false

-- a word that is a number
pub record IsNextNumber (n : ℤ) (after bytes : List ℕ) : Type 0 where
  pub digits : List ℕ
  pub next : IsNext is_word_byte digits after bytes
  pub number_is : number_of digits ≡ Some n

-- perhaps gaps, `=`, perhaps white space, and a text that begins with none: it runs to the end of the line
pub record IsRightSide (text bytes : List ℕ) : Type 0 where
  pub gaps : List ℕ
  pub blanks : List ℕ
  pub bytes_are : bytes ≡ gaps ++ 61 ∷ (blanks ++ text)
  pub in_front : AreGaps gaps
  pub white : IsTrue (list_all is_blank blanks)
  pub begins_at_once : begins is_blank text ≡ false

-- perhaps gaps, and a text that begins with none and has a byte: it runs to the end of the line
pub record IsText (text bytes : List ℕ) : Type 0 where
  pub gaps : List ℕ
  pub bytes_are : bytes ≡ gaps ++ text
  pub in_front : AreGaps gaps
  pub some : 0 < length text
  pub begins_at_once : begins is_gap text ≡ false

-- bytes are an argument of a kind, and what comes after it
abbrev pub IsArgument : (kind : ArgumentKind) → Value kind → List ℕ → List ℕ → Type 0
IsArgument a_word value after bytes = IsNext is_word_byte value after bytes
IsArgument a_number value after bytes = IsNextNumber value after bytes
IsArgument a_number_or_one value after bytes =
    (AreGaps bytes × (value ≡ pos 1) × (after ≡ [])) ⊎ IsNextNumber value after bytes
IsArgument a_left_side value after bytes = IsNext is_name_side value after bytes
IsArgument a_right_side value after bytes = IsRightSide value bytes × (after ≡ [])
IsArgument a_text value after bytes = IsText value bytes × (after ≡ [])

-- bytes are just these arguments, by which a request is asked for
abbrev pub AreArguments : Arguments → Request → List ℕ → Type 0
AreArguments (ends asked) request bytes = AreGaps bytes × (request ≡ asked)
AreArguments (takes kind more) request bytes =
    (value : Value kind) × (after : List ℕ) × IsArgument kind value after bytes
    × AreArguments (more value) request after

-- a command's word and its arguments, by which a request is asked for
pub record IsCommandLine (request : Request) (line : List ℕ) : Type 0 where
  pub name : List ℕ
  pub after : List ℕ
  pub next : IsNext is_word_byte name after line
  pub arguments : Arguments
  pub known : arguments_of forms name ≡ Some arguments
  pub asks : AreArguments arguments request after

-- the shape of lines that ask for a request
abbrev pub IsShapeOf : Request → List ℕ → Type 0
IsShapeOf too_long line = line_max < length line
IsShapeOf nothing line = IsShort line × IsBlankOrComment line
IsShapeOf malformed line =
    IsShort line × (IsBlankOrComment line → ⊥) × ((request : Request) → IsCommandLine request line → ⊥)
IsShapeOf request line = IsShort line × IsCommandLine request line

-- a line has the shape of a request exactly where it asks for it
abbrev pub LinesAreRead : Type 0
LinesAreRead = (request : Request) (line : List ℕ) → IsShapeOf request line ↔ (request_of line ≡ request)
