-- What the words after a program's name ask for. The synopsis of overlayd, and that of overlay_live:
--     [--store FILE] [--create] [--workers N] [--max-blocks N] [SCRIPT]...
--     [--store FILE] [--create | --read-only] [--workers N] [--max-blocks N] [IN OUT]...
-- Options may come before, between and after paths.
use Rattle.std.specs.Prelude.{◌≡◌, ◌≢◌, ℕ, ◌≤◌, ◌==◌, ◌%◌, Bool, true, not, ◌&&◌, IsTrue, List, [], ◌∷◌, ◌++◌, length, flat_map, codes, bytes_eq, if◌then◌else◌}
use Rattle.std.specs.Prelude.{Option, Some, None, is_some, option_to_list}
use Rattle.std.specs.List.{list_all, list_any, filter_map}
use Rattle.overlay_terms.specs.Bytes.{digits_number}
use Rattle.program_words.specs.declared.keeping.Opening.{Opening}
use Rattle.program_words.specs.declared.keeping.Opening.TheVariants.{Existing, New, ReadOnly}

-- a word, as its bytes
abbrev pub Word : Type 0
Word = List ℕ

-- a part of the words: an option and its value, a flag, or a path
pub data LinePart : Type 0 where
  option : Word → Word → LinePart
  flag : Word → LinePart
  path : Word → LinePart

-- the words of a part
abbrev pub words_of : LinePart → List Word
words_of (option name value) = (codes "--" ++ name) ∷ value ∷ []
words_of (flag name) = (codes "--" ++ name) ∷ []
words_of (path text) = text ∷ []

-- a value or a path: it does not begin with a hyphen, but may be the hyphen alone
abbrev pub is_plain : Word → Bool
is_plain [] = true
is_plain (b ∷ []) = true
is_plain (b ∷ c ∷ rest) = not (b == 45)

-- whether a part is one of the synopsis; which flags it has, `opening` says below
abbrev pub is_part : LinePart → Bool
is_part (option name value) =
    list_any (bytes_eq name) (codes "store" ∷ codes "workers" ∷ codes "max-blocks" ∷ []) && is_plain value
is_part (flag name) = true
is_part (path text) = is_plain text

-- the value that a part gives to the option of a name
abbrev pub value_for : Word → LinePart → Option Word
value_for name (option other value) = if bytes_eq other name then Some value else None
value_for name part = None

-- the name of the flag that a part is, if it is one
abbrev pub flag_of : LinePart → Option Word
flag_of (flag name) = Some name
flag_of part = None

-- the path that a part is, if it is one
abbrev pub path_of : LinePart → Option Word
path_of (path text) = Some text
path_of part = None

-- the flags by which the words say how a store's file is opened
abbrev pub flags_of : Opening → List Word
flags_of Existing = []
flags_of New = codes "create" ∷ []
flags_of ReadOnly = codes "read-only" ∷ []

-- n is the number that the values of an option give, in one to seven digits, 1 to `most`; without a value it is the usual one
abbrev pub IsNumber : List Word → ℕ → ℕ → ℕ → Type 0
IsNumber [] usual most n = n ≡ usual
IsNumber (text ∷ []) usual most n = (digits_number 7 text ≡ Some n) × (1 ≤ n) × (n ≤ most)
IsNumber (text ∷ next ∷ texts) usual most n = ⊥

-- what words ask for
pub record RunRequest : Type 0 where
  pub store : Option Word
  pub opening : Opening
  pub workers : ℕ
  pub max_blocks : ℕ
  pub paths : List Word

-- the words are parts of the synopsis, one after another, which ask for r: each option and flag comes at most once
pub record Asks (words : List Word) (r : RunRequest) : Type 0 where
  pub parts : List LinePart
  pub spelled : words ≡ flat_map words_of parts
  pub known : IsTrue (list_all is_part parts)
  pub store : filter_map (value_for (codes "store")) parts ≡ option_to_list r.store
  pub opening : filter_map flag_of parts ≡ flags_of r.opening
  pub named : r.opening ≢ Existing → IsTrue (is_some r.store)
  pub workers : IsNumber (filter_map (value_for (codes "workers")) parts) 2 8 r.workers
  pub max_blocks : IsNumber (filter_map (value_for (codes "max-blocks")) parts) 65536 1048576 r.max_blocks
  pub paths : filter_map path_of parts ≡ r.paths

-- the words ask overlayd for r: it has no `--read-only`, and runs at most four scripts
pub record AsksOverlayd (words : List Word) (r : RunRequest) : Type 0 where
  pub asked : Asks words r
  pub opening : r.opening ≢ ReadOnly
  pub scripts : length r.paths ≤ 4

-- what words ask overlay_live for: how it is called, which program it is, or a run
pub data LiveRequest : Type 0 where
  Help : LiveRequest
  Version : LiveRequest
  Run : RunRequest → LiveRequest

-- the words ask overlay_live for it: the two texts by their word alone; of a run the paths are at most four pairs
abbrev pub AsksLive : List Word → LiveRequest → Type 0
AsksLive words Help = words ≡ codes "--help" ∷ []
AsksLive words Version = words ≡ codes "--version" ∷ []
AsksLive words (Run r) = Asks words r × (length r.paths % 2 ≡ 0) × (length r.paths ≤ 8)

-- words ask for one thing at most
abbrev pub AskOnce : Type 0
AskOnce =
    (words : List Word) (r s : RunRequest) → Asks words r → Asks words s → r ≡ s
