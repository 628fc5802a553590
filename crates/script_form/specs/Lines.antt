-- A script as lines.
use Rattle.std.specs.Prelude.{◌≡◌, ℕ, ◌+◌, ◌==◌, ◌||◌, [], ◌∷◌, ◌++◌, if◌then◌else◌}
use Rattle.std.specs.Prelude.{nat_le, Bool, IsTrue, not, List, map, length}
use Rattle.std.specs.List.{list_all}
use Rattle.overlay_terms.specs.Bytes.{begins}

-- the most bytes of a line, without its ending
abbrev pub line_max : ℕ
line_max = 65536

-- the most bytes of a script
unfoldable pub script_max : ℕ
script_max = 16777216

-- as many bytes of a line, a CR with them, as show whether it is too long
unfoldable pub line_room : ℕ
line_room = line_max + 2

-- a byte before the first of some pieces
abbrev pub onto_first : ℕ → List (List ℕ) → List (List ℕ)
onto_first b [] = (b ∷ []) ∷ []
onto_first b (piece ∷ pieces) = (b ∷ piece) ∷ pieces

-- what is between line feeds: one piece more than there are line feeds
abbrev pub pieces_of : List ℕ → List (List ℕ)
pieces_of [] = [] ∷ []
pieces_of (b ∷ bs) = if b == 10 then [] ∷ pieces_of bs else onto_first b (pieces_of bs)

-- pieces, with a line feed between each two
abbrev pub joined : List (List ℕ) → List ℕ
joined [] = []
joined (piece ∷ []) = piece
joined (piece ∷ next ∷ pieces) = piece ++ 10 ∷ joined (next ∷ pieces)

-- the pieces of a script, joined by line feeds, are its bytes
abbrev pub PiecesJoinToTheBytes : Type 0
PiecesJoinToTheBytes = (bytes : List ℕ) → joined (pieces_of bytes) ≡ bytes

-- whether bytes have no line feed
abbrev pub has_no_feed : List ℕ → Bool
has_no_feed bytes = list_all (λ b. not (b == 10)) bytes

-- no piece has a line feed
abbrev pub NoPieceHasALineFeed : Type 0
NoPieceHasALineFeed = (bytes : List ℕ) → IsTrue (list_all has_no_feed (pieces_of bytes))

-- all but the last of a list
abbrev pub front_of : List (List ℕ) → List (List ℕ)
front_of [] = []
front_of (piece ∷ []) = []
front_of (piece ∷ next ∷ pieces) = piece ∷ front_of (next ∷ pieces)

-- the last of a list; no bytes where there is none
abbrev pub last_of : List (List ℕ) → List ℕ
last_of [] = []
last_of (piece ∷ []) = piece
last_of (piece ∷ next ∷ pieces) = last_of (next ∷ pieces)

-- a piece without a CR at its end
abbrev pub without_cr : List ℕ → List ℕ
without_cr [] = []
without_cr (b ∷ []) = if b == 13 then [] else b ∷ []
without_cr (b ∷ c ∷ bs) = b ∷ without_cr (c ∷ bs)

-- the lines that a line feed ends
abbrev pub ended_lines : List ℕ → List (List ℕ)
ended_lines bytes = map without_cr (front_of (pieces_of bytes))

-- what comes after the last line feed
abbrev pub unended : List ℕ → List ℕ
unended bytes = last_of (pieces_of bytes)

-- the last line, where bytes come after the last line feed
abbrev pub last_line : List ℕ → List (List ℕ)
last_line [] = []
last_line (b ∷ bs) = (b ∷ bs) ∷ []

-- the lines of a whole script: its last line may lack its line feed
abbrev pub whole_lines : List ℕ → List (List ℕ)
whole_lines bytes = ended_lines bytes ++ last_line (unended bytes)

-- whether a line has more bytes than it may have
abbrev pub is_too_long : List ℕ → Bool
is_too_long line = not (nat_le (length line) line_max)

-- space and tab, which part words
abbrev pub is_gap : ℕ → Bool
is_gap b = b == 32 || b == 9

-- whether a line is a comment
abbrev pub begins_comment : List ℕ → Bool
begins_comment line = begins (λ b. b == 35) line

-- whether a line has no reply: it is a comment, or has gaps alone
abbrev pub is_skipped : List ℕ → Bool
is_skipped line = begins_comment line || list_all is_gap line
