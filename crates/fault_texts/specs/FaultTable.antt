-- The table of the faults: the number and the text of each, as the table of docs/COMMANDS.md has them.
use Rattle.std.specs.Prelude.{ℕ, List, [], ◌∷◌, ◌++◌, ◌==◌, codes, decimal, if◌then◌else◌}

-- each number with its text, in the order of the numbers; # stands for the number that a fault carries
abbrev pub table : List (ℕ × List ℕ)
table =
    (1, codes "wkt syntax at #")
    ∷ (2, codes "not whole at #")
    ∷ (3, codes "coordinate out of range")  -- where a text of WKT is read, " at #" follows
    ∷ (4, codes "ring # open")
    ∷ (5, codes "ring # short")
    ∷ (6, codes "too many segments")
    ∷ (7, codes "expression syntax at #")
    ∷ (8, codes "expression too long")
    ∷ (9, codes "bad name")
    ∷ (10, codes "unknown layer")
    ∷ (11, codes "not a base layer")
    ∷ (12, codes "not a derived layer")
    ∷ (13, codes "later layer")
    ∷ (14, codes "in use")
    ∷ (15, codes "too many layers")
    ∷ (16, codes "version limit")
    ∷ (17, codes "batch size")
    ∷ (20, codes "point out of range")
    ∷ (21, codes "pending")
    ∷ (22, codes "oversize")
    ∷ (23, codes "bad column")
    ∷ (24, codes "core off frame")
    ∷ (25, codes "frame off plane")
    ∷ (26, codes "ring # step too long")
    ∷ (30, codes "device")
    ∷ (31, codes "full")
    ∷ (32, codes "not a store")
    ∷ (33, codes "damaged #")
    ∷ (34, codes "not empty")
    ∷ (35, codes "store failed")
    ∷ (36, codes "sequence limit")
    ∷ (40, codes "out of memory")
    ∷ (41, codes "command syntax")
    ∷ (42, codes "line too long")
    ∷ (43, codes "closing")
    ∷ (44, codes "gone")
    ∷ (45, codes "grid size")
    ∷ (46, codes "no store")
    ∷ (47, codes "read limit")
    ∷ (48, codes "read")
    ∷ (49, codes "write")
    ∷ (50, codes "words")
    ∷ []

-- the text that some rows have under a number
abbrev pub text_in : List (ℕ × List ℕ) → ℕ → List ℕ
text_in [] number = []
text_in (row ∷ rows) number = if number == row.0 then row.1 else text_in rows number

-- the text that the table has under a number
abbrev pub text : ℕ → List ℕ
text number = text_in table number

-- a text with the number that the fault carries in the place of #, the byte 35
abbrev pub filled : ℕ → List ℕ → List ℕ
filled carried [] = []
filled carried (byte ∷ []) = if byte == 35 then decimal carried else byte ∷ []
filled carried (byte ∷ rest) = if byte == 35 then decimal carried ++ rest else byte ∷ filled carried rest
