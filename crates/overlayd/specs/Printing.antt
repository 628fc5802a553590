-- What is printed of sessions.
use Rattle.std.specs.Prelude.{ℕ, suc, Bool, true, false, List, [], ◌∷◌, ◌++◌, length, codes, decimal, nat_lt}
use Rattle.std.specs.declared.alloc.Global.{Global}
use Rattle.std.specs.declared.vec.Vec.{Vec}
use Rattle.session_threads.specs.declared.port.Finished.{Finished}

-- what a session wrote
abbrev pub replies_of : Finished (Vec ℕ Global) → List ℕ
replies_of finished = finished.writer.items

-- the line with the number of a session
abbrev pub script_line : ℕ → List ℕ
script_line number = codes "# script " ++ (decimal number ++ 10 ∷ [])

-- the replies of a session, after a line with its number where there are several
abbrev pub session_text : Bool → ℕ → List ℕ → List ℕ
session_text true number replies = script_line number ++ replies
session_text false number replies = replies

-- the replies of one session after another, from a number on
unfoldable pub texts_from : Bool → ℕ → List (List ℕ) → List ℕ
texts_from several number [] = []
texts_from several number (replies ∷ rest) =
    session_text several number replies ++ texts_from several (suc number) rest

-- the replies of all sessions
abbrev pub printed : List (List ℕ) → List ℕ
printed all = texts_from (nat_lt 1 (length all)) 1 all
