-- Replies as lines of text, and those of the code as bytes.
use Rattle.std.specs.Prelude.{ℕ, List, [], ◌∷◌, ◌++◌, codes, decimal}
use Rattle.overlay_terms.specs.Layers.{Location, inside, outside, edge}
use Rattle.layer_book.specs.Place.{location}
use Rattle.version_core.specs.declared.verifying.Verdict.{Verdict}
use Rattle.version_core.specs.declared.verifying.Verdict.TheVariants.{Same, Different}
use Rattle.script_form.specs.declared.fault.CommandFault.{CommandFault}
use Rattle.script_form.specs.declared.line_reply.LineReply.{LineReply}
use Rattle.script_form.specs.declared.line_reply.LineReply.TheVariants.{Nothing, Accepted, Located, Built, Durable}
use Rattle.script_form.specs.declared.line_reply.LineReply.TheVariants.{Compared, Fault, RefusedAt, Lines}
use Rattle.script_form.specs.Fault.{code_of, text_of}

-- a word and a number: `ok` and the number of an accepted command's version, `built` and the number of the version in
-- which the tiles of a layer are built, `durable` and the durable number
abbrev pub numbered_line : List ℕ → ℕ → List ℕ
numbered_line word number = word ++ (decimal number ++ 10 ∷ [])

-- a refusal has the number of its fault, and the fault's text
abbrev pub error_line : CommandFault → List ℕ
error_line fault = codes "error " ++ (decimal (code_of fault) ++ (codes " " ++ (text_of fault ++ 10 ∷ [])))

-- a fault of a line of a batch, counted from 0
abbrev pub refused_line : ℕ → CommandFault → List ℕ
refused_line place fault = codes "refused " ++ (decimal place ++ (codes " " ++ error_line fault))

-- LOCATE is answered by one of three words
abbrev pub location_line : Location → List ℕ
location_line inside = codes "in\n"
location_line outside = codes "out\n"
location_line edge = codes "edge\n"

-- VERIFY is answered by whether the finished tile is the one that would be built now
abbrev pub verdict_line : Verdict → List ℕ
verdict_line Same = codes "same\n"
verdict_line Different = codes "different\n"

-- the bytes of a reply
abbrev pub reply_text : LineReply → List ℕ
reply_text Nothing = []
reply_text (Accepted number) = numbered_line (codes "ok ") number
reply_text (Located place) = location_line (location place)
reply_text (Built number) = numbered_line (codes "built ") number
reply_text (Durable number) = numbered_line (codes "durable ") number
reply_text (Compared verdict) = verdict_line verdict
reply_text (Fault fault) = error_line fault
reply_text (RefusedAt place fault) = refused_line place fault
reply_text (Lines text) = text.items
