-- The turns of lines that go on.
use Rattle.std.proofs.Common.{◌≡◌, ℕ, List, [], ◌∷◌, ◌++◌, map, fold, Option, None, refl, sym, ap, ◌∙◌, append_assoc, append-nil}
use Rattle.std.proofs.lemmas.List.{map-append}
use Rattle.script_form.specs.Requests.{Request, request_of}
use Rattle.script_form.specs.Turns.{Turn, Waiting, waiting_after, ended_by, turns_from, waiting_after_lines, turns_of}

turns-append : (waiting : Option Waiting) (requests more : List Request)
    → turns_from waiting (requests ++ more) ≡ turns_from waiting requests ++ turns_from (fold waiting_after waiting requests) more
turns-append waiting [] more = refl
turns-append waiting (request ∷ requests) more =
    ap (λ (turns : List Turn). ended_by waiting request ++ turns) (turns-append (waiting_after waiting request) requests more)
    ∙ sym (append_assoc (ended_by waiting request) (turns_from (waiting_after waiting request) requests) (turns_from (fold waiting_after waiting (request ∷ requests)) more))

waiting-append : (waiting : Option Waiting) (requests more : List Request)
    → fold waiting_after waiting (requests ++ more) ≡ fold waiting_after (fold waiting_after waiting requests) more
waiting-append waiting [] more = refl
waiting-append waiting (request ∷ requests) more = waiting-append (waiting_after waiting request) requests more

-- the turns of lines stay, whatever comes after them
pub turns_of-more : (lines more : List (List ℕ)) → turns_of (lines ++ more) ≡ turns_of lines ++ turns_from (waiting_after_lines lines) (map request_of more)
turns_of-more lines more = ap (turns_from None) (map-append request_of lines more) ∙ turns-append None (map request_of lines) (map request_of more)

-- one line more
pub turns_of-push : (lines : List (List ℕ)) (line : List ℕ) → turns_of (lines ++ line ∷ []) ≡ turns_of lines ++ ended_by (waiting_after_lines lines) (request_of line)
turns_of-push lines line =
    turns_of-more lines (line ∷ []) ∙ ap (λ (turns : List Turn). turns_of lines ++ turns) (append-nil (ended_by (waiting_after_lines lines) (request_of line)))

pub waiting_after_lines-push : (lines : List (List ℕ)) (line : List ℕ) → waiting_after_lines (lines ++ line ∷ []) ≡ waiting_after (waiting_after_lines lines) (request_of line)
waiting_after_lines-push lines line =
    ap (fold waiting_after None) (map-append request_of lines (line ∷ [])) ∙ waiting-append None (map request_of lines) (request_of line ∷ [])
