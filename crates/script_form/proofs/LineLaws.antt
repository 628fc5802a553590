-- A line asks for a request exactly where it has its shape.
use Rattle.std.proofs.Common.{◌≡◌, ℕ, ◌<◌, ◌⊎◌, Bool, true, false, not, List, [], ◌∷◌, ◌++◌, length, refl, sym, ap, subst, ◌∙◌, inl, inr, arith, Option, Some, None, option_and_then, unwrap_or, ⊎_elim}
use Rattle.std.specs.Prelude.{bytes_eq, nat_le}
use Rattle.std.specs.List.{list_all}
use Rattle.std.proofs.lemmas.Bool.{cases_Bool, and_parts, or_from, or_left, or_right, or_cases, not-true, not-false, true≢false, cond-true, cond-false, le-leb, lt-leb, leb-false, leb-true, eqb-true}
use Rattle.std.proofs.lemmas.Bool.Decides.{nat_tests}
use Rattle.overlay_terms.proofs.NameLemmas.{same_name}
use Rattle.script_form.specs.Lines.{line_max, is_gap, is_too_long, is_skipped, begins_comment}
use Rattle.script_form.specs.Words.{is_word_byte, word_at}
use Rattle.script_form.specs.Requests.{Request, nothing, too_long, malformed, Value, Arguments, ends, takes, Form, forms, argument_at, asked_in, arguments_of, asked_by, asked_of, request_of}
use Rattle.script_form.specs.Shapes.{IsShort, AreGaps, IsBlankOrComment, IsNext, IsArgument, AreArguments, IsCommandLine, IsShapeOf}
use Rattle.script_form.specs.Shapes as laws
use Rattle.script_form.proofs.Fronts.{either}
use Rattle.script_form.proofs.ArgumentLemmas.{Tells, front_tells, argument_tells, word_found, not_gaps, argument_found}

-- ==== Arguments

asked_found : (arguments : Arguments) (request : Request) (bytes : List ℕ) → AreArguments arguments request bytes → asked_in arguments bytes ≡ Some request
asked_found (ends asked) request bytes (gaps, is) = cond-true (list_all is_gap bytes) _ _ gaps ∙ ap Some (sym is)
asked_found (takes kind more) request bytes (value, after, is, rest) =
    ap (option_and_then (λ (v, b). asked_in (more v) b)) (argument_found kind value after bytes is) ∙ asked_found (more value) request after rest

-- what is true of a request, if one was found
abbrev Asks : (Request → Type 0) → Option Request → Type 0
Asks is None = Unit {0}
Asks is (Some request) = is request

asked_tells : (arguments : Arguments) (bytes : List ℕ) → Asks (λ request. AreArguments arguments request bytes) (asked_in arguments bytes)
asked_tells (ends asked) bytes =
    either (Asks (λ request. AreArguments (ends asked) request bytes)) (list_all is_gap bytes) (Some asked) None (λ gaps. (gaps, refl)) (λ _. tt)
asked_tells (takes kind more) bytes = by (λ value after. asked_tells (more value) after) (argument_at kind bytes) (argument_tells kind bytes) where
  onward : (value : Value kind) (after : List ℕ) → IsArgument kind value after bytes → (o : Option Request) → Asks (λ request. AreArguments (more value) request after) o
      → Asks (λ request. AreArguments (takes kind more) request bytes) o
  onward value after is None tells = tt
  onward value after is (Some request) rest = (value, after, is, rest)

  by : ((value : Value kind) (after : List ℕ) → Asks (λ request. AreArguments (more value) request after) (asked_in (more value) after))
      → (o : Option (Value kind × List ℕ)) → Tells (λ value after. IsArgument kind value after bytes) o
      → Asks (λ request. AreArguments (takes kind more) request bytes) (option_and_then (λ (value, after). asked_in (more value) after) o)
  by rest None tells = tt
  by rest (Some (value, after)) is = onward value after is (asked_in (more value) after) (rest value after)

-- ==== The table

is_command : Request → Bool
is_command nothing = false
is_command too_long = false
is_command malformed = false
is_command request = true

-- arguments ask for commands alone
abbrev AskCommands : Arguments → Type 0
AskCommands (ends request) = is_command request ≡ true
AskCommands (takes kind more) = (value : Value kind) → AskCommands (more value)

-- no word begins a comment, and nothing else is asked for but commands
abbrev AreRows : List Form → Type 0
AreRows [] = Unit {0}
AreRows (form ∷ forms) = (begins_comment form.name ≡ false) × AskCommands form.arguments × AreRows forms

rows : AreRows forms
unfolding is_command
rows = search

abbrev IsRow : List ℕ → Option Arguments → Type 0
IsRow name None = Unit {0}
IsRow name (Some arguments) = (begins_comment name ≡ false) × AskCommands arguments

row : (forms : List Form) → AreRows forms → (name : List ℕ) → IsRow name (arguments_of forms name)
row [] all name = tt
row (form ∷ forms) (plain, asks, all) name =
    either (IsRow name) (bytes_eq name form.name) (Some form.arguments) (arguments_of forms name) (λ same. (ap begins_comment (same_name name form.name same) ∙ plain, asks))
    (λ _. row forms all name)

asks_command : (arguments : Arguments) (request : Request) (bytes : List ℕ) → AskCommands arguments → AreArguments arguments request bytes → is_command request ≡ true
asks_command (ends asked) request bytes asks (gaps, is) = ap is_command is ∙ asks
asks_command (takes kind more) request bytes asks (value, after, is, rest) = asks_command (more value) request after (asks value) rest

-- ==== Lines of commands

line_found : (request : Request) (line : List ℕ) → IsCommandLine request line → asked_of line ≡ Some request
line_found request line is =
    ap (option_and_then asked_by) (word_found is.name is.after line is.next)
    ∙ ap (option_and_then (λ arguments. asked_in arguments is.after)) is.known ∙ asked_found is.arguments request is.after is.asks

line_tells : (line : List ℕ) → Asks (λ request. IsCommandLine request line) (asked_of line)
line_tells line = by (word_at line) (front_tells is_word_byte line) where
  onward : (name after : List ℕ) → IsNext is_word_byte name after line → (arguments : Arguments) → arguments_of forms name ≡ Some arguments
      → (o : Option Request) → Asks (λ request. AreArguments arguments request after) o → Asks (λ request. IsCommandLine request line) o
  onward name after next arguments known None tells = tt
  onward name after next arguments known (Some request) is =
      record { name = name; after = after; next = next; arguments = arguments; known = known; asks = is }

  known_by : (name after : List ℕ) → IsNext is_word_byte name after line → (o : Option Arguments) → arguments_of forms name ≡ o
      → Asks (λ request. IsCommandLine request line) (option_and_then (λ arguments. asked_in arguments after) o)
  known_by name after next None known = tt
  known_by name after next (Some arguments) known = onward name after next arguments known (asked_in arguments after) (asked_tells arguments after)

  by : (o : Option (List ℕ × List ℕ)) → Tells (λ name after. IsNext is_word_byte name after line) o
      → Asks (λ request. IsCommandLine request line) (option_and_then asked_by o)
  by None tells = tt
  by (Some (name, after)) next = known_by name after next (arguments_of forms name) refl

gap_is_no_comment : (b : ℕ) → is_gap b ≡ true → begins_comment (b ∷ []) ≡ false
gap_is_no_comment b gap = grind (arith, nat_tests)

begins_no_comment : (gaps name after : List ℕ) → AreGaps gaps → 0 < length name → begins_comment name ≡ false → begins_comment (gaps ++ (name ++ after)) ≡ false
begins_no_comment [] [] after all some plain = absurd (omega arith)
begins_no_comment [] (b ∷ name) after all some plain = plain
begins_no_comment (g ∷ gaps) name after all some plain = gap_is_no_comment g (and_parts (is_gap g) (list_all is_gap gaps) all).0

no_comment : (request : Request) (line : List ℕ) → IsCommandLine request line → begins_comment line ≡ false
no_comment request line is =
    let plain = subst (IsRow is.name) is.known (row forms rows is.name) in
    ap begins_comment is.next.bytes_are ∙ begins_no_comment is.next.gaps is.name is.after is.next.in_front is.next.passes.some plain.0

short_line : (line : List ℕ) → IsShort line → is_too_long line ≡ false
short_line line short = ap not (le-leb (length line) line_max short)

read_short : (line : List ℕ) → IsShort line → is_skipped line ≡ false → request_of line ≡ unwrap_or (asked_of line) malformed
read_short line short plain = cond-false (is_too_long line) _ _ (short_line line short) ∙ cond-false (is_skipped line) _ _ plain

command_read : (request : Request) (line : List ℕ) → IsShort line → IsCommandLine request line → request_of line ≡ request
command_read request line short is =
    read_short line short (or_from (begins_comment line) (list_all is_gap line) (no_comment request line is) (not_gaps is.name is.after line is.next))
    ∙ ap (λ o. unwrap_or o malformed) (line_found request line is)

-- ==== Each line

skips : (line : List ℕ) → IsBlankOrComment line → is_skipped line ≡ true
skips line (inl gaps) = or_right (begins_comment line) (list_all is_gap line) gaps
skips line (inr (text, is)) = or_left (begins_comment line) (list_all is_gap line) (ap begins_comment is)

comment_is : (line : List ℕ) → begins_comment line ≡ true → (text : List ℕ) × (line ≡ 35 ∷ text)
comment_is [] is = absurd (true≢false (sym is))
comment_is (b ∷ text) is = (text, ap (λ (c : ℕ). c ∷ text) (eqb-true b 35 is))

skipped_is : (line : List ℕ) → is_skipped line ≡ true → IsBlankOrComment line
skipped_is line skipped =
    ⊎_elim (λ comment. inr (comment_is line comment)) (λ gaps. inl gaps) (or_cases (begins_comment line) (list_all is_gap line) skipped)

none_asked : (line : List ℕ) → ((request : Request) → IsCommandLine request line → ⊥) → asked_of line ≡ None
none_asked line none = by (asked_of line) (line_tells line) where
  by : (o : Option Request) → Asks (λ request. IsCommandLine request line) o → o ≡ None
  by None tells = refl
  by (Some request) is = absurd (none request is)

not_skipped : (line : List ℕ) → (IsBlankOrComment line → ⊥) → is_skipped line ≡ false
not_skipped line plain =
    elim (cases_Bool (is_skipped line)) [
      | inl skipped ↦ absurd (plain (skipped_is line skipped))
      | inr is ↦ is
    ]

shaped : (request : Request) (line : List ℕ) → IsShapeOf request line → request_of line ≡ request
shaped too_long line long = cond-true (is_too_long line) _ _ (ap not (lt-leb (length line) line_max long))
shaped nothing line (short, is) = cond-false (is_too_long line) _ _ (short_line line short) ∙ cond-true (is_skipped line) _ _ (skips line is)
shaped malformed line (short, plain, none) = read_short line short (not_skipped line plain) ∙ ap (λ o. unwrap_or o malformed) (none_asked line none)
shaped request line is = command_read request line is.0 is.1

of_command : (request : Request) (line : List ℕ) → is_command request ≡ true → IsShort line → IsCommandLine request line → IsShapeOf request line
unfolding is_command
of_command nothing line on short is = absurd (true≢false (sym on))
of_command too_long line on short is = absurd (true≢false (sym on))
of_command malformed line on short is = absurd (true≢false (sym on))
of_command request line on short is = (short, is)

tells : (line : List ℕ) → IsShapeOf (request_of line) line
tells line =
    either (λ r. IsShapeOf r line) (is_too_long line) too_long _ (λ long. leb-false (length line) line_max (not-true (nat_le (length line) line_max) long))
    (λ fits.
    let short : IsShort line = leb-true (length line) line_max (not-false (nat_le (length line) line_max) fits) in
    either (λ r. IsShapeOf r line) (is_skipped line) nothing _ (λ skipped. (short, skipped_is line skipped))
    (λ plain. by short plain (asked_of line) refl (line_tells line))) where
      by : IsShort line → is_skipped line ≡ false → (o : Option Request) → asked_of line ≡ o → Asks (λ request. IsCommandLine request line) o → IsShapeOf (unwrap_or o malformed) line
      by short plain None none tells = (
        short,
        (λ skipped. true≢false (sym (skips line skipped) ∙ plain)),
        λ request is. none_is_none request (sym (line_found request line is) ∙ none),
      ) where
        none_is_none : (request : Request) → Some request ≡ None → ⊥
        none_is_none request is = absurd (cc)
      by short plain (Some request) is line_is =
          let asks = subst (IsRow line_is.name) line_is.known (row forms rows line_is.name) in
          of_command request line (asks_command line_is.arguments request line_is.after asks.1 line_is.asks) short line_is

pub lines_are_read : laws.LinesAreRead
lines_are_read request line = (shaped request line, λ is. subst (λ (r : Request). IsShapeOf r line) is (tells line))
