-- What `clap` says of the program's command line, and what words ask for by it.
use Rattle.std.proofs.Common.{◌≡◌, ◌≢◌, ℕ, suc, inl, inr, arith, List, [], ◌∷◌, length, ◌==◌, ◌&&◌, Bool, true, false, Option, None, Some, Result, if◌then◌else◌, codes, refl, sym, subst, ap, ◌∙◌}
use Rattle.std.proofs.lemmas.Bool.Decides.{nat_tests}
use Rattle.std.proofs.lemmas.Option.{none-some}
use Rattle.std.specs.List.{list_all}
use Rattle.clap.specs.Words.{App, FailsBy, HasKind, IsAmong, Kinds, Row, Text, fault_of, kind_of, is_simple, is_simple_and_free, matches_of}
use Rattle.clap.specs.declared.error.Error.{Error}
use Rattle.clap.specs.declared.error.kind.ErrorKind.{ErrorKind}
use Rattle.clap.specs.declared.error.kind.ErrorKind.TheVariants as kinds
use Rattle.clap.proofs.OnLiterals.{clap_on_literals}
use Rattle.program_words.specs.CommandLine.{command_line, is_known, request_in, run_request_of}
use Rattle.program_words.specs.Synopsis.{RunRequest}

is_simple_line : is_simple command_line ≡ true
unfolding clap_on_literals command_line
is_simple_line = refl

is_free_line : is_simple_and_free command_line ≡ true
unfolding clap_on_literals command_line
is_free_line = refl

-- what `clap` says of a command line, where it is the program's
pub rows_of_line : (a : App) (words : List Text) (rows : List Row) (B : Type 0) → a ≡ command_line → (is_simple a ≡ true → (rows ≡ matches_of a words) × B)
    → rows ≡ matches_of command_line words
rows_of_line a words rows B is h = (h (ap is_simple is ∙ is_simple_line)).0 ∙ ap (λ (b : App). matches_of b words) is

pub faults_of_line : {T : Type 0} (a : App) (words : List Text) (result : Result T Error) → a ≡ command_line
    → (is_simple_and_free a ≡ true → FailsBy (fault_of a words) result) → FailsBy (fault_of command_line words) result
faults_of_line a words result is h = subst (λ (b : App). FailsBy (fault_of b words) result) is (h (ap is_simple_and_free is ∙ is_free_line))

pub unknown : (words : List Text) → list_all is_known words ≡ false → run_request_of words ≡ None
unknown words fails = rw fails refl

pub asked_if : (known : Bool) (kinds : Kinds) (request : Option RunRequest) → known ≡ true → kinds ≡ [] → (if known && (length kinds == 0) then request else None) ≡ request
asked_if known kinds request is none = rw (is, none) refl

pub taken : (words all : List Text) (rows : List Row) → list_all is_known words ≡ true → all ≡ codes "overlayd" ∷ words → fault_of command_line all ≡ []
    → rows ≡ matches_of command_line all → run_request_of words ≡ request_in rows
taken words all rows known is none found =
    asked_if (list_all is_known words) (fault_of command_line (codes "overlayd" ∷ words))
    (request_in (matches_of command_line (codes "overlayd" ∷ words))) known (ap (fault_of command_line) (sym is) ∙ none)
    ∙ ap (λ (them : List Text). request_in (matches_of command_line them)) (sym is) ∙ ap request_in (sym found)

-- words that `clap` refuses ask for nothing
is_no : (n : ℕ) → (suc n == 0) ≡ false
is_no n = grind (arith, nat_tests)

pub none_if : {R : Type 0} (known : Bool) (kinds : Kinds) (request : Option R) (kind : ErrorKind) → IsAmong kind kinds → (if known && (length kinds == 0) then request else None) ≡ None
none_if known [] request kind among = absurd among
none_if true (k ∷ kinds) request kind among = rw (is_no (length kinds)) refl
none_if false (k ∷ kinds) request kind among = refl

pub refused : (words all : List Text) (error : Error) → all ≡ codes "overlayd" ∷ words → HasKind (fault_of command_line all) error → kind_of error ≢ kinds.OutOfMemory
    → run_request_of words ≡ None
refused words all error is (inl memory) other = absurd (other memory)
refused words all error is (inr among) other =
    none_if (list_all is_known words) (fault_of command_line (codes "overlayd" ∷ words))
    (request_in (matches_of command_line (codes "overlayd" ∷ words))) (kind_of error)
    (subst (λ (them : List Text). IsAmong (kind_of error) (fault_of command_line them)) is among)

-- what a request that was tested so has
pub asked_parts : (known : Bool) (kinds : Kinds) (request : Option RunRequest) (r : RunRequest) → (if known && (length kinds == 0) then request else None) ≡ Some r
    → (known ≡ true) × (kinds ≡ []) × (request ≡ Some r)
asked_parts false kinds request r e = absurd (none-some r e)
asked_parts true [] request r e = (refl, refl, e)
asked_parts true (k ∷ kinds) request r e = absurd (none-some r (sym (ap (λ (b : Bool). if b then request else None) (is_no (length kinds))) ∙ e))
