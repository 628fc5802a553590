-- What `clap` says of the live program's command line, and what words ask for by it; and paths put into pairs.
use Rattle.std.proofs.Common.{◌≡◌, ◌≢◌, ◌++◌, ◌*◌, ◌+◌, ◌<◌, ℕ, map, take, get_or, append_assoc, arith, inl, inr, List, [], ◌∷◌, length, ◌==◌, ◌&&◌, Bool, true, false, Option, None, Result, if◌then◌else◌, codes, refl, sym, subst, ap, ◌∙◌, string_bytes}
use Rattle.std.proofs.lemmas.List.{map-append, take_more}
use Rattle.std.proofs.lemmas.Grind.{flat_map-append}
use Rattle.std.specs.List.{list_all}
use Rattle.std.specs.declared.alloc.Global.{Global}
use Rattle.std.specs.declared.string.String.{String}
use Rattle.clap.specs.Words.{App, FailsBy, HasKind, IsAmong, Kinds, Row, Text, fault_of, kind_of, is_simple, is_simple_and_free, matches_of}
use Rattle.clap.specs.declared.error.Error.{Error}
use Rattle.clap.specs.declared.error.kind.ErrorKind.TheVariants as kinds
use Rattle.clap.proofs.OnLiterals.{clap_on_literals}
use Rattle.program_words.proofs.RequestLemmas.{none_if}
use Rattle.program_words.specs.LiveLine.{is_known_live, live_line, live_request_in, live_request_of}
use Rattle.program_words.specs.Plans.{paths_of}
use Rattle.program_words.specs.Synopsis.{RunRequest}

is_simple_line : is_simple live_line ≡ true
unfolding clap_on_literals live_line
is_simple_line = refl

is_free_line : is_simple_and_free live_line ≡ true
unfolding clap_on_literals live_line
is_free_line = refl

-- what `clap` says of a command line, where it is the live program's
pub rows_of_live_line : (a : App) (words : List Text) (rows : List Row) (B : Type 0) → a ≡ live_line → (is_simple a ≡ true → (rows ≡ matches_of a words) × B)
    → rows ≡ matches_of live_line words
rows_of_live_line a words rows B is h = (h (ap is_simple is ∙ is_simple_line)).0 ∙ ap (λ (b : App). matches_of b words) is

pub faults_of_live_line : {T : Type 0} (a : App) (words : List Text) (result : Result T Error) → a ≡ live_line
    → (is_simple_and_free a ≡ true → FailsBy (fault_of a words) result) → FailsBy (fault_of live_line words) result
faults_of_live_line a words result is h = subst (λ (b : App). FailsBy (fault_of b words) result) is (h (ap is_simple_and_free is ∙ is_free_line))

pub unknown_live : (words : List Text) → list_all is_known_live words ≡ false → live_request_of words ≡ None
unknown_live words fails = rw fails refl

asked_if : (known : Bool) (kinds : Kinds) (request : Option RunRequest) → known ≡ true → kinds ≡ [] → (if known && (length kinds == 0) then request else None) ≡ request
asked_if known kinds request is none = rw (is, none) refl

pub taken_live : (words all : List Text) (rows : List Row) → list_all is_known_live words ≡ true → all ≡ codes "overlay_live" ∷ words → fault_of live_line all ≡ []
    → rows ≡ matches_of live_line all → live_request_of words ≡ live_request_in rows
taken_live words all rows known is none found =
    asked_if (list_all is_known_live words) (fault_of live_line (codes "overlay_live" ∷ words))
    (live_request_in (matches_of live_line (codes "overlay_live" ∷ words))) known (ap (fault_of live_line) (sym is) ∙ none)
    ∙ ap (λ (them : List Text). live_request_in (matches_of live_line them)) (sym is) ∙ ap live_request_in (sym found)

-- words that `clap` refuses ask for nothing
pub refused_live : (words all : List Text) (error : Error) → all ≡ codes "overlay_live" ∷ words → HasKind (fault_of live_line all) error → kind_of error ≢ kinds.OutOfMemory
    → live_request_of words ≡ None
refused_live words all error is (inl memory) other = absurd (other memory)
refused_live words all error is (inr among) other =
    none_if (list_all is_known_live words) (fault_of live_line (codes "overlay_live" ∷ words))
    (live_request_in (matches_of live_line (codes "overlay_live" ∷ words))) (kind_of error)
    (subst (λ (them : List Text). IsAmong (kind_of error) (fault_of live_line them)) is among)

-- one pair more, of the two texts after those that make the pairs so far
pub paths_more : {A : Type 0} (text : A → Text) (d : A) (pairs more : List (String Global × String Global)) (texts : List A) (i : ℕ) (from to : String Global)
    → more ≡ pairs ++ (from, to) ∷ [] → 2 * i + 1 < length texts → string_bytes from ≡ text (get_or texts (2 * i) d) → string_bytes to ≡ text (get_or texts (2 * i + 1) d)
    → paths_of pairs ≡ map text (take (2 * i) texts) → paths_of more ≡ map text (take (2 * (i + 1)) texts)
paths_more {A} text d pairs more texts i from to is within first second same =
    let two : 2 * (i + 1) ≡ 2 * i + 1 + 1 = omega arith in
    let a = get_or texts (2 * i) d in
    let b = get_or texts (2 * i + 1) d in
    let texts_are : take (2 * i + 1 + 1) texts ≡ (take (2 * i) texts ++ a ∷ []) ++ b ∷ [] =
    take_more texts (2 * i + 1) d within ∙ ap (λ (xs : List A). xs ++ b ∷ []) (take_more texts (2 * i) d (omega arith)) in
    let mapped : map text (take (2 * (i + 1)) texts) ≡ (map text (take (2 * i) texts) ++ text a ∷ []) ++ text b ∷ [] =
    ap (λ n. map text (take n texts)) two ∙ ap (map text) texts_are ∙ map-append text (take (2 * i) texts ++ a ∷ []) (b ∷ [])
    ∙ ap (λ (ts : List Text). ts ++ text b ∷ []) (map-append text (take (2 * i) texts) (a ∷ [])) in
    let put : paths_of more ≡ paths_of pairs ++ string_bytes from ∷ string_bytes to ∷ [] =
    ap (λ (them : List (String Global × String Global)). paths_of them) is ∙ flat_map-append (λ (pair : String Global × String Global). string_bytes pair.0 ∷ string_bytes pair.1 ∷ []) pairs ((from, to) ∷ []) in
    put ∙ ap (λ (ts : List Text). ts ++ string_bytes from ∷ string_bytes to ∷ []) same
    ∙ ap (λ (t : Text). map text (take (2 * i) texts) ++ t ∷ string_bytes to ∷ []) first
    ∙ ap (λ (t : Text). map text (take (2 * i) texts) ++ text a ∷ t ∷ []) second
    ∙ sym (append_assoc (map text (take (2 * i) texts)) (text a ∷ []) (text b ∷ [])) ∙ sym mapped
