-- What the synopsis says that words ask for is what `clap` finds of them, within the limits.
use Rattle.std.proofs.Common.{◌≡◌, ◌≢◌, ◌⊎◌, ℕ, ◌≤◌, refl, sym, ap, ap₂, subst, ◌∙◌, inl, inr, List, [], ◌∷◌, length, fold, Bool, true, false, not, ◌&&◌, ◌||◌, IsTrue, Option, Some, None, codes, bytes_eq, if◌then◌else◌, arith}
use Rattle.std.proofs.lemmas.Bool.{and_parts, cases_Bool, le-leb, leb-true, or_cases, or_right, true≢false}
use Rattle.std.proofs.lemmas.Bool.Decides.{nat_tests}
use Rattle.std.proofs.lemmas.Option.{cond_some, none-some, option_and_then_some, same_Some}
use Rattle.std.proofs.lemmas.Slice.Eq.{bytes_eq-Decides}
use Rattle.std.specs.List.{filter, list_all, list_any}
use Rattle.std.specs.Prelude.{find, nat_le, option_and_then, option_map, option_to_list, slice_get}
use Rattle.clap.specs.Faults.{check_fault, default_fault, defaults_fault, given_default_fault, level_fault, settle_fault, walk_fault}
use Rattle.clap.specs.Kinds.{Kinds, or_else}
use Rattle.clap.specs.Simple.{Shape}
use Rattle.clap.specs.Walk.{Row, Rule, Text, all_of, default_rows, first_of, has_row, is_empty, nothing_held, reading_by, with_default}
use Rattle.clap.specs.Walk as clap
use Rattle.program_words.proofs.Line.{at, or_else_nil, rows_at_end, total}
use Rattle.program_words.proofs.Rows.{has_look, is_flag, look_other, look_same, none_of, texts}
use Rattle.program_words.specs.CommandLine.{is_set, number_or, opening_of}
use Rattle.overlay_terms.specs.Bytes.{digits_number}
use Rattle.program_words.specs.Synopsis.{IsNumber, Word, flags_of}
use Rattle.program_words.specs.declared.keeping.Opening.{Opening}
use Rattle.program_words.specs.declared.keeping.Opening.TheVariants.{Existing, New, ReadOnly}

pub none_empty : {A : Type 0} (x : A) (xs : List A) → is_empty (x ∷ xs) ≡ false
none_empty x xs = grind (arith, nat_tests)

-- ---- defaults: nothing, or the text `false` of a flag
rows_nil : (id : Text) (a : Rule) (vs : List Text) (rows : List Row) → is_empty vs ≡ true → default_rows id (reading_by a) vs rows ≡ rows
rows_nil id a [] rows empty = refl
rows_nil id a (v ∷ vs) rows empty = absurd (true≢false (sym empty ∙ none_empty v vs))

rows_off : (id key : Text) (a : Rule) (vs : List Text) (rows : List Row) → bytes_eq id key ≡ false → all_of key (default_rows id (reading_by a) vs rows) ≡ all_of key rows
rows_off id key a [] rows apart = refl
rows_off id key a (v ∷ vs) rows apart = look_other id key (reading_by a) _ (v ∷ vs) rows apart

either_rows : (b : Bool) (rows more : List Row) (key : Text) → all_of key more ≡ all_of key rows → all_of key (if b then rows else more) ≡ all_of key rows
either_rows true rows more key e = refl
either_rows false rows more key e = e

kept_default : (key : Text) (rows : List Row) (a : Rule) → (is_empty a.defaults || not (bytes_eq a.id key)) ≡ true → all_of key (with_default rows a) ≡ all_of key rows
kept_default key rows a is =
    either_rows (has_row a.id rows) rows (default_rows a.id (reading_by a) a.defaults rows) key
    (elim (or_cases (is_empty a.defaults) (not (bytes_eq a.id key)) is) [
      | inl empty ↦ ap (all_of key) (rows_nil a.id a a.defaults rows empty)
      | inr apart ↦ rows_off a.id key a a.defaults rows (not_true (bytes_eq a.id key) apart)
    ])
  where
    not_true : (b : Bool) → not b ≡ true → b ≡ false
    not_true true e = sym e
    not_true false e = refl

pub kept_defaults : (key : Text) (rules : List Rule) (rows : List Row) → list_all (λ a. is_empty a.defaults || not (bytes_eq a.id key)) rules ≡ true
    → all_of key (fold with_default rows rules) ≡ all_of key rows
kept_defaults key [] rows all = refl
kept_defaults key (a ∷ rules) rows all =
    let here = and_parts (is_empty a.defaults || not (bytes_eq a.id key)) (list_all (λ b. is_empty b.defaults || not (bytes_eq b.id key)) rules) all in
    kept_defaults key rules (with_default rows a) here.1 ∙ kept_default key rows a here.0

abbrev pub is_false : List Text → Bool
is_false [] = false
is_false (v ∷ []) = bytes_eq v (codes "false")
is_false (v ∷ w ∷ vs) = false

-- the first text of some, and those of rows
abbrev pub first_text : Option (List Text) → Option Text
first_text None = None
first_text (Some vs) = slice_get vs 0

pub first_look : (id : Text) (rows : List Row) → first_of id rows ≡ first_text (all_of id rows)
first_look id rows = by_found (find (λ (r : Row). bytes_eq r.id id) rows)
  where
    by_found : (o : Option Row) → option_and_then (λ (r : Row). slice_get r.values 0) o ≡ first_text (option_map (λ (r : Row). r.values) o)
    by_found None = refl
    by_found (Some r) = refl

-- the default of a flag is not set, nor is a flag without one
set_rows : (id key : Text) (a : Rule) (vs : List Text) (rows : List Row) → (is_empty vs || is_false vs) ≡ true → has_row id rows ≡ false
    → is_set (first_text (all_of key (default_rows id (reading_by a) vs rows))) ≡ is_set (first_text (all_of key rows))
set_rows id key a [] rows is none = refl
set_rows id key a (v ∷ []) rows is none =
    elim (cases_Bool (bytes_eq id key)) [
      | inl same ↦ subst (λ (k : Text). is_set (first_text (all_of k (default_rows id (reading_by a) (v ∷ []) rows))) ≡ is_set (first_text (all_of k rows)))
          ((bytes_eq-Decides id key).0 same) here
      | inr apart ↦ ap (λ (o : Option (List Text)). is_set (first_text o)) (look_other id key (reading_by a) _ (v ∷ []) rows apart)
    ]
  where
    nothing : all_of id rows ≡ None
    nothing = none_of (all_of id rows) (sym (has_look id rows) ∙ none)

    word : v ≡ codes "false"
    word = elim (or_cases (is_empty (v ∷ [])) (is_false (v ∷ [])) is) [
      | inl empty ↦ absurd (true≢false (sym empty ∙ none_empty v []))
      | inr e ↦ (bytes_eq-Decides v (codes "false")).0 e
    ]

    here : is_set (first_text (all_of id (default_rows id (reading_by a) (v ∷ []) rows))) ≡ is_set (first_text (all_of id rows))
    here =
        ap (λ (o : Option (List Text)). is_set (first_text o)) (look_same id (reading_by a) _ (v ∷ []) rows)
        ∙ rw (nothing, word) refl
set_rows id key a (v ∷ w ∷ vs) rows is none =
    absurd (elim (or_cases (is_empty (v ∷ w ∷ vs)) false is) [
      | inl empty ↦ true≢false (sym empty ∙ none_empty v (w ∷ vs))
      | inr e ↦ true≢false (sym e)
    ])

set_default : (key : Text) (rows : List Row) (a : Rule) → (is_empty a.defaults || is_false a.defaults) ≡ true
    → is_set (first_text (all_of key (with_default rows a))) ≡ is_set (first_text (all_of key rows))
set_default key rows a is =
    elim (cases_Bool (has_row a.id rows)) [
      | inl there ↦ rw there refl
      | inr none ↦ rw none (set_rows a.id key a a.defaults rows is none)
    ]

pub set_defaults : (key : Text) (rules : List Rule) (rows : List Row) → list_all (λ a. is_empty a.defaults || is_false a.defaults) rules ≡ true
    → is_set (first_text (all_of key (fold with_default rows rules))) ≡ is_set (first_text (all_of key rows))
set_defaults key [] rows all = refl
set_defaults key (a ∷ rules) rows all =
    let here = and_parts (is_empty a.defaults || is_false a.defaults) (list_all (λ b. is_empty b.defaults || is_false b.defaults) rules) all in
    set_defaults key rules (with_default rows a) here.1 ∙ set_default key rows a here.0

-- ---- a walk's fault is that of the whole parse
abbrev pub harmless : Rule → Bool
harmless a = is_empty a.defaults || is_empty (given_default_fault a a.defaults)

empty_is : (kinds : Kinds) → is_empty kinds ≡ true → kinds ≡ []
empty_is [] e = refl
empty_is (k ∷ ks) e = absurd (true≢false (sym e ∙ none_empty k ks))

no_default_fault : (rows : List Row) (a : Rule) → harmless a ≡ true → default_fault rows a ≡ []
no_default_fault rows a is = by_tests (has_row a.id rows) (is_empty a.defaults) (given_default_fault a a.defaults) is
  where
    by_tests : (there empty : Bool) (kinds : Kinds) → (empty || is_empty kinds) ≡ true → (if there || empty then [] else kinds) ≡ []
    by_tests true empty kinds e = refl
    by_tests false true kinds e = refl
    by_tests false false kinds e = empty_is kinds e

pub no_defaults_fault : (rules : List Rule) (rows : List Row) → list_all harmless rules ≡ true → defaults_fault rows rules ≡ []
unfolding defaults_fault
no_defaults_fault [] rows all = refl
no_defaults_fault (a ∷ rules) rows all =
    let here = and_parts (harmless a) (list_all harmless rules) all in
    ap₂ or_else (no_default_fault rows a here.0) (no_defaults_fault rules (with_default rows a) here.1)

pub level_is : (s : Shape) (words : List Word) → list_all harmless s.rules ≡ true → ((rows : List Row) → check_fault s rows false ≡ [])
    → level_fault s [] nothing_held words false [] ≡ total s (at [] None clap.idle) words
level_is s words defaults checks =
    let end = rows_at_end s (at [] None clap.idle) words in
    let after : or_else (defaults_fault end s.rules) (check_fault s (fold with_default end s.rules) false) ≡ [] = ap₂ or_else (no_defaults_fault s.rules end defaults) (checks (fold with_default end s.rules)) in
    ap (λ (k : Kinds). or_else (walk_fault s [] (at [] None clap.idle) words) (or_else (settle_fault s.rules s.args_override_self (clap.walk s.rules [] nothing_held words).held) k)) after
    ∙ ap (or_else (walk_fault s [] (at [] None clap.idle) words)) (or_else_nil (settle_fault s.rules s.args_override_self (clap.walk s.rules [] nothing_held words).held))

-- ---- flags and the opening
abbrev pub both_flags : List Word
both_flags = codes "create" ∷ codes "read-only" ∷ []

abbrev pub has : Word → List Word → Bool
has key names = list_any (is_flag key) names

abbrev pub count : Word → List Word → ℕ
count key names = length (filter (is_flag key) names)

which : (name : Word) → list_any (bytes_eq name) both_flags ≡ true → (name ≡ codes "create") ⊎ (name ≡ codes "read-only")
which name is =
    elim (or_cases (bytes_eq name (codes "create")) (bytes_eq name (codes "read-only") || false) is) [
      | inl e ↦ inl ((bytes_eq-Decides name (codes "create")).0 e)
      | inr more ↦ elim (or_cases (bytes_eq name (codes "read-only")) false more) [
        | inl e ↦ inr ((bytes_eq-Decides name (codes "read-only")).0 e)
        | inr e ↦ absurd (true≢false (sym e))
      ]
    ]

no_opening : (some : Bool) (o : Opening) → opening_of true true some ≡ Some o → ⊥
no_opening true o e = none-some o e
no_opening false o e = none-some o e

one_create : (some : Bool) (o : Opening) → opening_of true false some ≡ Some o → (codes "create" ∷ [] ≡ flags_of o) × (o ≢ Existing → IsTrue some)
one_create true o e = (ap flags_of (same_Some New o e), λ other. refl)
one_create false o e = absurd (none-some o e)

one_read : (some : Bool) (o : Opening) → opening_of false true some ≡ Some o → (codes "read-only" ∷ [] ≡ flags_of o) × (o ≢ Existing → IsTrue some)
one_read true o e = (ap flags_of (same_Some ReadOnly o e), λ other. refl)
one_read false o e = absurd (none-some o e)

twice : (key first second : Word) (more : List Word) → first ≡ key → second ≡ key → count key (first ∷ second ∷ more) ≤ 1 → ⊥
twice key first second more a b few =
    let one : bytes_eq first key ≡ true = (bytes_eq-Decides first key).1 a in
    let two : bytes_eq second key ≡ true = (bytes_eq-Decides second key).1 b in
    let whole : filter (is_flag key) (first ∷ second ∷ more) ≡ first ∷ second ∷ filter (is_flag key) more = rw (one, two) refl in
    absurd (omega (arith, few, ap (λ (xs : List Word). length xs) whole))

each_given : (first second : Word) (more : List Word) (some : Bool) (o : Opening) → has (codes "create") (first ∷ second ∷ more) ≡ true → has (codes "read-only") (first ∷ second ∷ more) ≡ true
    → opening_of (has (codes "create") (first ∷ second ∷ more)) (has (codes "read-only") (first ∷ second ∷ more)) some ≡ Some o → ⊥
each_given first second more some o a b e =
    no_opening some o (sym (ap₂ (λ (x : Bool) (y : Bool). opening_of x y some) a b) ∙ e)

has_first : (key first : Word) (more : List Word) → first ≡ key → has key (first ∷ more) ≡ true
has_first key first more e = rw ((bytes_eq-Decides first key).1 e) refl

has_later : (key first : Word) (more : List Word) → has key more ≡ true → has key (first ∷ more) ≡ true
has_later key first more e = or_right (bytes_eq first key) (has key more) e

pub to_flags : (names : List Word) → list_all (λ name. list_any (bytes_eq name) both_flags) names ≡ true → (some : Bool) (o : Opening) → count (codes "create") names ≤ 1
    → count (codes "read-only") names ≤ 1 → opening_of (has (codes "create") names) (has (codes "read-only") names) some ≡ Some o → (names ≡ flags_of o) × (o ≢ Existing → IsTrue some)
to_flags [] all some o a b e = (ap flags_of (same_Some Existing o e), λ other. absurd (other (sym (same_Some Existing o e))))
to_flags (name ∷ []) all some o a b e =
    elim (which name (and_parts (list_any (bytes_eq name) both_flags) true all).0) [
      | inl is ↦ subst (λ (n : Word). opening_of (has (codes "create") (n ∷ [])) (has (codes "read-only") (n ∷ [])) some ≡ Some o → (n ∷ [] ≡ flags_of o) × (o ≢ Existing → IsTrue some))
          (sym is) (one_create some o) e
      | inr is ↦ subst (λ (n : Word). opening_of (has (codes "create") (n ∷ [])) (has (codes "read-only") (n ∷ [])) some ≡ Some o → (n ∷ [] ≡ flags_of o) × (o ≢ Existing → IsTrue some))
          (sym is) (one_read some o) e
    ]
to_flags (first ∷ second ∷ more) all some o a b e =
    let here = and_parts (list_any (bytes_eq first) both_flags) (list_all (λ name. list_any (bytes_eq name) both_flags) (second ∷ more)) all in
    let next = and_parts (list_any (bytes_eq second) both_flags) (list_all (λ name. list_any (bytes_eq name) both_flags) more) here.1 in
    absurd (elim (which first here.0) [
      | inl create ↦ elim (which second next.0) [
        | inl again ↦ twice (codes "create") first second more create again a
        | inr read ↦ each_given first second more some o (has_first (codes "create") first (second ∷ more) create)
            (has_later (codes "read-only") first (second ∷ more) (has_first (codes "read-only") second more read)) e
      ]
      | inr read ↦ elim (which second next.0) [
        | inl create ↦ each_given first second more some o (has_later (codes "create") first (second ∷ more) (has_first (codes "create") second more create))
            (has_first (codes "read-only") first (second ∷ more) read) e
        | inr again ↦ twice (codes "read-only") first second more read again b
      ]
    ])

pub from_flags : (o : Opening) (some : Bool) → (o ≢ Existing → IsTrue some) → opening_of (has (codes "create") (flags_of o)) (has (codes "read-only") (flags_of o)) some ≡ Some o
from_flags Existing some named = refl
from_flags New some named = let is : some ≡ true = named (λ e. cc) in rw is refl
from_flags ReadOnly some named = let is : some ≡ true = named (λ e. cc) in rw is refl

one_few : (b : Bool) (name : Word) → length (if b then name ∷ [] else []) ≤ 1
one_few true name = omega arith
one_few false name = omega arith

pub few_flags : (key : Word) (o : Opening) → count key (flags_of o) ≤ 1
few_flags key Existing = omega arith
few_flags key New = one_few (bytes_eq (codes "create") key) (codes "create")
few_flags key ReadOnly = one_few (bytes_eq (codes "read-only") key) (codes "read-only")

-- ---- numbers
pub to_number : (xs : List Word) (usual most n : ℕ) → length xs ≤ 1 → number_or (slice_get xs 0) usual most ≡ Some n → IsNumber xs usual most n
to_number [] usual most n few e = sym (same_Some usual n e)
to_number (text ∷ []) usual most n few e =
    option_and_then_some (λ (m : ℕ). if nat_le 1 m && nat_le m most then Some m else None) (digits_number 7 text) n e
    (λ m is within.
    let both = cond_some (nat_le 1 m && nat_le m most) m n within in
    let tests = and_parts (nat_le 1 m) (nat_le m most) both.0 in
    (is ∙ ap Some both.1, subst (λ (k : ℕ). 1 ≤ k) both.1 (leb-true 1 m tests.0), subst (λ (k : ℕ). k ≤ most) both.1 (leb-true m most tests.1)))
to_number (text ∷ next ∷ texts) usual most n few e = absurd (omega arith)

pub from_number : (xs : List Word) (usual most n : ℕ) → IsNumber xs usual most n → number_or (slice_get xs 0) usual most ≡ Some n
from_number [] usual most n is = ap Some (sym is)
from_number (text ∷ []) usual most n is = rw (is.0, le-leb 1 n is.1, le-leb n most is.2) refl
from_number (text ∷ next ∷ texts) usual most n is = absurd is

pub few_number : (xs : List Word) (usual most n : ℕ) → IsNumber xs usual most n → length xs ≤ 1
few_number [] usual most n is = omega arith
few_number (text ∷ []) usual most n is = omega arith
few_number (text ∷ next ∷ texts) usual most n is = absurd is

pub to_listed : (xs : List Word) → length xs ≤ 1 → xs ≡ option_to_list (slice_get xs 0)
to_listed [] few = refl
to_listed (x ∷ []) few = refl
to_listed (x ∷ y ∷ ys) few = absurd (omega arith)

pub from_listed : (o : Option Word) → slice_get (option_to_list o) 0 ≡ o
from_listed None = refl
from_listed (Some x) = refl

pub few_listed : (o : Option Word) → length (option_to_list o) ≤ 1
few_listed None = omega arith
few_listed (Some x) = omega arith
