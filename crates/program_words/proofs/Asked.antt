-- Words of a command line: they ask by the synopsis for what is picked of the rows that `clap` finds.
use Rattle.std.proofs.Common.{◌≡◌, ◌≢◌, ℕ, suc, ◌≤◌, refl, sym, ap, subst, ◌∙◌, inl, inr, List, [], ◌∷◌, ◌++◌, length, map, fold, Bool, true, false, not, ◌||◌, ◌&&◌, ◌==◌, IsTrue, Option, Some, None, is_some, unwrap_or, codes, bytes_eq, flat_map, if◌then◌else◌, arith}
use Rattle.std.proofs.lemmas.Bool.{and_from, and_parts, cases_Bool, or_cases, true≢false}
use Rattle.std.proofs.lemmas.Option.{cond_some, none-some, same_Some}
use Rattle.std.proofs.lemmas.Slice.Eq.{bytes_eq-Decides}
use Rattle.std.specs.List.{filter, filter_map, list_all, list_any}
use Rattle.std.specs.Prelude.{option_and_then, option_to_list, slice_get}
use Rattle.clap.specs.Faults.{check_fault}
use Rattle.clap.specs.Simple.{Shape}
use Rattle.clap.specs.Walk.{Row, Rule, Text, all_of, first_of, is_empty, with_default}
use Rattle.clap.specs.Walk as clap
use Rattle.program_words.proofs.Line.{IsLine, at, fits, options, parts_fault, parts_rows, reads, rows_at_end, total}
use Rattle.program_words.proofs.Rows.{fit_parts, flags_are, is_flag, joined, look_parts, no_faults, nothing_given, once_from, paths_are, texts, turned, values_are}
use Rattle.program_words.proofs.Asking.{both_flags, count, few_flags, few_listed, few_number, first_look, first_text, from_flags, from_listed, from_number, harmless, has, is_false, kept_defaults, set_defaults, to_flags, to_listed, to_number}
use Rattle.program_words.specs.CommandLine.{is_set, number_or, opening_of}
use Rattle.program_words.specs.Synopsis.{Asks, LinePart, RunRequest, Word, option, flag, path, flag_of, flags_of, is_plain, path_of, value_for, words_of}
use Rattle.program_words.specs.declared.keeping.Opening.{Opening}
use Rattle.program_words.specs.declared.keeping.Opening.TheVariants.{Existing}

-- what the rules of a line have by themselves
pub record HasRules (s : Shape) (id : Word) : Type 0 where
  pub harmless : list_all harmless s.rules ≡ true
  pub checks : (rows : List Row) → check_fault s rows false ≡ []
  pub falses : list_all (λ a. is_empty a.defaults || is_false a.defaults) s.rules ≡ true
  pub options : (name : Word) → list_any (bytes_eq name) options ≡ true → list_all (λ a. is_empty a.defaults || not (bytes_eq a.id name)) s.rules ≡ true
  pub paths : list_all (λ a. is_empty a.defaults || not (bytes_eq a.id id)) s.rules ≡ true

-- a request is what rows have; `reads` says whether they have the flag `--read-only`
pub record Picks (id : Word) (rows : List Row) (reads : Bool) (r : RunRequest) : Type 0 where
  pub opening : opening_of (is_set (first_of (codes "create") rows)) reads (is_some (first_of (codes "store") rows)) ≡ Some r.opening
  pub store : first_of (codes "store") rows ≡ r.store
  pub workers : number_or (first_of (codes "workers") rows) 2 8 ≡ Some r.workers
  pub max_blocks : number_or (first_of (codes "max-blocks") rows) 65536 1048576 ≡ Some r.max_blocks
  pub paths : unwrap_or (all_of id rows) [] ≡ r.paths

-- a property of each of the three options, of one flag or of two
pub of_options : (P : Word → Type 0) → P (codes "store") → P (codes "workers") → P (codes "max-blocks") → (name : Word) → list_any (bytes_eq name) options ≡ true → P name
of_options P a b c name is =
    elim (or_cases (bytes_eq name (codes "store")) (bytes_eq name (codes "workers") || (bytes_eq name (codes "max-blocks") || false)) is) [
      | inl e ↦ subst P (sym ((bytes_eq-Decides name (codes "store")).0 e)) a
      | inr more ↦ elim (or_cases (bytes_eq name (codes "workers")) (bytes_eq name (codes "max-blocks") || false) more) [
        | inl e ↦ subst P (sym ((bytes_eq-Decides name (codes "workers")).0 e)) b
        | inr last ↦ elim (or_cases (bytes_eq name (codes "max-blocks")) false last) [
          | inl e ↦ subst P (sym ((bytes_eq-Decides name (codes "max-blocks")).0 e)) c
          | inr never ↦ absurd (true≢false (sym never))
        ]
      ]
    ]

pub of_one : (P : Word → Type 0) (only : Word) → P only → (name : Word) → list_any (bytes_eq name) (only ∷ []) ≡ true → P name
of_one P only a name is =
    elim (or_cases (bytes_eq name only) false is) [
      | inl e ↦ subst P (sym ((bytes_eq-Decides name only).0 e)) a
      | inr never ↦ absurd (true≢false (sym never))
    ]

pub of_two : (P : Word → Type 0) (first second : Word) → P first → P second → (name : Word) → list_any (bytes_eq name) (first ∷ second ∷ []) ≡ true → P name
of_two P first second a b name is =
    elim (or_cases (bytes_eq name first) (bytes_eq name second || false) is) [
      | inl e ↦ subst P (sym ((bytes_eq-Decides name first).0 e)) a
      | inr more ↦ of_one P second b name more
    ]

first_joined : (xs : List Text) → first_text (joined None xs) ≡ slice_get xs 0
first_joined [] = refl
first_joined (x ∷ xs) = refl

all_joined : (xs : List Text) → unwrap_or (joined None xs) [] ≡ xs
all_joined [] = refl
all_joined (x ∷ xs) = refl

set_texts : (key : Word) (names : List Word) → is_set (first_text (joined None (map (λ name. codes "true") (filter (is_flag key) names)))) ≡ has key names
set_texts key [] = refl
set_texts key (name ∷ names) =
    elim (cases_Bool (bytes_eq name key)) [
      | inl same ↦ rw same refl
      | inr other ↦ rw other (set_texts key names)
    ]

length_texts : (key : Word) (names : List Word) → length (map (λ name. codes "true") (filter (is_flag key) names)) ≡ count key names
length_texts key names = one_each (filter (is_flag key) names)
  where
    one_each : (xs : List Word) → length (map (λ (name : Word). codes "true") xs) ≡ length xs
    one_each [] = refl
    one_each (x ∷ xs) = ap suc (one_each xs)

-- three answers and a limit, and the request that they make
abbrev pub picked : (limit : Bool) (opening : Option Opening) (store : Option Word) (workers blocks : Option ℕ) (paths : List Word) → Option RunRequest
picked limit opening store workers blocks paths =
    option_and_then (λ o. option_and_then (λ w. option_and_then (λ m.
    if limit then Some (record { store = store; opening = o; workers = w; max_blocks = m; paths = paths }) else None) blocks) workers) opening

pub record IsPicked (limit : Bool) (opening : Option Opening) (store : Option Word) (workers blocks : Option ℕ) (paths : List Word) (r : RunRequest) : Type 0 where
  pub limited : limit ≡ true
  pub opening_is : opening ≡ Some r.opening
  pub store_is : store ≡ r.store
  pub workers_is : workers ≡ Some r.workers
  pub blocks_is : blocks ≡ Some r.max_blocks
  pub paths_is : paths ≡ r.paths

pub from_picked : (limit : Bool) (opening : Option Opening) (store : Option Word) (workers blocks : Option ℕ) (paths : List Word) (r : RunRequest)
    → picked limit opening store workers blocks paths ≡ Some r → IsPicked limit opening store workers blocks paths r
from_picked limit None store workers blocks paths r e = absurd (none-some r e)
from_picked limit (Some o) store None blocks paths r e = absurd (none-some r e)
from_picked limit (Some o) store (Some w) None paths r e = absurd (none-some r e)
from_picked limit (Some o) store (Some w) (Some m) paths r e =
    let is = cond_some limit (record { store = store; opening = o; workers = w; max_blocks = m; paths = paths }) r e in
    record {
      limited = is.0;
      opening_is = λ i. Some (is.1 i).opening;
      store_is = λ i. (is.1 i).store;
      workers_is = λ i. Some (is.1 i).workers;
      blocks_is = λ i. Some (is.1 i).max_blocks;
      paths_is = λ i. (is.1 i).paths;
    }

pub to_picked : (limit : Bool) (opening : Option Opening) (store : Option Word) (workers blocks : Option ℕ) (paths : List Word) (r : RunRequest)
    → IsPicked limit opening store workers blocks paths r → picked limit opening store workers blocks paths ≡ Some r
to_picked limit opening store workers blocks paths r is =
    (λ i. picked (is.limited i) (is.opening_is i) (is.store_is i) (is.workers_is i) (is.blocks_is i) (is.paths_is i))

module _ (s : Shape) (flags : List Word) (id : Word) (l : IsLine s flags id) (d : HasRules s id) where
  -- the rows at the end, with defaults
  abbrev pub rows_of_parts : List LinePart → List Row
  rows_of_parts parts = fold with_default (parts_rows id parts []) s.rules

  -- parts without a fault
  module _ (parts : List LinePart) (fit : list_all (fits flags) parts ≡ true) (none : parts_fault false id parts [] ≡ []) where
    option_found : (name : Word) → list_any (bytes_eq name) options ≡ true → first_of name (rows_of_parts parts) ≡ slice_get (filter_map (value_for name) parts) 0
    option_found name is =
        first_look name (rows_of_parts parts)
        ∙ ap first_text (kept_defaults name s.rules (parts_rows id parts []) (d.options name is) ∙ look_parts id name parts [] none ∙ ap (joined None) (values_are s flags id name l is parts fit))
        ∙ first_joined (filter_map (value_for name) parts)

    paths_found : unwrap_or (all_of id (rows_of_parts parts)) [] ≡ filter_map path_of parts
    paths_found =
        ap (λ (o : Option (List Text)). unwrap_or o []) (kept_defaults id s.rules (parts_rows id parts []) d.paths ∙ look_parts id id parts [] none ∙ ap (joined None) (paths_are s flags id l parts fit))
        ∙ all_joined (filter_map path_of parts)

    pub flag_found : (key : Word) → list_any (bytes_eq key) flags ≡ true → is_set (first_of key (rows_of_parts parts)) ≡ has key (filter_map flag_of parts)
    flag_found key is =
        ap is_set (first_look key (rows_of_parts parts)) ∙ set_defaults key s.rules (parts_rows id parts []) d.falses
        ∙ ap (λ (o : Option (List Text)). is_set (first_text o)) (look_parts id key parts [] none ∙ ap (joined None) (flags_are s flags id key l is parts fit))
        ∙ set_texts key (filter_map flag_of parts)

    few_values : (name : Word) → list_any (bytes_eq name) options ≡ true → length (filter_map (value_for name) parts) ≤ 1
    few_values name is =
        subst (λ (xs : List Word). length xs ≤ 1) (values_are s flags id name l is parts fit) (once_from id name parts [] (turned name id (l.apart_option name is)) none).1

    pub few_given : (key : Word) → list_any (bytes_eq key) flags ≡ true → count key (filter_map flag_of parts) ≤ 1
    few_given key is =
        let few = subst (λ (xs : List Text). length xs ≤ 1) (flags_are s flags id key l is parts fit) (once_from id key parts [] (turned key id (l.apart_flag key is)) none).1 in
        omega (arith, few, length_texts key (filter_map flag_of parts))

    -- what is picked is asked for: the opening by its flags, and all of it
    pub opened_by : (reads : Bool) (r : RunRequest) → list_any (bytes_eq (codes "create")) flags ≡ true
        → list_all (λ name. list_any (bytes_eq name) both_flags) (filter_map flag_of parts) ≡ true → count (codes "read-only") (filter_map flag_of parts) ≤ 1
        → reads ≡ has (codes "read-only") (filter_map flag_of parts) → Picks id (rows_of_parts parts) reads r
        → (filter_map flag_of parts ≡ flags_of r.opening) × (r.opening ≢ Existing → IsTrue (is_some r.store))
    opened_by reads r create all few seen p =
        let given : opening_of (is_set (first_of (codes "create") (rows_of_parts parts))) reads (is_some (first_of (codes "store") (rows_of_parts parts)))
        ≡ opening_of (has (codes "create") (filter_map flag_of parts)) (has (codes "read-only") (filter_map flag_of parts)) (is_some r.store) =
        λ i. opening_of (flag_found (codes "create") create i) (seen i) (is_some (p.store i)) in
        to_flags (filter_map flag_of parts) all (is_some r.store) r.opening (few_given (codes "create") create) few (sym given ∙ p.opening)

    pub to_asks : (words : List Word) (reads : Bool) (r : RunRequest) → words ≡ flat_map words_of parts
        → (filter_map flag_of parts ≡ flags_of r.opening) × (r.opening ≢ Existing → IsTrue (is_some r.store)) → Picks id (rows_of_parts parts) reads r → Asks words r
    to_asks words reads r spelled opened p = record {
      parts = parts;
      spelled = spelled;
      known = fit_parts flags parts fit;
      store = to_listed (filter_map (value_for (codes "store")) parts) (few_values (codes "store") refl) ∙ ap option_to_list (sym (option_found (codes "store") refl) ∙ p.store);
      opening = opened.0;
      named = opened.1;
      workers = to_number (filter_map (value_for (codes "workers")) parts) 2 8 r.workers (few_values (codes "workers") refl)
          (ap (λ (o : Option Text). number_or o 2 8) (sym (option_found (codes "workers") refl)) ∙ p.workers);
      max_blocks = to_number (filter_map (value_for (codes "max-blocks")) parts) 65536 1048576 r.max_blocks (few_values (codes "max-blocks") refl)
          (ap (λ (o : Option Text). number_or o 65536 1048576) (sym (option_found (codes "max-blocks") refl)) ∙ p.max_blocks);
      paths = sym paths_found ∙ p.paths;
    }

    -- what is asked for is picked
    pub from_asks : (words : List Word) (reads : Bool) (r : RunRequest) (a : Asks words r) → a.parts ≡ parts → list_any (bytes_eq (codes "create")) flags ≡ true
        → reads ≡ has (codes "read-only") (flags_of r.opening) → Picks id (rows_of_parts parts) reads r
    from_asks words reads r a same create seen =
        let store : first_of (codes "store") (rows_of_parts parts) ≡ r.store =
        option_found (codes "store") refl ∙ ap (λ (xs : List LinePart). slice_get (filter_map (value_for (codes "store")) xs) 0) (sym same) ∙ ap (λ (xs : List Word). slice_get xs 0) a.store ∙ from_listed r.store in
        let flags_here : filter_map flag_of parts ≡ flags_of r.opening = ap (filter_map flag_of) (sym same) ∙ a.opening in
        let made : is_set (first_of (codes "create") (rows_of_parts parts)) ≡ has (codes "create") (flags_of r.opening) = flag_found (codes "create") create ∙ ap (has (codes "create")) flags_here in
        let given : opening_of (is_set (first_of (codes "create") (rows_of_parts parts))) reads (is_some (first_of (codes "store") (rows_of_parts parts)))
        ≡ opening_of (has (codes "create") (flags_of r.opening)) (has (codes "read-only") (flags_of r.opening)) (is_some r.store) =
        λ i. opening_of (made i) (seen i) (is_some (store i)) in
        record {
          opening = given ∙ from_flags r.opening (is_some r.store) a.named;
          store = store;
          workers = ap (λ (o : Option Text). number_or o 2 8)
              (option_found (codes "workers") refl ∙ ap (λ (xs : List LinePart). slice_get (filter_map (value_for (codes "workers")) xs) 0) (sym same))
              ∙ from_number (filter_map (value_for (codes "workers")) a.parts) 2 8 r.workers a.workers;
          max_blocks = ap (λ (o : Option Text). number_or o 65536 1048576)
              (option_found (codes "max-blocks") refl ∙ ap (λ (xs : List LinePart). slice_get (filter_map (value_for (codes "max-blocks")) xs) 0) (sym same))
              ∙ from_number (filter_map (value_for (codes "max-blocks")) a.parts) 65536 1048576 r.max_blocks a.max_blocks;
          paths = paths_found ∙ ap (filter_map path_of) (sym same) ∙ a.paths;
        }

  -- what is asked for has no fault
  few_asked : (words : List Word) (r : RunRequest) (a : Asks words r) → list_all (fits flags) a.parts ≡ true → (key : Word) → bytes_eq id key ≡ false → length (texts id key a.parts) ≤ 1
  few_asked words r a fit key apart =
      elim (cases_Bool (list_any (bytes_eq key) options)) [
        | inl is ↦ subst (λ (xs : List Word). length xs ≤ 1) (sym (values_are s flags id key l is a.parts fit))
            (of_options (λ (name : Word). length (filter_map (value_for name) a.parts) ≤ 1)
            (subst (λ (xs : List Word). length xs ≤ 1) (sym a.store) (few_listed r.store))
            (few_number (filter_map (value_for (codes "workers")) a.parts) 2 8 r.workers a.workers)
            (few_number (filter_map (value_for (codes "max-blocks")) a.parts) 65536 1048576 r.max_blocks a.max_blocks) key is)
        | inr unlike ↦ elim (cases_Bool (list_any (bytes_eq key) flags)) [
          | inl is ↦ subst (λ (xs : List Text). length xs ≤ 1) (sym (flags_are s flags id key l is a.parts fit))
              (omega (
                arith,
                length_texts key (filter_map flag_of a.parts),
                subst (λ (xs : List Word). count key xs ≤ 1) (sym a.opening) (few_flags key r.opening),
              ))
          | inr other ↦ subst (λ (xs : List Text). length xs ≤ 1) (sym (nothing_given flags id key unlike other apart a.parts fit)) (omega arith)
        ]
      ]

  pub asked_faults : (words : List Word) (r : RunRequest) (a : Asks words r) → list_all (fits flags) a.parts ≡ true → parts_fault false id a.parts [] ≡ []
  asked_faults words r a fit =
      no_faults s flags id l a.parts [] fit (λ key apart. ((λ some. absurd (true≢false (sym some))), few_asked words r a fit key apart))

  -- the fault of parts, as that of the walk over their words
  pub fault_of_parts : (words : List Word) (parts : List LinePart) → words ≡ flat_map words_of parts → list_all (fits flags) parts ≡ true → total s (at [] None clap.idle) words ≡ parts_fault false id parts []
  fault_of_parts words parts spelled fit =
      ap (total s (at [] None clap.idle)) spelled ∙ (reads s flags id l [] None false parts fit).faults ∙ ap (λ (b : Bool). parts_fault b id parts []) l.once

  pub rows_are : (words : List Word) (parts : List LinePart) → words ≡ flat_map words_of parts → list_all (fits flags) parts ≡ true
      → fold with_default (rows_at_end s (at [] None clap.idle) words) s.rules ≡ rows_of_parts parts
  rows_are words parts spelled fit =
      ap (λ (rows : List Row). fold with_default rows s.rules) (ap (rows_at_end s (at [] None clap.idle)) spelled ∙ (reads s flags id l [] None false parts fit).at_end)

  -- each word of parts is known, where plain words and the names are
  pub known_parts : (known : Word → Bool) → ((word : Word) → is_plain word ≡ true → known word ≡ true)
      → ((name : Word) → list_any (bytes_eq name) options ≡ true → known (codes "--" ++ name) ≡ true)
      → ((name : Word) → list_any (bytes_eq name) flags ≡ true → known (codes "--" ++ name) ≡ true) → (parts : List LinePart) → list_all (fits flags) parts ≡ true
      → list_all known (flat_map words_of parts) ≡ true
  known_parts known plain named flagged [] fit = refl
  known_parts known plain named flagged (option name value ∷ parts) fit =
      let is = and_parts (list_any (bytes_eq name) options && is_plain value) (list_all (fits flags) parts) fit in
      let here = and_parts (list_any (bytes_eq name) options) (is_plain value) is.0 in
      and_from (known (codes "--" ++ name)) _ (named name here.0) (and_from (known value) _ (plain value here.1) (known_parts known plain named flagged parts is.1))
  known_parts known plain named flagged (flag name ∷ parts) fit =
      let is = and_parts (list_any (bytes_eq name) flags) (list_all (fits flags) parts) fit in
      and_from (known (codes "--" ++ name)) _ (flagged name is.0) (known_parts known plain named flagged parts is.1)
  known_parts known plain named flagged (path text ∷ parts) fit =
      let is = and_parts (is_plain text) (list_all (fits flags) parts) fit in
      and_from (known text) _ (plain text is.0) (known_parts known plain named flagged parts is.1)

-- rows make one request
pub picks_once : (id : Word) (rows : List Row) (reads : Bool) (r s : RunRequest) → Picks id rows reads r → Picks id rows reads s → r ≡ s
picks_once id rows reads r s p q =
    let opening : r.opening ≡ s.opening = same_Some r.opening s.opening (sym p.opening ∙ q.opening) in
    let store : r.store ≡ s.store = sym p.store ∙ q.store in
    let workers : r.workers ≡ s.workers = same_Some r.workers s.workers (sym p.workers ∙ q.workers) in
    let blocks : r.max_blocks ≡ s.max_blocks = same_Some r.max_blocks s.max_blocks (sym p.max_blocks ∙ q.max_blocks) in
    let paths : r.paths ≡ s.paths = sym p.paths ∙ q.paths in
    λ i. record { store = store i; opening = opening i; workers = workers i; max_blocks = blocks i; paths = paths i }

-- flags among some, and how words that begin with a hyphen are known
pub flags_among : (names flags : List Word) (o : Opening) → names ≡ flags_of o → list_all (λ name. list_any (bytes_eq name) flags) (flags_of o) ≡ true
    → list_all (λ name. list_any (bytes_eq name) flags) names ≡ true
flags_among names flags o e all = ap (list_all (λ name. list_any (bytes_eq name) flags)) e ∙ all

pub plain_other : (b : ℕ) (rest : List ℕ) → not (b == 45) ≡ true → is_plain (b ∷ rest) ≡ true
plain_other b [] e = refl
plain_other b (c ∷ rest) e = e
