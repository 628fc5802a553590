-- The words of overlay_live: what they ask for by the synopsis is what is read of them; and words ask once.
use Rattle.std.proofs.Common.{◌≡◌, ◌≤◌, ◌%◌, refl, sym, ap, subst, ◌∙◌, inl, inr, List, [], ◌∷◌, ◌++◌, length, true, false, not, ◌||◌, Some, None, Result, Ok, Err, IsErrAnd, IfErr, codes, bytes_eq, fold}
use Rattle.std.proofs.lemmas.Bool.{and_from, and_parts, eq-eqb, eqb-true, le-leb, leb-true, or_cases, or_left, true≢false}
use Rattle.std.proofs.lemmas.Option.{none-some}
use Rattle.std.proofs.lemmas.Slice.Eq.{bytes_eq-Decides}
use Rattle.std.specs.List.{filter_map, list_all, list_any}
use Rattle.clap.specs.Faults.{fault_of}
use Rattle.clap.specs.Simple.{Shape, built, matches_of}
use Rattle.clap.specs.Walk.{Row, first_of, nothing_held, with_default}
use Rattle.clap.specs.Walk as clap
use Rattle.clap.proofs.FaultLemmas.{leaf_fault}
use Rattle.clap.proofs.OnLiterals.{clap_on_literals}
use Rattle.program_words.proofs.Asked.{HasRules, Picks, asked_faults, fault_of_parts, few_given, flag_found, flags_among, from_asks, from_picked, known_parts, of_options, of_two, opened_by, picks_once, rows_are, rows_of_parts, to_asks, to_picked}
use Rattle.program_words.proofs.Asking.{both_flags, has, level_is}
use Rattle.program_words.proofs.Line.{IsKnown, IsLine, IsName, at, fits, flag_rule, found, option_rule, options, rows_at_end, total}
use Rattle.program_words.proofs.Overlayd.{kinds_of, known_option, known_plain}
use Rattle.program_words.proofs.RequestLemmas.{asked_if, asked_parts}
use Rattle.program_words.proofs.Rows.{flags_fit, parts_fit}
use Rattle.program_words.specs.CommandLine.{is_known, is_set}
use Rattle.program_words.specs.LiveLine.{is_alone, is_known_live, live_line, live_request_in, live_request_of}
use Rattle.program_words.specs.Synopsis.{AskOnce, Asks, AsksLive, Help, LiveRequest, RunRequest, Run, Version, Word, flag_of, flags_of, is_plain}
use Rattle.program_words.specs.declared.fault.WordFault.{WordFault}
use Rattle.program_words.specs.declared.fault.WordFault.TheVariants.{Words}
use Rattle.program_words.specs.declared.keeping.Opening.{Opening}
use Rattle.program_words.specs.declared.keeping.Opening.TheVariants.{Existing, New, ReadOnly}

abbrev top : Shape
top = (built live_line).top

abbrev id : Word
id = codes "path"

is_line : IsLine top both_flags id
unfolding clap_on_literals live_line
is_line = record {
  option_names = of_options (λ (name : Word). IsName top.rules name (option_rule name)) (record { long = refl; no_end = refl; found = refl })
      (record { long = refl; no_end = refl; found = refl }) (record { long = refl; no_end = refl; found = refl });
  option_ids = of_options (λ (name : Word). clap.arg_by_id top.rules name ≡ Some (option_rule name)) refl refl refl;
  flag_names = of_two (λ (name : Word). IsName top.rules name (flag_rule name)) (codes "create") (codes "read-only")
      (record { long = refl; no_end = refl; found = refl }) (record { long = refl; no_end = refl; found = refl });
  path_index = refl;
  path_id = refl;
  once = refl;
  apart_option = of_options (λ (name : Word). bytes_eq name id ≡ false) refl refl refl;
  apart_flag = of_two (λ (name : Word). bytes_eq name id ≡ false) (codes "create") (codes "read-only") refl refl;
  apart = λ name other is of_other.
      of_two (λ (n : Word). bytes_eq n other ≡ false) (codes "create") (codes "read-only")
      (of_options (λ (o : Word). bytes_eq (codes "create") o ≡ false) refl refl refl other of_other)
      (of_options (λ (o : Word). bytes_eq (codes "read-only") o ≡ false) refl refl refl other of_other) name is;
}

has_rules : HasRules top id
unfolding clap_on_literals live_line
has_rules = record {
  harmless = refl;
  checks = λ rows. refl;
  falses = refl;
  options = of_options (λ (name : Word). list_all (λ a. clap.is_empty a.defaults || not (bytes_eq a.id name)) top.rules ≡ true) refl refl refl;
  paths = refl;
}

fault_is : (words : List Word) → fault_of live_line (codes "overlay_live" ∷ words) ≡ total top (at [] None clap.idle) words
unfolding live_line
fault_is words = leaf_fault (built live_line) nothing_held words refl ∙ level_is top words has_rules.harmless has_rules.checks

matches_are : (words : List Word) → matches_of live_line (codes "overlay_live" ∷ words) ≡ fold with_default (rows_at_end top (at [] None clap.idle) words) top.rules
unfolding live_line
matches_are words = refl

kinds : (word : Word) → is_known_live word ≡ true → IsKnown both_flags word
kinds word known =
    elim (or_cases (is_known word) (bytes_eq word (codes "--read-only")) known) [
      | inl is ↦ kinds_of both_flags refl word is
      | inr e ↦ inr (inr (record { name = codes "read-only"; is = refl; spelled = (bytes_eq-Decides word (codes "--read-only")).0 e }))
    ]

known_live_plain : (word : Word) → is_plain word ≡ true → is_known_live word ≡ true
known_live_plain word plain = or_left (is_known word) _ (known_plain word plain)

known_live_option : (name : Word) → list_any (bytes_eq name) options ≡ true → is_known_live (codes "--" ++ name) ≡ true
known_live_option name is = or_left (is_known (codes "--" ++ name)) _ (known_option name is)

known_live_flag : (name : Word) → list_any (bytes_eq name) both_flags ≡ true → is_known_live (codes "--" ++ name) ≡ true
known_live_flag = of_two (λ (name : Word). is_known_live (codes "--" ++ name) ≡ true) (codes "create") (codes "read-only") refl refl

flags_known : (o : Opening) → list_all (λ name. list_any (bytes_eq name) both_flags) (flags_of o) ≡ true
flags_known Existing = refl
flags_known New = refl
flags_known ReadOnly = refl

-- parts that are asked for are those of the line
asked_fit : (words : List Word) (r : RunRequest) (a : Asks words r) → list_all (fits both_flags) a.parts ≡ true
asked_fit words r a = parts_fit both_flags a.parts a.known (flags_among (filter_map flag_of a.parts) both_flags r.opening a.opening (flags_known r.opening))

abbrev rows_for : List Word → List Row
rows_for words = matches_of live_line (codes "overlay_live" ∷ words)

rows_asked : (words : List Word) (r : RunRequest) (a : Asks words r) → rows_for words ≡ rows_of_parts top both_flags id is_line has_rules a.parts
rows_asked words r a = matches_are words ∙ rows_are top both_flags id is_line has_rules words a.parts a.spelled (asked_fit words r a)

-- what is asked for is picked
asked_picks : (words : List Word) (r : RunRequest) → Asks words r → Picks id (rows_for words) (is_set (first_of (codes "read-only") (rows_for words))) r
asked_picks words r a =
    let fit = asked_fit words r a in
    let fault = asked_faults top both_flags id is_line has_rules words r a fit in
    let seen : is_set (first_of (codes "read-only") (rows_of_parts top both_flags id is_line has_rules a.parts)) ≡ has (codes "read-only") (flags_of r.opening) =
    flag_found top both_flags id is_line has_rules a.parts fit fault (codes "read-only") refl ∙ ap (has (codes "read-only")) a.opening in
    subst (λ (rows : List Row). Picks id rows (is_set (first_of (codes "read-only") rows)) r) (sym (rows_asked words r a))
    (from_asks top both_flags id is_line has_rules a.parts fit fault words _ r a refl refl seen)

pub ask_once : AskOnce
ask_once words r s a b = picks_once id (rows_for words) _ r s (asked_picks words r a) (asked_picks words s b)

-- ---- both ways
pub to_run : (words : List Word) (r : RunRequest) → live_request_of words ≡ Some r → AsksLive words (Run r)
to_run words r e =
    let is = asked_parts (list_all is_known_live words) (fault_of live_line (codes "overlay_live" ∷ words)) (live_request_in (rows_for words)) r e in
    let none : total top (at [] None clap.idle) words ≡ [] = sym (fault_is words) ∙ is.1 in
    let f = (found top both_flags id is_line is_known_live kinds words is.0).0 [] None false none in
    let fault = sym (fault_of_parts top both_flags id is_line has_rules words f.parts f.spelled f.fit) ∙ none in
    let rows = matches_are words ∙ rows_are top both_flags id is_line has_rules words f.parts f.spelled f.fit in
    let p = from_picked _ _ _ _ _ _ r (subst (λ (them : List Row). live_request_in them ≡ Some r) rows is.2) in
    let names = flags_fit both_flags f.parts f.fit in
    let picks : Picks id (rows_of_parts top both_flags id is_line has_rules f.parts) (is_set (first_of (codes "read-only") (rows_of_parts top both_flags id is_line has_rules f.parts))) r =
    record { opening = p.opening_is; store = p.store_is; workers = p.workers_is; max_blocks = p.blocks_is; paths = p.paths_is } in
    let limits = and_parts _ _ p.limited in (
      to_asks top both_flags id is_line has_rules f.parts f.fit fault words _ r f.spelled
          (opened_by top both_flags id is_line has_rules f.parts f.fit fault _ r refl names
          (few_given top both_flags id is_line has_rules f.parts f.fit fault (codes "read-only") refl)
          (flag_found top both_flags id is_line has_rules f.parts f.fit fault (codes "read-only") refl) picks) picks,
      subst (λ (xs : List Word). length xs % 2 ≡ 0) p.paths_is (eqb-true _ 0 limits.0),
      subst (λ (xs : List Word). length xs ≤ 8) p.paths_is (leb-true _ 8 limits.1),
    )

pub from_run : (words : List Word) (r : RunRequest) → AsksLive words (Run r) → live_request_of words ≡ Some r
from_run words r (asks, pairs, few_paths) =
    let fit = asked_fit words r asks in
    let fault = asked_faults top both_flags id is_line has_rules words r asks fit in
    let none = fault_is words ∙ fault_of_parts top both_flags id is_line has_rules words asks.parts asks.spelled fit ∙ fault in
    let known = ap (list_all is_known_live) asks.spelled
    ∙ known_parts top both_flags id is_line has_rules is_known_live known_live_plain known_live_option known_live_flag asks.parts fit in
    let picks = asked_picks words r asks in
    let two = subst (λ (xs : List Word). length xs % 2 ≡ 0) (sym picks.paths) pairs in
    let few = subst (λ (xs : List Word). length xs ≤ 8) (sym picks.paths) few_paths in
    let request : live_request_in (rows_for words) ≡ Some r = to_picked _ _ _ _ _ _ r (record {
      limited = and_from _ _ (eq-eqb _ 0 two) (le-leb _ 8 few);
      opening_is = picks.opening;
      store_is = picks.store;
      workers_is = picks.workers;
      blocks_is = picks.max_blocks;
      paths_is = picks.paths;
    }) in
    asked_if (list_all is_known_live words) (fault_of live_line (codes "overlay_live" ∷ words)) (live_request_in (rows_for words)) known none ∙ request

-- ---- a word alone
pub alone_is : (text : Word) (words : List Word) → is_alone text words ≡ true → words ≡ text ∷ []
alone_is text [] e = absurd (true≢false (sym e))
alone_is text (word ∷ []) e = ap (λ (w : Word). w ∷ []) ((bytes_eq-Decides word text).0 e)
alone_is text (word ∷ next ∷ words) e = absurd (true≢false (sym e))

pub not_alone : (text : Word) (words : List Word) → is_alone text words ≡ false → words ≡ text ∷ [] → ⊥
not_alone text words e is =
    true≢false (sym ((bytes_eq-Decides text text).1 refl) ∙ sym (ap (is_alone text) is) ∙ e)

-- words that are neither of the two, and no run
pub nothing_asked : (words : List Word) → is_alone (codes "--help") words ≡ false → is_alone (codes "--version") words ≡ false → live_request_of words ≡ None
    → (question : LiveRequest) → AsksLive words question → ⊥
nothing_asked words help version none Help a = not_alone (codes "--help") words help a
nothing_asked words help version none Version a = not_alone (codes "--version") words version a
nothing_asked words help version none (Run r) a = none-some r (sym none ∙ from_run words r a)

-- a fault of a run that is passed on
pub refused_run : {A : Type 0} (words : List Word) (r : Result A WordFault) (x : WordFault) → IsErrAnd r (λ y. y ≡ x) → (x ≡ Words → live_request_of words ≡ None)
    → is_alone (codes "--help") words ≡ false → is_alone (codes "--version") words ≡ false
    → IfErr r (λ fault. fault ≡ Words → (question : LiveRequest) → AsksLive words question → ⊥)
refused_run words (Ok a) x e none help version = absurd e
refused_run words (Err y) x e none help version = λ is. nothing_asked words help version (none (sym e ∙ is))
